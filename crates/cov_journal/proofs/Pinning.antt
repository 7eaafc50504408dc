-- Which bytes an append writes, and where its images differ.
use Rattle.std.proofs.Common.{◌≡◌, ℕ, ◌+◌, ◌-◌, ◌<◌, ◌≤◌, List, [], ◌∷◌, ◌++◌, length, take, drop, Option, sym, ◌∙◌, ap, subst, arith, append_assoc, length-take}
use Rattle.std.proofs.lemmas.List.{take-take, take_at, drop_at, drop-drop}
use Rattle.cov_base.specs.Texts.{Written}
use Rattle.cov_disk.specs.Images.{Torn, LeavesOnly, Told}
use Rattle.cov_disk.proofs.CallerLemmas.{joined, weakened}
use Rattle.cov_journal.specs.Gates.{HasGate}
use Rattle.cov_journal.specs.Moments.{IsTornFrom}
use Rattle.cov_journal.proofs.Moments.{told_both}

-- bytes behind a gate, and the gate over the one before them, are one write
written_both : (at : ℕ) (s d e f : List ℕ) → at < length d → Written (at + 1) s d e → Written at (1 ∷ []) e f → Written at (1 ∷ s) d f
written_both at s d e f within first second =
    let front = take (at + 1) d in
    let rest = drop (at + 1 + length s) d in
    let size : length front ≡ at + 1 = omega (arith, length-take (at + 1) d, within) in
    let parts : e ≡ front ++ (s ++ rest) = first ∙ append_assoc front s rest in
    let low : at ≤ at + 1 = omega arith in
    let before : take at e ≡ take at d =
    sym (take-take at (at + 1) e low) ∙ ap (λ l. take at l) (ap (take (at + 1)) parts ∙ take_at front (s ++ rest) (at + 1) size) ∙ take-take at (at + 1) d low in
    let behind : drop (at + 1) e ≡ s ++ rest = ap (drop (at + 1)) parts ∙ drop_at front (s ++ rest) (at + 1) size in
    let end : at + 1 + length s ≡ at + length (1 ∷ s) = omega arith in
    second ∙ ap (λ l. l ++ (1 ∷ []) ++ drop (at + 1) e) before ∙ ap (λ l. take at d ++ (1 ∷ []) ++ l) behind
    ∙ append_assoc (take at d) (1 ∷ []) (s ++ rest) ∙ sym (append_assoc (take at d) (1 ∷ s) rest) ∙ ap (λ k. take at d ++ (1 ∷ s) ++ drop k d) end

pub told_record : (at : ℕ) (s t : List ℕ) (o m n : Option (List ℕ)) → s ≡ t → HasGate o at → Told (Written (at + 1) s) o m → Told (Written at (1 ∷ [])) m n → Told (Written at (1 ∷ t)) o n
told_record at s t o m n is gate first second =
    subst (λ l. Told (Written at (1 ∷ l)) o n) is
    (told_both (Written (at + 1) s) (Written at (1 ∷ [])) (Written at (1 ∷ s)) (λ d. at < length d) (written_both at s) o m n gate first second)

-- what is torn in a range is torn in a wider one
pub torn_wider : (a m b n : ℕ) (d c : List ℕ) → b ≤ a → a + m ≤ b + n → Torn a m d c → Torn b n d c
torn_wider a m b n d c low high torn =
    let more : a + m + (b + n - (a + m)) ≡ b + n = omega (arith, high) in
    let k = b + n - (a + m) in
    record {
      before = sym (take-take b a c low) ∙ ap (take b) torn.before ∙ take-take b a d low;
      after = ap (λ j. drop j c) (sym more) ∙ sym (drop-drop k (a + m) c) ∙ ap (drop k) torn.after ∙ drop-drop k (a + m) d ∙ ap (λ j. drop j d) more;
      no_shorter = torn.no_shorter;
      no_longer = omega (arith, torn.no_longer, high);
    }

pub torn_twice : (at n : ℕ) (d e f : List ℕ) → Torn at n d e → Torn at n e f → Torn at n d f
torn_twice at n d e f first second = record {
  before = second.before ∙ first.before;
  after = second.after ∙ first.after;
  no_shorter = omega (arith, first.no_shorter, second.no_shorter);
  no_longer = omega (arith, first.no_longer, second.no_longer);
}

module _ {D : Type 0} (moment : D → ℕ) (images_since : D → ℕ → List ℕ → Type 0) (images : D → List ℕ → Type 0)
    (counts_now : (disk : D) (t : ℕ) (c : List ℕ) → t ≤ moment disk → images disk c → images_since disk t c)
    (at m n : ℕ) (size : m + 1 ≡ n) where
  -- the images while the record is put behind the gate
  pub outside_first : (old mid : D) → LeavesOnly moment images_since old mid (IsTornFrom (images old) (at + 1) m) → LeavesOnly moment images_since old mid (IsTornFrom (images old) at n)
  outside_first old mid first =
      weakened moment images_since old mid (IsTornFrom (images old) (at + 1) m) (IsTornFrom (images old) at n)
      (λ f from. (from.0, from.1, torn_wider (at + 1) m at n from.0 f (omega arith) (omega (arith, size)) from.2)) first

  -- and while the gate is opened after it
  pub outside_both : (old mid new : D) → LeavesOnly moment images_since old mid (IsTornFrom (images old) (at + 1) m) → LeavesOnly moment images_since mid new (IsTornFrom (images mid) at 1)
      → LeavesOnly moment images_since old new (IsTornFrom (images old) at n)
  outside_both old mid new first second =
      joined moment images_since old mid new (IsTornFrom (images old) at n) (outside_first old mid first)
      (weakened moment images_since mid new (IsTornFrom (images mid) at 1) (IsTornFrom (images old) at n)
      (λ f from.
      let past = first.each from.0 (counts_now mid (moment old) from.0 first.later from.1) in (
        past.0,
        past.1,
        torn_twice at n past.0 from.0 f (torn_wider (at + 1) m at n past.0 from.0 (omega arith) (omega (arith, size)) past.2)
            (torn_wider at 1 at n from.0 f (omega arith) (omega (arith, size)) from.2),
      )) second)
