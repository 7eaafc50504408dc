-- The lines of pages in a sequence, before and after one page changes.
use Rattle.std.proofs.Common.{◌≡◌, ℕ, ◌+◌, ◌<◌, ◌≤◌, Bool, true, false, ◌||◌, cond, nat_eq, List, [], ◌∷◌, ◌++◌, refl, sym, ap, subst, ◌∙◌, append_assoc, arith}
use Rattle.std.specs.List.{flat_map}
use Rattle.std.proofs.lemmas.Bool.Decides.{nat_tests}
use Rattle.std.proofs.lemmas.Bool.{or_parts, or_from, or_left, or_right}
use Rattle.std.proofs.lemmas.List.Folds.{list_any-append}
use Rattle.cov_base.specs.Addresses.{after_first}
use Rattle.cov_order.specs.Orders.{has_line, AreLines}
use Rattle.cov_order.specs.Pages.{has_page, ArePages}
use Rattle.cov_order.proofs.Places.{any-after_first, after_first-front, after_first-back, lines-back, lines-apart}

-- a page of a sequence is one of those counted
pub below : (count k : ℕ) (ns : List ℕ) → ArePages count ns → has_page k ns ≡ true → k < count
below count k [] pages there = absurd (cc)
below count k (n ∷ ns) pages there = at (nat_eq n k) refl there (λ h. below count k ns pages.2 h)
  where
    at : (b : Bool) → nat_eq n k ≡ b → (b || has_page k ns) ≡ true → (has_page k ns ≡ true → k < count) → k < count
    at true e h rest = let same : n ≡ k = grind (arith, nat_tests, e) in subst (λ m. m < count) same pages.0
    at false e h rest = rest h

-- and the next number isn't there
pub fresh : (count : ℕ) (ns : List ℕ) → ArePages count ns → has_page count ns ≡ false
fresh count [] pages = refl
fresh count (n ∷ ns) pages =
    let less : n < count = pages.0 in
    let other : nat_eq n count ≡ false = grind (arith, nat_tests, less) in
    or_from (nat_eq n count) (has_page count ns) other (fresh count ns pages.2)

pub more_pages : (count m : ℕ) (ns : List ℕ) → count ≤ m → ArePages count ns → ArePages m ns
more_pages count m [] more pages = tt
more_pages count m (n ∷ ns) more pages =
    let less : n < count = pages.0 in
    (omega (arith, less, more), pages.1, more_pages count m ns more pages.2)

-- the next number put in a sequence
pub with_page : (t : ℕ → Bool) (count m : ℕ) (ns : List ℕ) → m ≡ count + 1 → ArePages count ns → ArePages m (after_first t count ns)
with_page t count m [] more pages = (omega (arith, more), refl, tt)
with_page t count m (n ∷ ns) more pages = at (t n) (with_page t count m ns more pages.2)
  where
    less : n < count
    less = pages.0

    other : nat_eq count n ≡ false
    other = grind (arith, nat_tests, less)

    at : (b : Bool) → ArePages m (after_first t count ns) → ArePages m (cond b (n ∷ count ∷ ns) (n ∷ after_first t count ns))
    at true rest = (
      omega (arith, less, more),
      or_from (nat_eq count n) (has_page n ns) other pages.1,
      (omega (arith, more), fresh count ns pages.2, more_pages count m ns (omega (arith, more)) pages.2),
    )
    at false rest =
        (omega (arith, less, more), any-after_first t count (λ i. nat_eq i n) ns ∙ or_from (nat_eq count n) (has_page n ns) other pages.1, rest)

-- the lines of the pages before are f, those after g, and all pages but the one have the same
module _ (f g : ℕ → List ℕ) (k count : ℕ) (same : (j : ℕ) → nat_eq j k ≡ false → j < count → g j ≡ f j) where
  away : (ns : List ℕ) → ArePages count ns → has_page k ns ≡ false → flat_map g ns ≡ flat_map f ns
  away [] pages out = refl
  away (n ∷ ns) pages out =
      let parts = or_parts (nat_eq n k) (has_page k ns) out in
      ap (λ l. l ++ flat_map g ns) (same n parts.0 pages.0) ∙ ap (λ l. f n ++ l) (away ns pages.2 parts.1)

  among : (a : ℕ) (ns : List ℕ) → has_page k ns ≡ true → has_line a (f k) ≡ true → has_line a (flat_map f ns) ≡ true
  among a [] there on = absurd (cc)
  among a (n ∷ ns) there on = list_any-append (λ i. nat_eq i a) (f n) (flat_map f ns) ∙ at (nat_eq n k) refl there (λ h. among a ns h on)
    where
      at : (b : Bool) → nat_eq n k ≡ b → (b || has_page k ns) ≡ true → (has_page k ns ≡ true → has_line a (flat_map f ns) ≡ true) → (has_line a (f n) || has_line a (flat_map f ns)) ≡ true
      at true e h rest =
          let is : n ≡ k = grind (arith, nat_tests, e) in
          or_left (has_line a (f n)) (has_line a (flat_map f ns)) (ap (λ m. has_line a (f m)) is ∙ on)
      at false e h rest = or_right (has_line a (f n)) (has_line a (flat_map f ns)) (rest h)

  -- the page is split in two, the second of which is new
  pub split : (ns : List ℕ) → ArePages count ns → has_page k ns ≡ true → g k ++ g count ≡ f k
      → flat_map g (after_first (λ n. nat_eq n k) count ns) ≡ flat_map f ns
  split [] pages there halves = absurd (cc)
  split (n ∷ ns) pages there halves = at (nat_eq n k) refl there (λ h. split ns pages.2 h halves)
    where
      at : (b : Bool) → nat_eq n k ≡ b → (b || has_page k ns) ≡ true
          → (has_page k ns ≡ true → flat_map g (after_first (λ m. nat_eq m k) count ns) ≡ flat_map f ns)
          → flat_map g (cond b (n ∷ count ∷ ns) (n ∷ after_first (λ m. nat_eq m k) count ns)) ≡ f n ++ flat_map f ns
      at true e h rest =
          let is : n ≡ k = grind (arith, nat_tests, e) in
          let out : has_page k ns ≡ false = subst (λ m. has_page m ns ≡ false) is pages.1 in
          ap (λ m. g m ++ (g count ++ flat_map g ns)) is ∙ sym (append_assoc (g k) (g count) (flat_map g ns))
          ∙ ap (λ l. l ++ flat_map g ns) halves ∙ ap (λ l. f k ++ l) (away ns pages.2 out) ∙ ap (λ m. f m ++ flat_map f ns) (sym is)
      at false e h rest =
          ap (λ l. l ++ flat_map g (after_first (λ m. nat_eq m k) count ns)) (same n e pages.0) ∙ ap (λ l. f n ++ l) (rest h)

  -- a line is put on the page, behind one that is there
  pub put : (anchor line : ℕ) (ns : List ℕ) → ArePages count ns → has_page k ns ≡ true → AreLines (flat_map f ns)
      → has_line anchor (f k) ≡ true → g k ≡ after_first (λ n. nat_eq n anchor) line (f k)
      → flat_map g ns ≡ after_first (λ n. nat_eq n anchor) line (flat_map f ns)
  put anchor line [] pages there lines on new = absurd (cc)
  put anchor line (n ∷ ns) pages there lines on new =
      at (nat_eq n k) refl there (λ h. put anchor line ns pages.2 h (lines-back (f n) (flat_map f ns) lines) on new)
    where
      at : (b : Bool) → nat_eq n k ≡ b → (b || has_page k ns) ≡ true → (has_page k ns ≡ true → flat_map g ns ≡ after_first (λ m. nat_eq m anchor) line (flat_map f ns))
          → g n ++ flat_map g ns ≡ after_first (λ m. nat_eq m anchor) line (f n ++ flat_map f ns)
      at true e h rest =
          let is : n ≡ k = grind (arith, nat_tests, e) in
          let out : has_page k ns ≡ false = subst (λ m. has_page m ns ≡ false) is pages.1 in
          ap (λ m. g m ++ flat_map g ns) is ∙ ap (λ l. l ++ flat_map g ns) new
          ∙ ap (λ l. after_first (λ m. nat_eq m anchor) line (f k) ++ l) (away ns pages.2 out)
          ∙ sym (after_first-front (λ m. nat_eq m anchor) line (f k) (flat_map f ns) on)
          ∙ ap (λ m. after_first (λ i. nat_eq i anchor) line (f m ++ flat_map f ns)) (sym is)
      at false e h rest =
          let out : has_line anchor (f n) ≡ false = lines-apart anchor (f n) (flat_map f ns) lines (among anchor ns h on) in
          ap (λ l. l ++ flat_map g ns) (same n e pages.0) ∙ ap (λ l. f n ++ l) (rest h)
          ∙ sym (after_first-back (λ m. nat_eq m anchor) line (f n) (flat_map f ns) out)

  -- a line is put first on the first page
  pub put_first : (line : ℕ) (ns : List ℕ) → ArePages count (k ∷ ns) → g k ≡ line ∷ f k → flat_map g (k ∷ ns) ≡ line ∷ flat_map f (k ∷ ns)
  put_first line ns pages new = ap (λ l. l ++ flat_map g ns) new ∙ ap (λ l. line ∷ (f k ++ l)) (away ns pages.2 pages.1)
