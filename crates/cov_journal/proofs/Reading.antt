-- A record by its pieces.
use Rattle.std.proofs.Common.{◌≡◌, inr, ℕ, ◌+◌, ◌-◌, ◌<◌, ◌^◌, List, ◌∷◌, ◌++◌, length, take, drop, get_or, slice_index, slice_range, Option, Some, None, Result, Ok, Err, IfOk, IfErr, IfSome, refl, sym, ◌∙◌, ap, subst, arith, append_assoc, length-take, length-drop, take-append-drop}
use Rattle.std.proofs.lemmas.List.{drop_more, drop-drop, drop-take, get_or-take, get_or-drop}
use Rattle.std.specs.Int.{w32, to_be_bytes, from_be_bytes}
use Rattle.cov_journal.specs.Journal.{next_digest, body}
use Rattle.cov_journal.specs.Places.{Place}
use Rattle.cov_journal.specs.Reading.{HasFront, IsFront, HasLength, IsRecord, HasOtherDigest, IsNext, IsFault, Compares}
use Rattle.cov_journal.specs.declared.damage.Damage.TheVariants as damages
use Rattle.cov_journal.specs.declared.front.Front.{Front}
use Rattle.cov_journal.specs.declared.front.Front.TheVariants as fronts
use Rattle.cov_journal.specs.declared.reader.Next.{Next}
use Rattle.cov_journal.specs.declared.reader.Next.TheVariants.{Record, End}
use Rattle.cov_journal.specs.declared.reader.ReadRecordFault.{ReadRecordFault}
use Rattle.cov_journal.specs.declared.reader.ReadRecordFault.TheVariants as faults
use Rattle.cov_journal.proofs.Moments.{some_to}

-- bytes that are dropped in two steps
drop_to : (m n k : ℕ) (l : List ℕ) → k ≡ m + n → drop n (drop m l) ≡ drop k l
drop_to m n k l is = drop-drop n m l ∙ ap (λ j. drop j l) (sym is)

front_gate : (gate : ℕ) (image front : List ℕ) → front ≡ take 5 (drop gate image) → slice_index image gate ≡ slice_index front 0
front_gate gate image front is =
    ap (λ k. get_or image k 0) (let e : gate ≡ gate + 0 = omega arith in e)
    ∙ sym (ap (λ l. get_or l 0 0) is ∙ get_or-take 5 (drop gate image) 0 0 (omega arith) ∙ get_or-drop gate image 0 0)

front_length : (gate : ℕ) (image front : List ℕ) → front ≡ take 5 (drop gate image) → drop 1 front ≡ take 4 (drop (gate + 1) image)
front_length gate image front is = ap (drop 1) is ∙ drop-take 1 4 (drop gate image) ∙ ap (take 4) (drop_to gate 1 (gate + 1) image refl)

-- the first five bytes from a gate on tell what stands there
front_by : (gate behind : ℕ) (image front : List ℕ) (f : Front) → behind ≡ length image - gate - 1 → front ≡ take 5 (drop gate image) → IsFront front behind f → HasFront gate image f
front_by gate behind image front fronts.Closed size is known = λ opened. known (sym (front_gate gate image front is) ∙ opened)
front_by gate behind image front fronts.Cut size is known = (
  front_gate gate image front is ∙ known.0,
  inr (omega (arith, known.1, size, length-drop (gate + 1) image, ap (from_be_bytes w32) (front_length gate image front is))),
)
front_by gate behind image front (fronts.Whole n) size is known = (
  front_gate gate image front is ∙ known.0,
  (known.1, sym (front_length gate image front is) ∙ known.2, omega (arith, known.3, size, length-drop (gate + 1) image)),
)

pub front_known : (gate behind : ℕ) (front : List ℕ) (f : Front) (o : Option (List ℕ)) → IfSome o (λ b. behind ≡ length b - gate - 1) → IfSome o (λ b. front ≡ take 5 (drop gate b))
    → IsFront front behind f → IfSome o (λ b. HasFront gate b f)
front_known gate behind front f None size is known = tt
front_known gate behind front f (Some b) size is known = front_by gate behind b front f size is known

-- what stands behind a payload
behind_payload : (at count n : ℕ) (b : List ℕ) → n ≡ count + 32 → drop count (slice_range b at (at + n)) ≡ take 32 (drop (at + count) b)
behind_payload at count n b size =
    ap (λ k. drop count (take k (drop at b))) (let e : at + n - at ≡ count + 32 = omega (arith, size) in e)
    ∙ drop-take count 32 (drop at b) ∙ ap (take 32) (drop_to at count (at + count) b refl)

pub digest_known : {T E : Type 0} (digest : T → List ℕ) (at count n : ℕ) (bytes : List ℕ) (o : Option (List ℕ)) (result : Result T E) → n ≡ count + 32
    → IfSome o (λ b. bytes ≡ slice_range b at (at + n)) → IfOk result (λ t. digest t ≡ drop count bytes) → IfOk result (λ t. IfSome o (λ b. digest t ≡ take 32 (drop (at + count) b)))
digest_known digest at count n bytes o (Err e) size read known = tt
digest_known digest at count n bytes None (Ok t) size read known = tt
digest_known digest at count n bytes (Some b) (Ok t) size read known = known ∙ ap (drop count) read ∙ behind_payload at count n b size

-- a whole open record with this payload and this digest
pub record IsWhole (at : ℕ) (p d image : List ℕ) : Type 0 where
  pub bytes : drop at image ≡ 1 ∷ (body d p ++ drop (at + length p + 37) image)
  pub within : at + length p + 37 < length image
  pub size : length d ≡ 32

-- by its length, its payload and its digest
whole_by : (at : ℕ) (p d b : List ℕ) → at < length b → slice_index b at ≡ 1 → HasLength (drop (at + 1) b) (length p) → p ≡ take (length p) (drop (at + 5) b)
    → d ≡ take 32 (drop (at + 5 + length p) b) → IsWhole at p d b
whole_by at p d b within opened has payload digest =
    let n = length p in
    let first : drop at b ≡ 1 ∷ drop (at + 1) b = drop_more b at 0 within ∙ ap (λ g. g ∷ drop (at + 1) b) opened in
    let second : drop (at + 1) b ≡ to_be_bytes w32 n ++ drop (at + 5) b =
    sym (take-append-drop 4 (drop (at + 1) b)) ∙ ap (λ l. l ++ drop 4 (drop (at + 1) b)) has.1 ∙ ap (λ l. to_be_bytes w32 n ++ l) (drop_to (at + 1) 4 (at + 5) b (omega arith)) in
    let third : drop (at + 5) b ≡ p ++ drop (at + 5 + n) b =
    sym (take-append-drop n (drop (at + 5) b)) ∙ ap (λ l. l ++ drop n (drop (at + 5) b)) (sym payload) ∙ ap (λ l. p ++ l) (drop_to (at + 5) n (at + 5 + n) b refl) in
    let fourth : drop (at + 5 + n) b ≡ d ++ drop (at + n + 37) b =
    sym (take-append-drop 32 (drop (at + 5 + n) b)) ∙ ap (λ l. l ++ drop 32 (drop (at + 5 + n) b)) (sym digest) ∙ ap (λ l. d ++ l) (drop_to (at + 5 + n) 32 (at + n + 37) b (omega arith)) in
    let rest = drop (at + n + 37) b in
    let joined : drop (at + 1) b ≡ body d p ++ rest =
    second ∙ ap (λ l. to_be_bytes w32 n ++ l) (third ∙ ap (λ l. p ++ l) fourth ∙ sym (append_assoc p d rest)) ∙ sym (append_assoc (to_be_bytes w32 n) (p ++ d) rest) in
    record {
      bytes = first ∙ ap (λ l. 1 ∷ l) joined;
      within = omega (arith, has.2, length-drop (at + 1) b);
      size = ap length digest ∙ omega (arith, length-take 32 (drop (at + 5 + n) b), length-drop (at + 5 + n) b, has.2, length-drop (at + 1) b);
    }

-- from a place that is told anew, and with a length that was read
pub whole_known : (at from count : ℕ) (p d : List ℕ) (o : Option (List ℕ)) → from ≡ at → length p ≡ count
    → IfSome o (λ b. at < length b) → IfSome o (λ b. slice_index b at ≡ 1) → IfSome o (λ b. HasLength (drop (at + 1) b) count)
    → IfSome o (λ b. p ≡ take count (drop (from + 5) b)) → IfSome o (λ b. d ≡ take 32 (drop (from + 5 + count) b)) → IfSome o (IsWhole at p d)
whole_known at from count p d None same size within opened has payload digest = tt
whole_known at from count p d (Some b) same size within opened has payload digest =
    whole_by at p d b within opened (subst (HasLength (drop (at + 1) b)) (sym size) has)
    (payload ∙ ap (λ n. take n (drop (from + 5) b)) (sym size) ∙ ap (λ k. take (length p) (drop (k + 5) b)) same)
    (digest ∙ ap (λ k. take 32 (drop k b)) (let e : from + 5 + count ≡ at + 5 + length p = omega (arith, same, size) in e))

record_is : (before after : Place) (p d image : List ℕ) → d ≡ next_digest before.digest p → after.at ≡ before.at + length p + 37 → IsWhole before.at p d image → IsRecord before image p after
record_is before after p d image is at whole = record {
  bytes = whole.bytes ∙ ap (λ e. 1 ∷ (body e p ++ drop (before.at + length p + 37) image)) is ∙ ap (λ k. 1 ∷ (body (next_digest before.digest p) p ++ drop k image)) (sym at);
  within = omega (arith, whole.within, at);
}

pub compared_next : (before : Place) (p d : List ℕ) (o : Option (List ℕ)) (result : Result Next ReadRecordFault) → IfSome o (IsWhole before.at p d) → Compares before p d result → IfOk result (IsNext before o)
compared_next before p d o (Ok (Record after q)) whole known = (
  known.2,
  some_to (IsWhole before.at p d) (λ image. IsRecord before image q after)
      (λ image w. subst (λ r. IsRecord before image r after) (sym known.1) (record_is before after p d image known.0 (known.2.at ∙ ap (λ r. before.at + length r + 37) known.1) w)) o whole,
)
compared_next before p d o (Ok (End journal)) whole known = absurd known
compared_next before p d o (Err fault) whole known = tt

pub compared_fault : (before : Place) (p d : List ℕ) (o : Option (List ℕ)) (old new : ℕ) (result : Result Next ReadRecordFault) → length p < 2 ^ 32 → IfSome o (IsWhole before.at p d) → Compares before p d result → IfErr result (IsFault before o old new)
compared_fault before p d o old new (Ok next) short whole known = tt
compared_fault before p d o old new (Err (faults.Damaged number damages.Cut)) short whole known = absurd known
compared_fault before p d o old new (Err (faults.Damaged number damages.Digest)) short whole known = (
  known.0,
  some_to (IsWhole before.at p d) (HasOtherDigest before)
      (λ image w. record { payload = p; digest = d; rest = drop (before.at + length p + 37) image; bytes = w.bytes; short = short; size = w.size; more = omega (arith, w.within, length-drop (before.at + length p + 37) image); other = known.1 }) o whole,
)
compared_fault before p d o old new (Err faults.DiskFault) short whole known = absurd known
compared_fault before p d o old new (Err faults.Memory) short whole known = absurd known
