-- Records that count.
use Rattle.std.proofs.Common.{◌≡◌, ℕ, zero, suc, ◌+◌, ◌<◌, ◌≤◌, ◌^◌, Bool, true, false, ◌&&◌, nat_eq, nat_le, List, [], ◌∷◌, ◌++◌, length, take, drop, refl, sym, ◌∙◌, ap, arith, append_assoc, length-append, length-drop}
use Rattle.std.specs.Prelude.{if◌then◌else◌}
use Rattle.std.specs.Int.{w32, to_be_bytes, from_be_bytes}
use Rattle.std.proofs.lemmas.Bool.{and_from, and_parts, le-leb, leb-true}
use Rattle.std.proofs.lemmas.Bool.Decides.{nat_tests}
use Rattle.std.proofs.lemmas.List.{drop-append-le, drop-drop, drop_at, take-append-le, take_at}
use Rattle.std.proofs.lemmas.Nat.{from_be_bytes-to_be_bytes_4}
use Rattle.cov_journal.specs.Journal.{body}
use Rattle.cov_journal.specs.Reading.{record_length}
use Rattle.cov_journal.proofs.CallerLemmas.{length-body}
use Rattle.cov_replica.specs.Taken.{Counted, counted, counted_within, first_counted, is_whole}

none : (most : ℕ) → counted_within most [] ≡ []
none zero = refl
none (suc most) = refl

-- what stands behind the first record
abbrev others_in : List ℕ → List ℕ
others_in behind = drop (4 + record_length behind + 32) behind

-- an open gate with a whole record behind it
first_is : (most gate : ℕ) (behind : List ℕ) → (nat_eq gate 1 && is_whole behind) ≡ true
    → counted_within (suc most) (gate ∷ behind) ≡ first_counted behind ∷ counted_within most (others_in behind)
first_is most gate behind e = ap (λ t. if t then first_counted behind ∷ counted_within most (others_in behind) else []) e

-- and another gate
first_isnt : (most gate : ℕ) (behind : List ℕ) → (nat_eq gate 1 && is_whole behind) ≡ false → counted_within (suc most) (gate ∷ behind) ≡ []
first_isnt most gate behind e = ap (λ t. if t then first_counted behind ∷ counted_within most (others_in behind) else []) e

-- there are no more records than bytes
pub enough : (m n : ℕ) (bytes : List ℕ) → length bytes ≤ m → length bytes ≤ n → counted_within m bytes ≡ counted_within n bytes
enough m n [] hm hn = none m ∙ sym (none n)
enough zero n (gate ∷ behind) hm hn = absurd (omega (arith, hm))
enough (suc m) zero (gate ∷ behind) hm hn = absurd (omega (arith, hn))
enough (suc m) (suc n) (gate ∷ behind) hm hn =
    ap (λ rs. if nat_eq gate 1 && is_whole behind then first_counted behind ∷ rs else [])
    (enough m n (others_in behind) (omega (arith, hm, length-drop (4 + record_length behind + 32) behind)) (omega (arith, hn, length-drop (4 + record_length behind + 32) behind)))

-- a whole record, with more bytes behind it
module _ (behind more : List ℕ) (whole : is_whole behind ≡ true) where
  four : 4 ≤ length behind
  four = leb-true 4 (length behind) (and_parts (nat_le 4 (length behind)) (nat_le (4 + record_length behind + 32) (length behind)) whole).0

  all : 4 + record_length behind + 32 ≤ length behind
  all = leb-true (4 + record_length behind + 32) (length behind) (and_parts (nat_le 4 (length behind)) (nat_le (4 + record_length behind + 32) (length behind)) whole).1

  more_length : record_length (behind ++ more) ≡ record_length behind
  more_length = ap (from_be_bytes w32) (take-append-le 4 behind more four)

  more_whole : is_whole (behind ++ more) ≡ true
  more_whole =
      and_from (nat_le 4 (length (behind ++ more))) (nat_le (4 + record_length (behind ++ more) + 32) (length (behind ++ more)))
      (le-leb 4 (length (behind ++ more)) (omega (arith, four, length-append behind more)))
      (le-leb (4 + record_length (behind ++ more) + 32) (length (behind ++ more)) (omega (arith, all, more_length, length-append behind more)))

  more_payload : take (record_length (behind ++ more)) (drop 4 (behind ++ more)) ≡ take (record_length behind) (drop 4 behind)
  more_payload =
      ap (λ n. take n (drop 4 (behind ++ more))) more_length ∙ ap (take (record_length behind)) (drop-append-le 4 behind more four)
      ∙ take-append-le (record_length behind) (drop 4 behind) more (omega (arith, all, length-drop 4 behind))

  more_digest : take 32 (drop (4 + record_length (behind ++ more)) (behind ++ more)) ≡ take 32 (drop (4 + record_length behind) behind)
  more_digest =
      ap (λ n. take 32 (drop (4 + n) (behind ++ more))) more_length ∙ ap (take 32) (drop-append-le (4 + record_length behind) behind more (omega (arith, all)))
      ∙ take-append-le 32 (drop (4 + record_length behind) behind) more (omega (arith, all, length-drop (4 + record_length behind) behind))

  more_first : first_counted (behind ++ more) ≡ first_counted behind
  more_first = λ i. record { payload = more_payload i; digest = more_digest i }

  more_others : others_in (behind ++ more) ≡ others_in behind ++ more
  more_others = ap (λ n. drop (4 + n + 32) (behind ++ more)) more_length ∙ drop-append-le (4 + record_length behind + 32) behind more all

-- with more bytes the records that count stay, and others may come behind them
grows_within : (n m : ℕ) (bytes more : List ℕ) → length bytes ≤ n → length (bytes ++ more) ≤ m → (rs : List Counted) × (counted_within m (bytes ++ more) ≡ counted_within n bytes ++ rs)
grows_within n m [] more hn hm = (counted_within m more, ap (λ l. l ++ counted_within m more) (sym (none n)))
grows_within zero m (gate ∷ behind) more hn hm = absurd (omega (arith, hn))
grows_within (suc n) zero (gate ∷ behind) more hn hm = absurd (omega (arith, hm))
grows_within (suc n) (suc m) (gate ∷ behind) more hn hm =
    cases (nat_eq gate 1 && is_whole behind) refl
    (grows_within n m (others_in behind) more (omega (arith, hn, length-drop (4 + record_length behind + 32) behind))
    (omega (arith, hm, length-append behind more, length-append (others_in behind) more, length-drop (4 + record_length behind + 32) behind)))
  where
    cases : (t : Bool) → (nat_eq gate 1 && is_whole behind) ≡ t → (rs : List Counted) × (counted_within m (others_in behind ++ more) ≡ counted_within n (others_in behind) ++ rs)
        → (rs : List Counted) × (counted_within (suc m) (gate ∷ (behind ++ more)) ≡ counted_within (suc n) (gate ∷ behind) ++ rs)
    cases false e later = (counted_within (suc m) (gate ∷ (behind ++ more)), ap (λ l. l ++ counted_within (suc m) (gate ∷ (behind ++ more))) (sym (first_isnt n gate behind e)))
    cases true e later =
        let parts = and_parts (nat_eq gate 1) (is_whole behind) e in (
          later.0,
          first_is m gate (behind ++ more) (and_from (nat_eq gate 1) (is_whole (behind ++ more)) parts.0 (more_whole behind more parts.1))
              ∙ (λ i. more_first behind more parts.1 i ∷ counted_within m (more_others behind more parts.1 i))
              ∙ ap (λ l. first_counted behind ∷ l) later.1
              ∙ ap (λ l. l ++ later.0) (sym (first_is n gate behind e)),
        )

pub grows : (bytes more : List ℕ) → (rs : List Counted) × (counted (bytes ++ more) ≡ counted bytes ++ rs)
grows bytes more = grows_within (length bytes) (length (bytes ++ more)) bytes more (omega arith) (omega arith)

-- a whole record by its parts
module _ (p d rest : List ℕ) (short : length p < 2 ^ 32) (size : length d ≡ 32) where
  abbrev behind : List ℕ
  behind = body d p ++ rest

  flat : behind ≡ to_be_bytes w32 (length p) ++ (p ++ (d ++ rest))
  flat = append_assoc (to_be_bytes w32 (length p)) (p ++ d) rest ∙ ap (λ l. to_be_bytes w32 (length p) ++ l) (append_assoc p d rest)

  count : record_length behind ≡ length p
  count = ap (from_be_bytes w32) (ap (take 4) flat ∙ take_at (to_be_bytes w32 (length p)) (p ++ (d ++ rest)) 4 refl) ∙ from_be_bytes-to_be_bytes_4 (length p) short

  total : length behind ≡ length p + 36 + length rest
  total = length-append (body d p) rest ∙ ap (λ n. n + length rest) (length-body d p size)

  whole : is_whole behind ≡ true
  whole =
      and_from (nat_le 4 (length behind)) (nat_le (4 + record_length behind + 32) (length behind))
      (le-leb 4 (length behind) (omega (arith, total))) (le-leb (4 + record_length behind + 32) (length behind) (omega (arith, total, count)))

  behind_length : drop 4 behind ≡ p ++ (d ++ rest)
  behind_length = ap (drop 4) flat ∙ drop_at (to_be_bytes w32 (length p)) (p ++ (d ++ rest)) 4 refl

  behind_payload : drop (4 + record_length behind) behind ≡ d ++ rest
  behind_payload = sym (drop-drop (record_length behind) 4 behind) ∙ ap (drop (record_length behind)) behind_length ∙ drop_at p (d ++ rest) (record_length behind) (sym count)

  payload_is : take (record_length behind) (drop 4 behind) ≡ p
  payload_is = ap (take (record_length behind)) behind_length ∙ take_at p (d ++ rest) (record_length behind) (sym count)

  digest_is : take 32 (drop (4 + record_length behind) behind) ≡ d
  digest_is = ap (take 32) behind_payload ∙ take_at d rest 32 size

  others_are : others_in behind ≡ rest
  others_are = sym (drop-drop 32 (4 + record_length behind) behind) ∙ ap (drop 32) behind_payload ∙ drop_at d rest 32 size

  -- it counts, and then those behind it
  pub counted_first : counted (1 ∷ behind) ≡ record { payload = p; digest = d } ∷ counted rest
  counted_first =
      first_is (length behind) 1 behind whole
      ∙ (λ i. record { payload = payload_is i; digest = digest_is i } ∷ counted_within (length behind) (others_are i))
      ∙ ap (λ l. record { payload = p; digest = d } ∷ l) (enough (length behind) (length rest) rest (omega (arith, total)) (omega arith))

-- behind another gate no record counts
pub counted_shut : (gate : ℕ) (behind : List ℕ) → nat_eq gate 1 ≡ false → counted (gate ∷ behind) ≡ []
counted_shut gate behind e = first_isnt (length behind) gate behind (ap (λ t. t && is_whole behind) e)

pub counted_part : (gate : ℕ) (behind : List ℕ) → is_whole behind ≡ false → counted (gate ∷ behind) ≡ []
counted_part gate behind e = first_isnt (length behind) gate behind (by (nat_eq gate 1))
  where
    by : (t : Bool) → (t && is_whole behind) ≡ false
    by false = refl
    by true = e

-- fewer bytes than a length takes are no record
pub counted_few : (bytes : List ℕ) → length bytes ≤ 4 → counted bytes ≡ []
counted_few [] few = refl
counted_few (gate ∷ rest) few =
    let short : nat_le 4 (length rest) ≡ false = grind (arith, nat_tests, few) in
    counted_part gate rest (ap (λ t. t && nat_le (4 + record_length rest + 32) (length rest)) short)
