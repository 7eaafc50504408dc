-- The place that halving finds in rising numbers.
use Rattle.std.proofs.Common.{◌≡◌, ℕ, zero, suc, ◌<◌, ◌≤◌, Bool, true, false, ◌||◌, nat_eq, nat_lt, List, [], ◌∷◌, length, get_or, Result, Ok, Err, refl, ◌∙◌, arith}
use Rattle.std.specs.List.{AllByRecursion}
use Rattle.std.specs.List.Sorted.{IsBinarySearchResult}
use Rattle.std.specs.Ordering.{nat_cmp}
use Rattle.std.specs.Result.{result_ok}
use Rattle.std.proofs.lemmas.Bool.Decides.{nat_tests}
use Rattle.std.proofs.lemmas.List.Sorted.{searched}
use Rattle.cov_edit.specs.Touched.{has_number, AreRising}
use Rattle.cov_overtaking.specs.Touches.{IsPlaceIn}

later-above : (x : ℕ) (xs : List ℕ) (k : ℕ) → AllByRecursion (λ y. x < y) xs → k < length xs → x < get_or xs k 0
later-above x [] k above within = absurd (omega (arith, within))
later-above x (y ∷ xs) zero above within = above.0
later-above x (y ∷ xs) (suc k) above within = later-above x xs k above.1 (omega (arith, within))

-- rising numbers don't fall
rises-by : (xs : List ℕ) → AreRising xs → (i j : ℕ) → i ≤ j → j < length xs → get_or xs i 0 ≤ get_or xs j 0
rises-by [] up i j le within = absurd (omega (arith, within))
rises-by (x ∷ xs) up zero zero le within = omega arith
rises-by (x ∷ xs) up zero (suc j) le within = let above = later-above x xs j up.0 (omega (arith, within)) in omega (arith, above)
rises-by (x ∷ xs) up (suc i) zero le within = absurd (omega (arith, le))
rises-by (x ∷ xs) up (suc i) (suc j) le within = rises-by xs up.1 i j (omega (arith, le)) (omega (arith, within))

-- a number that is at no place isn't there
nowhere : (x : ℕ) (xs : List ℕ) → ((k : ℕ) → k < length xs → get_or xs k 0 ≡ x → ⊥) → has_number x xs ≡ false
nowhere x [] never = refl
nowhere x (y ∷ xs) never =
    (λ i. other (nat_eq y x) refl i || has_number x xs) ∙ nowhere x xs (λ k within. never (suc k) (omega (arith, within)))
  where
    other : (b : Bool) → nat_eq y x ≡ b → nat_eq y x ≡ false
    other true e = absurd (never 0 (omega arith) (grind (arith, nat_tests, e)))
    other false e = e

-- where a search in rising numbers ends
pub found-place : (xs : List ℕ) (x : ℕ) (r : Result ℕ ℕ) → AreRising xs → IsBinarySearchResult (λ y. nat_cmp y x) xs r → IsPlaceIn xs x (result_ok r)
found-place xs x (Ok i) up found = searched xs x (Ok i) found (rises-by xs up)
found-place xs x (Err i) up found = nowhere x xs (λ k within equal. apart k within equal (nat_lt k i) refl)
  where
    parted : (i ≤ length xs) × ((k : ℕ) → k < i → get_or xs k 0 < x) × ((k : ℕ) → i ≤ k → k < length xs → x < get_or xs k 0)
    parted = searched xs x (Err i) found (rises-by xs up)

    apart : (k : ℕ) → k < length xs → get_or xs k 0 ≡ x → (b : Bool) → nat_lt k i ≡ b → ⊥
    apart k within equal true e = let low = parted.1 k (grind (arith, nat_tests, e)) in omega (arith, low, equal)
    apart k within equal false e = let high = parted.2 k (grind (arith, nat_tests, e)) within in omega (arith, high, equal)
