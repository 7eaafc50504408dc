-- Where an item is inserted directly after the first that passes a test.
use Rattle.std.proofs.Common.{◌≡◌, ℕ, suc, ◌+◌, ◌<◌, ◌≤◌, Bool, true, false, cond, not, nat_lt, List, [], ◌∷◌, length, Some, None, position, refl, sym, ap, ◌∙◌, arith}
use Rattle.std.specs.List.{insert, position_or_len}
use Rattle.std.proofs.lemmas.Bool.Decides.{nat_tests}
use Rattle.cov_base.specs.Addresses.{after_first}

module _ {X : Type 0} (t : X → Bool) where
  after_found : (xs : List X) (x : X) → position_or_len t xs < length xs → insert xs (suc (position_or_len t xs)) x ≡ after_first t x xs
  after_found [] x h = absurd (omega (arith, h))
  after_found (y ∷ ys) x h = at (t y) h (λ k. after_found ys x k)
    where
      at : (b : Bool) → cond (not b) (1 + position_or_len t ys) 0 < suc (length ys) → (position_or_len t ys < length ys → insert ys (suc (position_or_len t ys)) x ≡ after_first t x ys)
          → insert (y ∷ ys) (suc (cond (not b) (1 + position_or_len t ys) 0)) x ≡ cond b (y ∷ x ∷ ys) (y ∷ after_first t x ys)
      at true k rest = refl
      at false k rest =
          let one : 1 + position_or_len t ys ≡ suc (position_or_len t ys) = omega arith in
          ap (λ i. insert (y ∷ ys) (suc i) x) one ∙ ap (λ l. y ∷ l) (rest (omega (arith, k)))

  after_none : (xs : List X) (x : X) → length xs ≤ position_or_len t xs → insert xs (length xs) x ≡ after_first t x xs
  after_none [] x h = refl
  after_none (y ∷ ys) x h = at (t y) h (λ k. after_none ys x k)
    where
      at : (b : Bool) → suc (length ys) ≤ cond (not b) (1 + position_or_len t ys) 0 → (length ys ≤ position_or_len t ys → insert ys (length ys) x ≡ after_first t x ys)
          → insert (y ∷ ys) (suc (length ys)) x ≡ cond b (y ∷ x ∷ ys) (y ∷ after_first t x ys)
      at true k rest = absurd (omega (arith, k))
      at false k rest = ap (λ l. y ∷ l) (rest (omega (arith, k)))

  some_case : (xs : List X) (x : X) (i : ℕ) (b : Bool) → nat_lt (position_or_len t xs) (length xs) ≡ b → cond b (Some (position_or_len t xs)) None ≡ Some i → insert xs (i + 1) x ≡ after_first t x xs
  some_case xs x i true e h =
      let same : suc (position_or_len t xs) ≡ i + 1 = (let s : position_or_len t xs ≡ i = cc in omega (arith, s)) in
      ap (λ j. insert xs j x) (sym same) ∙ after_found xs x (grind (arith, nat_tests, e))
  some_case xs x i false e h = absurd (cc)

  none_case : (xs : List X) (x : X) (b : Bool) → nat_lt (position_or_len t xs) (length xs) ≡ b → cond b (Some (position_or_len t xs)) None ≡ None → insert xs (length xs) x ≡ after_first t x xs
  none_case xs x true e h = absurd (cc)
  none_case xs x false e h = after_none xs x (grind (arith, nat_tests, e))

  -- directly after the first that passes
  pub insert_behind : (xs : List X) (x : X) (i : ℕ) → position t xs ≡ Some i → insert xs (i + 1) x ≡ after_first t x xs
  insert_behind xs x i h = some_case xs x i (nat_lt (position_or_len t xs) (length xs)) refl h

  -- last, where none passes
  pub insert_last : (xs : List X) (x : X) → position t xs ≡ None → insert xs (length xs) x ≡ after_first t x xs
  insert_last xs x h = none_case xs x (nat_lt (position_or_len t xs) (length xs)) refl h
