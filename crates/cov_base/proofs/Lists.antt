-- Lists, tests and the newest value not beyond a position, where neither std nor its algebra of Bool has it.
use Rattle.std.proofs.Common.{◌≡◌, ◌||◌, ◌==◌, ℕ, zero, suc, ◌+◌, Bool, true, false, not, cond, nat_eq, nat_le, nat_lt, List, [], ◌∷◌, ◌++◌, Option, Some, None, is_some, unwrap_or, position, refl, sym, ap, ◌∙◌, arith, ◌-◌, ◌≤◌, ◌&&◌, length, take, drop, get_or, slice_get, subst}
use mathlib.Core.Bool.{or_comm}
use Rattle.std.specs.List.{find, filter, list_any, onto_first, position_or_len, slice_split, AllByRecursion}
use Rattle.std.specs.Ordering.{is_le, nat_cmp}
use Rattle.std.specs.declared.cmp.Ordering.TheVariants.{Less, Equal, Greater}
use Rattle.std.proofs.lemmas.Bool.{ltb-false}
use Rattle.std.proofs.lemmas.Bool.Decides.{nat_tests}
use Rattle.std.proofs.lemmas.List.Folds.{list_any-append}
use Rattle.std.proofs.lemmas.List.Sums.{prefix_len-le-length}
use Rattle.std.proofs.lemmas.Option.{cond_some}
use Rattle.cov_base.specs.Older.{value_at}
use Rattle.std.proofs.Math.Seq.{take-length}

module _ {X : Type 0} where
  -- the items after the first
  abbrev pub rest_of : List X → List X
  rest_of xs = take (length xs - 1) (drop 1 xs)

  pub rest-is : (x : X) (xs : List X) → rest_of (x ∷ xs) ≡ xs
  rest-is x xs =
      let less : length (x ∷ xs) - 1 ≡ length xs = omega arith in
      ap (λ n. take n xs) less ∙ take-length xs

  pub all-rest : (P : X → Type 0) (xs : List X) → AllByRecursion P xs → AllByRecursion P (rest_of xs)
  all-rest P [] h = tt
  all-rest P (x ∷ xs) h = subst (AllByRecursion P) (sym (rest-is x xs)) h.1

  -- the list is its first item and the rest
  pub opened : (x d : X) (xs : List X) → x ≡ get_or xs 0 d → 1 ≤ length xs → xs ≡ x ∷ rest_of xs
  opened x d [] is h = absurd (omega (arith, h))
  opened x d (y ∷ ys) is h = ap (λ z. z ∷ ys) (sym is) ∙ ap (λ l. x ∷ l) (sym (rest-is y ys))

  -- one of the items that pass a test passes another where one item passes both
  pub any-filter : (p t : X → Bool) (xs : List X) → list_any t (filter p xs) ≡ list_any (λ x. p x && t x) xs
  any-filter p t [] = refl
  any-filter p t (x ∷ xs) = at (p x) (any-filter p t xs)
    where
      at : (b : Bool) → list_any t (filter p xs) ≡ list_any (λ y. p y && t y) xs → list_any t (cond b (x ∷ filter p xs) (filter p xs)) ≡ ((b && t x) || list_any (λ y. p y && t y) xs)
      at true rest = ap (λ b. t x || b) rest
      at false rest = rest

  -- an item more at the end
  pub any-push : (t : X → Bool) (xs : List X) (x : X) → list_any t (xs ++ x ∷ []) ≡ (list_any t xs || t x)
  any-push t xs x = list_any-append t xs (x ∷ []) ∙ ap (λ b. list_any t xs || b) (or_comm (t x) false)

  drop-next : (xs : List X) (i : ℕ) (x : X) → slice_get xs i ≡ Some x → drop i xs ≡ x ∷ drop (suc i) xs
  drop-next [] i x h = absurd (cc)
  drop-next (y ∷ ys) zero x h = ap (λ z. z ∷ ys) (let same : y ≡ x = cc in same)
  drop-next (y ∷ ys) (suc i) x h = drop-next ys i x h

  -- from an index on, the item there comes first
  pub drop-at : (xs : List X) (i k : ℕ) (x : X) → slice_get xs i ≡ Some x → k ≡ i + 1 → drop i xs ≡ x ∷ drop k xs
  drop-at xs i k x h e = let same : suc i ≡ k = omega (arith, e) in drop-next xs i x h ∙ ap (λ m. x ∷ drop m xs) same

  -- from where there is no item on, there is none
  pub drop-end : (xs : List X) (i : ℕ) → slice_get xs i ≡ None → drop i xs ≡ []
  drop-end [] zero h = refl
  drop-end [] (suc i) h = refl
  drop-end (y ∷ ys) zero h = absurd (cc)
  drop-end (y ∷ ys) (suc i) h = drop-end ys i h

  -- what isn't there is none
  pub none-is : (o : Option X) → is_some o ≡ false → o ≡ None
  none-is None h = refl
  none-is (Some x) h = absurd (cc)

  -- the place that is found is that of the first item that passes
  pub place-found : (t : X → Bool) (xs : List X) (i : ℕ) → position t xs ≡ Some i → position_or_len t xs ≡ i
  place-found t xs i found = (cond_some (nat_lt (position_or_len t xs) (length xs)) (position_or_len t xs) i found).1

  -- it is the length where no item passes
  pub place-absent : (t : X → Bool) (xs : List X) → position t xs ≡ None → position_or_len t xs ≡ length xs
  place-absent t xs none = cases (nat_lt (position_or_len t xs) (length xs)) refl
    where
      cases : (b : Bool) → nat_lt (position_or_len t xs) (length xs) ≡ b → position_or_len t xs ≡ length xs
      cases true h =
          let found : Some (position_or_len t xs) ≡ None = ap (λ b. cond b (Some (position_or_len t xs)) None) (sym h) ∙ none in
          cc
      cases false h = omega (arith, ltb-false _ _ h, prefix_len-le-length (λ x. not (t x)) xs)

module _ {X : Type 0} (t : X → Bool) where
  none-before : (xs : List X) → length xs ≤ position_or_len t xs → list_any t xs ≡ false
  none-before [] h = refl
  none-before (x ∷ xs) h = at (t x) h (none-before xs)
    where
      at : (b : Bool) → suc (length xs) ≤ cond (not b) (1 + position_or_len t xs) 0 → (length xs ≤ position_or_len t xs → list_any t xs ≡ false) → (b || list_any t xs) ≡ false
      at true k rest = absurd (omega (arith, k))
      at false k rest = rest (omega (arith, k))

  one-part : (xs : List X) → length xs ≤ position_or_len t xs → slice_split t xs ≡ xs ∷ []
  one-part [] h = refl
  one-part (x ∷ xs) h = at (t x) h (one-part xs)
    where
      at : (b : Bool) → suc (length xs) ≤ cond (not b) (1 + position_or_len t xs) 0 → (length xs ≤ position_or_len t xs → slice_split t xs ≡ xs ∷ [])
          → cond b ([] ∷ slice_split t xs) (onto_first x (slice_split t xs)) ≡ (x ∷ xs) ∷ []
      at true k rest = absurd (omega (arith, k))
      at false k rest = ap (onto_first x) (rest (omega (arith, k)))

  -- where no place is found, no item passes
  pub none-placed : (xs : List X) → position t xs ≡ None → list_any t xs ≡ false
  none-placed xs none = none-before xs (omega (arith, place-absent t xs none))

  -- and the list is the one part between such items
  pub split-absent : (xs : List X) → position t xs ≡ None → slice_split t xs ≡ xs ∷ []
  split-absent xs none = one-part xs (omega (arith, place-absent t xs none))

-- one of two holds, and it isn't the first
pub or_second : (a b : Bool) → a ≡ false → (a || b) ≡ true → b ≡ true
or_second true b e h = absurd (cc)
or_second false b e h = h

-- the first two of three change places
pub or_left_comm : (a b c : Bool) → (a || (b || c)) ≡ (b || (a || c))
or_left_comm true true c = refl
or_left_comm true false c = refl
or_left_comm false b c = refl

pub nat_eq-sym : (m n : ℕ) → nat_eq m n ≡ nat_eq n m
nat_eq-sym m n = grind (arith, nat_tests)

-- what `<=` of two numbers answers
le_told : (a b : ℕ) → is_le (nat_cmp a b) ≡ nat_le a b
le_told a b = by (nat_lt a b) (a == b) refl refl
  where
    by : (x y : Bool) → nat_lt a b ≡ x → (a == b) ≡ y → is_le (cond x Less (cond y Equal Greater)) ≡ nat_le a b
    by true y e f = sym (grind (arith, nat_tests, e))
    by false true e f = sym (grind (arith, nat_tests, f))
    by false false e f = sym (grind (arith, nat_tests, e, f))

module _ {X : Type 0} (before : X) (p : ℕ) where
  -- the value at a position is that of the first that isn't beyond it
  pub value_found : (xs : List (ℕ × X)) (x : ℕ × X) → find (λ y. nat_le y.0 p) xs ≡ Some x → value_at before xs p ≡ x.1
  value_found [] x h = absurd (cc)
  value_found (y ∷ ys) x h = at (nat_le y.0 p) h (value_found ys x)
    where
      at : (b : Bool) → cond b (Some y) (find (λ z. nat_le z.0 p) ys) ≡ Some x → (find (λ z. nat_le z.0 p) ys ≡ Some x → value_at before ys p ≡ x.1) → cond b y.1 (value_at before ys p) ≡ x.1
      at true e rest = ap (λ o. (unwrap_or o y).1) e
      at false e rest = rest e

  -- and the given one where all are beyond it
  pub value_none : (xs : List (ℕ × X)) → find (λ y. nat_le y.0 p) xs ≡ None → value_at before xs p ≡ before
  value_none [] h = refl
  value_none (y ∷ ys) h = at (nat_le y.0 p) h (value_none ys)
    where
      at : (b : Bool) → cond b (Some y) (find (λ z. nat_le z.0 p) ys) ≡ None → (find (λ z. nat_le z.0 p) ys ≡ None → value_at before ys p ≡ before) → cond b y.1 (value_at before ys p) ≡ before
      at true e rest = absurd (cc)
      at false e rest = rest e

  -- the value where the newest is beyond the position is among the older ones
  pub value_older : (x : ℕ × X) (xs : List (ℕ × X)) → is_le (nat_cmp x.0 p) ≡ false → value_at before xs p ≡ value_at before (x ∷ xs) p
  value_older x xs h = ap (λ b. cond b x.1 (value_at before xs p)) (sym h ∙ le_told x.0 p)
