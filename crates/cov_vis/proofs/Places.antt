-- What stands at an index of a list.
use Rattle.std.proofs.Common.{◌≡◌, ℕ, zero, suc, ◌<◌, List, [], ◌∷◌, ◌++◌, length, Some, refl, ap, inl, inr, ◌⊎◌, arith}
use Rattle.std.specs.Prelude.{slice_get}

module _ {A : Type 0} where
  pub get_left : (xs ys : List A) (j : ℕ) (z : A) → slice_get xs j ≡ Some z → slice_get (xs ++ ys) j ≡ Some z
  get_left [] ys j z h = absurd (cc)
  get_left (x ∷ xs) ys zero z h = h
  get_left (x ∷ xs) ys (suc j) z h = get_left xs ys j z h

  pub get_at : (xs ys : List A) (y : A) → slice_get (xs ++ y ∷ ys) (length xs) ≡ Some y
  get_at [] ys y = refl
  get_at (x ∷ xs) ys y = get_at xs ys y

  pub get_push : (xs : List A) (y : A) (j : ℕ) (z : A) → slice_get (xs ++ y ∷ []) j ≡ Some z → (slice_get xs j ≡ Some z) ⊎ ((j ≡ length xs) × (y ≡ z))
  get_push [] y zero z h = inr (refl, cc)
  get_push [] y (suc j) z h = absurd (cc)
  get_push (x ∷ xs) y zero z h = inl h
  get_push (x ∷ xs) y (suc j) z h = elim (get_push xs y j z h) [ inl g ↦ inl g | inr g ↦ inr (ap suc g.0, g.1) ]

  pub get_some : (xs : List A) (j : ℕ) → j < length xs → (z : A) × (slice_get xs j ≡ Some z)
  get_some [] j h = absurd (omega (arith, h))
  get_some (x ∷ xs) zero h = (x, refl)
  get_some (x ∷ xs) (suc j) h = get_some xs j (omega (arith, h))

pub some-same : {A : Type 0} {x y : A} → Some x ≡ Some y → x ≡ y
some-same h = cc
