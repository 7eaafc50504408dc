-- Members of a list and their places, by a test of whether two things are one.
use Rattle.std.proofs.Common.{◌≡◌, ℕ, zero, suc, ◌+◌, ◌<◌, Bool, true, false, cond, List, [], ◌∷◌, ◌++◌, length, Some, None, true≢false, refl, sym, ap, ◌∙◌, inl, inr, ◌⊎◌, subst, arith}
use Rattle.std.specs.Prelude.{slice_get, ◌||◌, not}
use Rattle.std.specs.Bool.{Decides}
use Rattle.std.specs.List.{list_any, AllByRecursion, position, position_or_len}
use Rattle.std.proofs.lemmas.Bool.{lt-ltb}
use Rattle.std.proofs.Math.Bool.{or-true}
use Rattle.std.proofs.lemmas.List.{length-append}
use Rattle.cov_vis.proofs.Places.{get_push}

-- what holds of each item holds of one
pub all_get : {X : Type 0} (P : X → Type 0) (xs : List X) (i : ℕ) (x : X) → AllByRecursion P xs → slice_get xs i ≡ Some x → P x
all_get P [] i x h at = absurd (cc)
all_get P (y ∷ ys) zero x h at = let is : y ≡ x = cc in subst P is h.0
all_get P (y ∷ ys) (suc i) x h at = all_get P ys i x h.1 at

-- a thing is among others
abbrev pub IsMember : {X : Type 0} → (X → X → Bool) → X → List X → Type 0
IsMember same x xs = list_any (same x) xs ≡ true

-- nothing stands twice
abbrev pub IsOnce : {X : Type 0} → List X → Type 0
IsOnce {X} xs = (i j : ℕ) (x : X) → slice_get xs i ≡ Some x → slice_get xs j ≡ Some x → i ≡ j

module _ {X : Type 0} (same : X → X → Bool) (tests : (x y : X) → Decides (same x y) (x ≡ y)) where
  pub same-self : (x : X) → same x x ≡ true
  same-self x = (tests x x).1 refl

  pub member_left : (x : X) (xs more : List X) → IsMember same x xs → IsMember same x (xs ++ more)
  member_left x [] more h = absurd (true≢false (sym h))
  member_left x (y ∷ ys) more h = by (same x y) h (member_left x ys more)
    where
      by : (b : Bool) → (b || list_any (same x) ys) ≡ true → (IsMember same x ys → IsMember same x (ys ++ more)) → (b || list_any (same x) (ys ++ more)) ≡ true
      by true h rec = refl
      by false h rec = rec h

  pub member_at : (x : X) (xs more : List X) → IsMember same x (xs ++ x ∷ more)
  member_at x [] more = ap (λ b. b || list_any (same x) more) (same-self x)
  member_at x (y ∷ ys) more = ap (λ b. same x y || b) (member_at x ys more) ∙ or-true (same x y)

  pub member_get : (xs : List X) (i : ℕ) (x : X) → slice_get xs i ≡ Some x → IsMember same x xs
  member_get [] i x h = absurd (cc)
  member_get (y ∷ ys) zero x h = let is : y ≡ x = cc in ap (λ z. same x z || list_any (same x) ys) is ∙ ap (λ b. b || list_any (same x) ys) (same-self x)
  member_get (y ∷ ys) (suc i) x h = ap (λ b. same x y || b) (member_get ys i x h) ∙ or-true (same x y)

  place_in : (x : X) (xs more : List X) → IsMember same x xs → (position_or_len (same x) (xs ++ more) < length xs) × (slice_get xs (position_or_len (same x) (xs ++ more)) ≡ Some x)
  place_in x [] more h = absurd (true≢false (sym h))
  place_in x (y ∷ ys) more h = by (same x y) refl h (place_in x ys more)
    where
      p : ℕ
      p = position_or_len (same x) (ys ++ more)

      by : (b : Bool) → same x y ≡ b → (b || list_any (same x) ys) ≡ true → (IsMember same x ys → (p < length ys) × (slice_get ys p ≡ Some x))
          → (cond (not b) (1 + p) 0 < suc (length ys)) × (slice_get (y ∷ ys) (cond (not b) (1 + p) 0) ≡ Some x)
      by true e h rec = (omega arith, ap Some (sym ((tests x y).0 e)))
      by false e h rec =
          let r = rec h in
          let one : suc p ≡ 1 + p = omega arith in
          (omega (arith, r.0), ap (slice_get (y ∷ ys)) (sym one) ∙ r.1)

  place_new : (x : X) (xs more : List X) → list_any (same x) xs ≡ false → position_or_len (same x) (xs ++ x ∷ more) ≡ length xs
  place_new x [] more h = ap (λ b. cond (not b) (1 + position_or_len (same x) more) 0) (same-self x)
  place_new x (y ∷ ys) more h = by (same x y) h (place_new x ys more)
    where
      by : (b : Bool) → (b || list_any (same x) ys) ≡ false → (list_any (same x) ys ≡ false → position_or_len (same x) (ys ++ x ∷ more) ≡ length ys)
          → cond (not b) (1 + position_or_len (same x) (ys ++ x ∷ more)) 0 ≡ suc (length ys)
      by true h rec = absurd (true≢false h)
      by false h rec = omega (arith, rec h)

  position_within : (x : X) (xs : List X) → position_or_len (same x) xs < length xs → position (same x) xs ≡ Some (position_or_len (same x) xs)
  position_within x xs h = ap (λ b. cond b (Some (position_or_len (same x) xs)) None) (lt-ltb _ _ h)

  -- the place in a longer list of a thing that is among the first
  pub position_in : (x : X) (xs more : List X) → IsMember same x xs → (i : ℕ) × (position (same x) (xs ++ more) ≡ Some i) × (i < length xs) × (slice_get xs i ≡ Some x)
  position_in x xs more h =
      let p = place_in x xs more h in
      (position_or_len (same x) (xs ++ more), position_within x (xs ++ more) (omega (arith, p.0, length-append xs more)), p.0, p.1)

  -- the place of a thing that isn't among those before
  pub position_new : (x : X) (xs more : List X) → list_any (same x) xs ≡ false → position (same x) (xs ++ x ∷ more) ≡ Some (length xs)
  position_new x xs more h =
      position_within x (xs ++ x ∷ more) (omega (arith, place_new x xs more h, length-append xs (x ∷ more))) ∙ ap Some (place_new x xs more h)

  pub once-push : (xs : List X) (x : X) → IsOnce xs → list_any (same x) xs ≡ false → IsOnce (xs ++ x ∷ [])
  once-push xs x once new i j y h k = by (get_push xs x i y h) (get_push xs x j y k)
    where
      no : (i : ℕ) → slice_get xs i ≡ Some y → x ≡ y → ⊥
      no i h e = true≢false (sym (member_get xs i x (h ∙ ap Some (sym e))) ∙ new)

      by : (slice_get xs i ≡ Some y) ⊎ ((i ≡ length xs) × (x ≡ y)) → (slice_get xs j ≡ Some y) ⊎ ((j ≡ length xs) × (x ≡ y)) → i ≡ j
      by (inl u) (inl v) = once i j y u v
      by (inl u) (inr v) = absurd (no i u v.1)
      by (inr u) (inl v) = absurd (no j v u.1)
      by (inr u) (inr v) = u.0 ∙ sym v.0
