-- Searches in a list whose items are seen through a function.
use Rattle.std.proofs.Common.{◌≡◌, ℕ, ◌+◌, Bool, false, not, cond, nat_lt, List, [], ◌∷◌, ◌++◌, map, Some, None, position, slice_get, get_or, refl, sym, ap, ◌∙◌, if◌then◌else◌}
use Rattle.std.specs.List.{list_any, position_or_len, IsDistinct, AllByRecursion}
use Rattle.std.specs.Str.{bytes_eq}
use Rattle.std.proofs.lemmas.List.{length-map, map-append}
use Rattle.std.proofs.lemmas.List.Quantifiers.{position-Some}
use Rattle.std.proofs.lemmas.Option.{slice_get-get_or}
use Rattle.std.proofs.lemmas.Slice.Eq.{bytes_eq-Decides}
use Rattle.indexmap.specs.IndexSet.{insert_key}

module _ {X Y : Type 0} (p : Y → Bool) (f : X → Y) where
  position_or_len-map : (xs : List X) → position_or_len p (map f xs) ≡ position_or_len (λ x. p (f x)) xs
  position_or_len-map [] = refl
  position_or_len-map (x ∷ xs) = ap (λ n. cond (not (p (f x))) (1 + n) 0) (position_or_len-map xs)

  pub position-map : (xs : List X) → position p (map f xs) ≡ position (λ x. p (f x)) xs
  position-map xs i =
      cond (nat_lt (position_or_len-map xs i) (length-map xs f i)) (Some (position_or_len-map xs i)) None

module _ {X Y : Type 0} (e : Y → Y → Bool) (f : X → Y) where
  differs-map : (x : X) (xs : List X) → AllByRecursion (λ y. e (f x) (f y) ≡ false) xs → AllByRecursion (λ y. e (f x) y ≡ false) (map f xs)
  differs-map x [] h = tt
  differs-map x (y ∷ ys) h = (h.0, differs-map x ys h.1)

  pub IsDistinct-map : (xs : List X) → IsDistinct (λ x y. e (f x) (f y)) xs → IsDistinct e (map f xs)
  unfolding IsDistinct
  IsDistinct-map [] h = tt
  IsDistinct-map (x ∷ xs) h = (differs-map x xs h.0, IsDistinct-map xs h.1)

-- the name at the place of the first that is equal is the name looked for
pub name_found : (name : List ℕ) (names : List (List ℕ)) (i : ℕ) → position (bytes_eq name) names ≡ Some i → slice_get names i ≡ Some name
name_found name names i found =
    let at = position-Some (bytes_eq name) names i [] found in
    slice_get-get_or names i [] at.0 ∙ ap Some (sym ((bytes_eq-Decides name (get_or names i [])).0 at.1))

-- a name that no option has goes last
pub insert_key-new : {X : Type 0} (f : X → List ℕ) (xs : List X) (x : X) → list_any (λ y. bytes_eq (f x) (f y)) xs ≡ false → map f (insert_key (λ a b. bytes_eq (f a) (f b)) xs x) ≡ map f xs ++ f x ∷ []
insert_key-new f xs x new =
    ap (λ b. map f (if b then xs else xs ++ x ∷ [])) new ∙ map-append f xs (x ∷ [])
