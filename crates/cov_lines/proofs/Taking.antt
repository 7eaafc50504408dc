-- The first items of a list, one more.
use Rattle.std.proofs.Common.{◌≡◌, ℕ, zero, suc, List, [], ◌∷◌, ◌++◌, Some, ap}
use Rattle.std.specs.Prelude.{slice_get, take}

pub take-next : {X : Type 0} (xs : List X) (i : ℕ) (x : X) → slice_get xs i ≡ Some x → take (suc i) xs ≡ take i xs ++ x ∷ []
take-next [] i x h = absurd (cc)
take-next (y ∷ ys) zero x h = let same : y ≡ x = cc in ap (λ z. z ∷ []) same
take-next (y ∷ ys) (suc i) x h = ap (λ zs. y ∷ zs) (take-next ys i x h)
