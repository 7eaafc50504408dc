-- Numbers put into items, one after another.
use Rattle.std.specs.Prelude.{ℕ, List, [], ◌∷◌}

-- items with the numbers of a list in the places of theirs; a number is put into an item by the given function
abbrev pub having : {X : Type 0} → (ℕ → X → X) → List X → List ℕ → List X
having put [] ns = []
having put (x ∷ xs) [] = x ∷ xs
having put (x ∷ xs) (n ∷ ns) = put n x ∷ having put xs ns
