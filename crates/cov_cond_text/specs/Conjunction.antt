-- The conjunction of conditions.
use Rattle.std.specs.Prelude.{ℕ, List, [], ◌∷◌}
use Rattle.cov_expr.specs.Formula.{Formula, True, And}

-- an expression and more of them joined by and, to the left
abbrev pub joined : Formula ℕ → List (Formula ℕ) → Formula ℕ
joined e [] = e
joined e (f ∷ fs) = joined (And e f) fs

-- the conjunction of conditions, grouped to the left; true where there are none
abbrev pub conjunction : List (Formula ℕ) → Formula ℕ
conjunction [] = True
conjunction (e ∷ es) = joined e es
