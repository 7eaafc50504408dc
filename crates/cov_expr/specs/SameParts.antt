-- Whether two expressions are the same.
use Rattle.std.specs.Prelude.{ℕ, Bool, true, false, ◌&&◌, nat_eq}
use Rattle.cov_expr.specs.Formula.{Formula, False, True, On, Not, And, Or}

-- whether two expressions consist of the same parts
abbrev pub is_same_formula : Formula ℕ → Formula ℕ → Bool
is_same_formula False False = true
is_same_formula True True = true
is_same_formula (On o) (On p) = nat_eq o p
is_same_formula (Not e) (Not f) = is_same_formula e f
is_same_formula (And a b) (And c d) = is_same_formula a c && is_same_formula b d
is_same_formula (Or a b) (Or c d) = is_same_formula a c && is_same_formula b d
is_same_formula _ _ = false
