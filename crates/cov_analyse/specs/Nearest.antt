-- The valid choice nearest to a choice.
use Rattle.std.specs.Prelude.{ℕ, Bool, ◌&&◌, ◌||◌, not, nat_le, List, find, Option}
use Rattle.std.specs.List.{list_all}
use Rattle.cov_base.specs.Choices.{all_choices}
use Rattle.cov_expr.specs.Formula.{Formula}
use Rattle.cov_expr.specs.Validity.{is_valid}
use Rattle.cov_analyse.specs.Bounding.{distance}

-- whether a choice passes a test, and no choice of n options that passes it is less far from c
abbrev pub is_nearest : ℕ → (List Bool → Bool) → List Bool → List Bool → Bool
is_nearest n test c d = test d && list_all (λ e. not (test e) || nat_le (distance c d) (distance c e)) (all_choices n)

-- the first of the choices of n options that pass a test and are nearest to c
abbrev pub first_nearest : ℕ → (List Bool → Bool) → List Bool → Option (List Bool)
first_nearest n test c = find (is_nearest n test c) (all_choices n)

-- the first of the nearest valid choices of n options
abbrev pub nearest : ℕ → List (Formula ℕ) → List Bool → Option (List Bool)
nearest n constraints c = first_nearest n (is_valid constraints) c
