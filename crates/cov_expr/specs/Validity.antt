-- Which choices constraints allow.
use Rattle.std.specs.Prelude.{ℕ, ◌+◌, Bool, not, List, Option, option_map, position}
use Rattle.std.specs.List.{list_all}
use Rattle.cov_expr.specs.Formula.{Formula, value}

-- whether every constraint is true on a choice
abbrev pub is_valid : List (Formula ℕ) → List Bool → Bool
is_valid constraints c = list_all (λ e. value e c) constraints

-- the number, from 1, of the first constraint that is false on a choice
abbrev pub first_false : List (Formula ℕ) → List Bool → Option ℕ
first_false constraints c = option_map (λ n. n + 1) (position (λ e. not (value e c)) constraints)
