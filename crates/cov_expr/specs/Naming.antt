-- What an expression over names is, given the options' names.
use Rattle.std.specs.Prelude.{◌≡◌, ℕ, Bool, true, false, not, List, Option, Some, None, Result, Ok, Err}
use Rattle.std.specs.List.{find}
use Rattle.cov_expr.specs.Formula.{Formula, names_in, renamed}
use Rattle.cov_expr.specs.Options.{is_declared, option_number, option_name}
use Rattle.cov_expr.specs.declared.naming.NameFault.{NameFault}
use Rattle.cov_expr.specs.declared.naming.NameFault.TheVariants.{UnknownOption, Memory}

-- the first name of an expression, from the left, that no option has
abbrev pub first_unknown : List (List ℕ) → Formula (List ℕ) → Option (List ℕ)
first_unknown names e = find (λ name. not (is_declared names name)) (names_in e)

-- the expression with the numbers of the options in place of their names
abbrev pub with_numbers : List (List ℕ) → Formula (List ℕ) → Formula ℕ
with_numbers names e = renamed (option_number names) e

-- an expression, unless a name of it is unknown
abbrev pub known_or : Option (List ℕ) → Formula ℕ → Result (Formula ℕ) NameFault
known_or None e = Ok e
known_or (Some name) e = Err (UnknownOption name)

-- the expression over options that an expression over names is, or the first name that no option has
abbrev pub bound_expression : List (List ℕ) → Formula (List ℕ) → Result (Formula ℕ) NameFault
bound_expression names e = known_or (first_unknown names e) (with_numbers names e)

-- whether a fault is want of memory
abbrev pub is_memory : NameFault → Bool
is_memory Memory = true
is_memory (UnknownOption name) = false

-- a fault is want of memory, or that of a name which no option has
abbrev pub IsUnknownName : Option (List ℕ) → NameFault → Type 0
IsUnknownName unknown (UnknownOption name) = unknown ≡ Some name
IsUnknownName unknown Memory = Unit {0}

-- the expression with the names of the options in place of their numbers
abbrev pub with_names : List (List ℕ) → Formula ℕ → Formula (List ℕ)
with_names names e = renamed (option_name names) e
