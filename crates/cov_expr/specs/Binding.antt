-- What the bindings of a choice are, given the options' names.
use Rattle.std.specs.Prelude.{◌≡◌, ℕ, Bool, not, nat_eq, List, [], ◌∷◌, ◌++◌, map, length, Option, Some, None, Result, Ok, Err, if◌then◌else◌}
use Rattle.std.specs.List.{find, list_any}
use Rattle.cov_expr.specs.Options.{is_declared, option_number}
use Rattle.cov_expr.specs.Partials.{partial_of}
use Rattle.cov_expr.specs.declared.binding.BindFault.{BindFault}
use Rattle.cov_expr.specs.declared.binding.BindFault.TheVariants as faults

-- the bindings, with the numbers of the options in place of their names
abbrev pub numbered : List (List ℕ) → List (List ℕ × Bool) → List (ℕ × Bool)
numbered names bindings = map (λ b. (option_number names b.0, b.1)) bindings

-- the first name, in the order of the text, that no option has
abbrev pub first_undeclared : List (List ℕ) → List (List ℕ × Bool) → Option (List ℕ)
first_undeclared names bindings = find (λ name. not (is_declared names name)) (map (λ b. b.0) bindings)

-- the first of the options that stands a second time, where some stand before them
abbrev pub first_again : List ℕ → List ℕ → Option ℕ
first_again before [] = None
first_again before (o ∷ os) = if list_any (nat_eq o) before then Some o else first_again (before ++ o ∷ []) os

-- the first option, in the order of the text, that is bound a second time
abbrev pub first_repeated : List (ℕ × Bool) → Option ℕ
first_repeated bindings = first_again [] (map (λ b. b.0) bindings)

-- the answer by what is wrong: an unknown name, then an option bound twice, then nothing
abbrev pub partial_unless : Option (List ℕ) → Option ℕ → List (ℕ × Bool) → Result (List (ℕ × Bool)) BindFault
partial_unless (Some name) repeated partial = Err (faults.UnknownOption name)
partial_unless None (Some option) partial = Err (faults.Repeated option)
partial_unless None None partial = Ok partial

-- the partial choice that bindings are, or what is wrong with them: a name that no option has comes before an option bound twice
abbrev pub bound : List (List ℕ) → List (List ℕ × Bool) → Result (List (ℕ × Bool)) BindFault
bound names bindings =
    partial_unless (first_undeclared names bindings) (first_repeated (numbered names bindings)) (partial_of (length names) (numbered names bindings))

-- a fault is want of memory, or what the definition answers
abbrev pub IsBindFaultOf : Result (List (ℕ × Bool)) BindFault → BindFault → Type 0
IsBindFaultOf answer faults.Memory = Unit {0}
IsBindFaultOf answer (faults.UnknownOption name) = answer ≡ Err (faults.UnknownOption name)
IsBindFaultOf answer (faults.Repeated option) = answer ≡ Err (faults.Repeated option)

-- a fault is want of memory, or that of a name which no option has
abbrev pub IsUnknown : Option (List ℕ) → BindFault → Type 0
IsUnknown undeclared faults.Memory = Unit {0}
IsUnknown undeclared (faults.UnknownOption name) = undeclared ≡ Some name
IsUnknown undeclared (faults.Repeated option) = ⊥

-- a fault is want of memory, or that of an option bound twice
abbrev pub IsRepetition : Option ℕ → BindFault → Type 0
IsRepetition repeated faults.Memory = Unit {0}
IsRepetition repeated (faults.UnknownOption name) = ⊥
IsRepetition repeated (faults.Repeated option) = repeated ≡ Some option
