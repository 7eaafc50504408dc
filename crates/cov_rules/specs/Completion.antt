-- How rules complete a partial choice.
use Rattle.std.specs.Prelude.{ℕ, ◌+◌, ◌≡◌, ◌≤◌, Bool, true, false, ◌&&◌, not, List, [], ◌∷◌, map, length, Option, Some, None}
use Rattle.std.specs.List.{filter, find, list_any, range_with_len}
use Rattle.cov_base.specs.Choices.{all_choices, is_on}
use Rattle.cov_base.specs.declared.limits.TheConstants.{CHOICE_WIDTH}
use Rattle.cov_expr.specs.Formula.{Formula, value}
use Rattle.cov_expr.specs.Validity.{is_valid, first_false}
use Rattle.cov_rules.specs.Installing.{Standing, expressions, literal, reach_of}
use Rattle.cov_rules.specs.declared.completing.CompleteFault.{CompleteFault}
use Rattle.cov_rules.specs.declared.completing.CompleteFault.TheVariants as faults
use Rattle.cov_rules.specs.declared.rules.Fallback.{Fallback}

-- the expressions that the options of a partial choice have their values
abbrev pub literals : List (ℕ × Bool) → List (Formula ℕ)
literals partial = map (λ b. literal b.0 b.1) partial

-- the expressions of defaults, in order
abbrev pub fallbacks : List Fallback → List (Formula ℕ)
fallbacks ds = map (λ d. literal d.option d.on) ds

-- whether there is an element
abbrev pub has_any : {X : Type 0} → List X → Bool
has_any [] = false
has_any (x ∷ xs) = true

-- the second list, unless the first has an element
abbrev pub or_else : {X : Type 0} → List X → List X → List X
or_else [] cs = cs
or_else (d ∷ ds) cs = d ∷ ds

-- the choices on which a wish is true, if there are any, else all
abbrev pub keep : List (List Bool) → Formula ℕ → List (List Bool)
keep cs wish = or_else (filter (value wish) cs) cs

-- the choices that are left after each wish in order
abbrev pub keep_all : List (List Bool) → List (Formula ℕ) → List (List Bool)
keep_all cs [] = cs
keep_all cs (wish ∷ wishes) = keep_all (keep cs wish) wishes

-- how many of the constraints, in order, rule all of these choices out
abbrev pub least_unmet : List (Formula ℕ) → List (List Bool) → ℕ
least_unmet constraints [] = 0
least_unmet [] (c ∷ cs) = 0
least_unmet (e ∷ constraints) (c ∷ cs) = 1 + least_unmet constraints (filter (value e) (c ∷ cs))

-- whether an option has both values among choices
abbrev pub is_open : List (List Bool) → ℕ → Bool
is_open cs o = list_any (λ c. is_on c o) cs && list_any (λ c. not (is_on c o)) cs

-- the least of n options that has both values among choices
abbrev pub first_open : ℕ → List (List Bool) → Option ℕ
first_open n cs = find (is_open cs) (range_with_len 0 n)

-- the answer to a partial choice
pub data Completion : Type 0 where
  Complete : (choice : List Bool) → Completion
  Invalid : (rule : ℕ) → Completion
  Incomplete : (option : Option ℕ) → Completion

-- the answer for the choices of n options that are left: the only one, or the least open option
abbrev pub answer_of : ℕ → List (List Bool) → Completion
answer_of n [] = Incomplete None
answer_of n (c ∷ []) = Complete c
answer_of n (c ∷ d ∷ cs) = Incomplete (first_open n (c ∷ d ∷ cs))

-- the choices of n options that agree with a partial choice
abbrev pub agreeing : ℕ → List (ℕ × Bool) → List (List Bool)
agreeing n partial = filter (is_valid (literals partial)) (all_choices n)

-- the answer by constraints, preferences and defaults, for the choices that agree and those of them that are valid
abbrev pub completed_from : ℕ → List (Formula ℕ) → List (Formula ℕ) → List (Formula ℕ) → List (List Bool) → List (List Bool) → Completion
completed_from n constraints preferences defaults agree [] = Invalid (least_unmet constraints agree)
completed_from n constraints preferences defaults agree (c ∷ cs) = answer_of n (keep_all (keep_all (c ∷ cs) preferences) defaults)

-- the completion of a partial choice of n options by constraints, preferences and defaults
abbrev pub completed_by : ℕ → List (Formula ℕ) → List (Formula ℕ) → List (Formula ℕ) → List (ℕ × Bool) → Completion
completed_by n constraints preferences defaults partial =
    completed_from n constraints preferences defaults (agreeing n partial) (filter (is_valid constraints) (agreeing n partial))

-- the completion of a partial choice of n options by the rules that stand
abbrev pub completed : ℕ → Standing → List (ℕ × Bool) → Completion
completed n s partial = completed_by n (expressions s.constraints) (expressions s.preferences) (fallbacks s.defaults) partial

-- a choice has n options, meets the constraints and agrees with a partial choice
pub record IsCompletion (n : ℕ) (constraints : List (Formula ℕ)) (partial : List (ℕ × Bool)) (choice : List Bool) : Type 0 where
  pub whole : length choice ≡ n
  pub valid : first_false constraints choice ≡ None
  pub agrees : is_valid (literals partial) choice ≡ true

-- the choice that completes a partial one has all options, meets the constraints and agrees with it
abbrev pub CompletedIsValid : Type 0
CompletedIsValid = (n : ℕ) (constraints preferences defaults : List (Formula ℕ)) (partial : List (ℕ × Bool)) (choice : List Bool)
    → completed_by n constraints preferences defaults partial ≡ Complete choice → IsCompletion n constraints partial choice

-- a fault is want of memory, or the refusal that completion gives
abbrev pub IsRefusalBy : Completion → CompleteFault → Type 0
IsRefusalBy answer faults.Memory = Unit {0}
IsRefusalBy answer (faults.Invalid rule) = answer ≡ Invalid rule
IsRefusalBy answer (faults.Incomplete option) = answer ≡ Incomplete (Some option)

-- there may be so many options, and the rules have no others
pub record AreBelow (count : ℕ) (s : Standing) : Type 0 where
  pub few : count ≤ CHOICE_WIDTH
  pub constraints : reach_of (expressions s.constraints) ≤ count
  pub preferences : reach_of (expressions s.preferences) ≤ count
  pub defaults : reach_of (fallbacks s.defaults) ≤ count
