-- What rules make of an option, and what one of them adds to the others.
use Rattle.std.specs.Prelude.{ℕ, zero, suc, ◌-◌, Bool, false, ◌&&◌, not, List, [], ◌∷◌, find, Option, Some, None}
use Rattle.cov_base.specs.Choices.{all_choices, is_on}
use Rattle.cov_expr.specs.Formula.{Formula, value}
use Rattle.cov_expr.specs.Validity.{is_valid}
use Rattle.cov_analyse.specs.declared.analysis.OptionState.{OptionState}
use Rattle.cov_analyse.specs.declared.analysis.OptionState.TheVariants as options
use Rattle.cov_analyse.specs.declared.analysis.RuleState.{RuleState}
use Rattle.cov_analyse.specs.declared.analysis.RuleState.TheVariants as rules

-- the first valid choice with an option off and the first with it on, as a state
abbrev pub state_by : Option (List Bool) → Option (List Bool) → OptionState
state_by off None = options.Dead
state_by None (Some on) = options.Forced
state_by (Some off) (Some on) = options.Free off on

-- an option of n is dead where no valid choice has it on, forced where none has it off, else free, with the first of each kind
abbrev pub option_state : ℕ → List (Formula ℕ) → ℕ → OptionState
option_state n constraints o =
    state_by (find (λ c. is_valid constraints c && not (is_on c o)) (all_choices n)) (find (λ c. is_valid constraints c && is_on c o) (all_choices n))

-- a state by the first choice that meets the other constraints and not this one
abbrev pub need_by : Option (List Bool) → RuleState
need_by None = rules.Redundant
need_by (Some c) = rules.Needed c

-- whether a choice meets each constraint but the one at an index, and not that
abbrev pub breaks_only : List (Formula ℕ) → ℕ → List Bool → Bool
breaks_only [] i c = false
breaks_only (e ∷ es) zero c = not (value e c) && is_valid es c
breaks_only (e ∷ es) (suc i) c = value e c && breaks_only es i c

-- a constraint, by its number from 1, is redundant where each choice of n options that meets all others meets it, else needed
abbrev pub rule_state : ℕ → List (Formula ℕ) → ℕ → RuleState
rule_state n constraints rule = need_by (find (breaks_only constraints (rule - 1)) (all_choices n))
