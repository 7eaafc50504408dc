-- Which rules are refused.
use Rattle.std.specs.Prelude.{ℕ, ◌≡◌, ◌<◌, ◌≤◌, ◌+◌, Bool, true, ◌&&◌, nat_le, List, Option, Some, None, if◌then◌else◌}
use Rattle.std.specs.List.{list_any}
use Rattle.cov_base.specs.Choices.{all_choices}
use Rattle.cov_base.specs.declared.limits.TheConstants.{CHOICE_WIDTH}
use Rattle.cov_expr.specs.Formula.{Formula, value, reach}
use Rattle.cov_expr.specs.Validity.{is_valid}
use Rattle.cov_rules.specs.Installing.{Standing, count_of, expressions, reach_of}
use Rattle.cov_rules.specs.declared.rules.Rule.{Rule}
use Rattle.cov_rules.specs.declared.rules.Rule.TheVariants as rules
use Rattle.cov_rules.specs.declared.rules.RuleFault.{RuleFault}
use Rattle.cov_rules.specs.declared.rules.RuleFault.TheVariants as faults

-- whether some choice of so many options meets the constraints and an expression
abbrev pub is_met : ℕ → List (Formula ℕ) → Formula ℕ → Bool
is_met count constraints e = list_any (λ c. is_valid constraints c && value e c) (all_choices count)

-- whether some choice of so many options meets the constraints with a rule; a preference or a default rules no choice out
abbrev pub leaves_variant : ℕ → List (Formula ℕ) → Rule → Bool
leaves_variant count constraints (rules.Constraint e) = is_met count constraints e
leaves_variant count constraints (rules.Prefer e) = true
leaves_variant count constraints (rules.Default o on) = true

-- the refusal of a rule over so many options, where so many of a kind may stand, if there is one
abbrev pub refusal : ℕ → ℕ → Standing → Rule → Option RuleFault
refusal limit count s rule =
    if nat_le limit (count_of rule s) then Some faults.Full
    else (if leaves_variant count (expressions s.constraints) rule then None else Some faults.NoVariantLeft)

-- the least count of options that has every option of a rule
abbrev pub reach_of_rule : Rule → ℕ
reach_of_rule (rules.Constraint e) = reach e
reach_of_rule (rules.Prefer e) = reach e
reach_of_rule (rules.Default o on) = o + 1

-- there may be so many options, and they have every option of the constraints and of a rule
abbrev pub AreOptions : ℕ → Standing → Rule → Type 0
AreOptions count s rule = (count ≤ CHOICE_WIDTH) × (reach_of (expressions s.constraints) ≤ count) × (reach_of_rule rule ≤ count)

-- a rule isn't refused, whatever options are declared
abbrev pub IsAccepted : ℕ → Standing → Rule → Type 0
IsAccepted limit s rule = (count : ℕ) → AreOptions count s rule → refusal limit count s rule ≡ None

-- a fault is the refusal, whatever options are declared, or want of memory where there may be one more rule of the kind
abbrev pub IsRuleFaultOf : ℕ → Standing → Rule → RuleFault → Type 0
IsRuleFaultOf limit s rule faults.Memory = count_of rule s < limit
IsRuleFaultOf limit s rule faults.Full = (count : ℕ) → AreOptions count s rule → refusal limit count s rule ≡ Some faults.Full
IsRuleFaultOf limit s rule faults.NoVariantLeft = (count : ℕ) → AreOptions count s rule → refusal limit count s rule ≡ Some faults.NoVariantLeft
