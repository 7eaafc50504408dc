-- How many options the evidence of an analysis has, and the analysis that is kept.
use Rattle.std.specs.Prelude.{◌≡◌, ℕ, ◌≤◌, List, Option, Some, None, length}
use Rattle.cov_analyse.specs.Analysing.{AnalysisValue}
use Rattle.cov_expr.specs.Formula.{Formula}
use Rattle.cov_analyse.specs.declared.analysis.OptionState.{OptionState}
use Rattle.cov_analyse.specs.declared.analysis.OptionState.TheVariants as option_states
use Rattle.cov_analyse.specs.declared.analysis.RuleState.{RuleState}
use Rattle.cov_analyse.specs.declared.analysis.RuleState.TheVariants as rule_states

-- the choices that show an option's state have at most so many options
abbrev pub AreWithin : ℕ → OptionState → Type 0
AreWithin n option_states.Dead = Unit {0}
AreWithin n option_states.Forced = Unit {0}
AreWithin n (option_states.Free off on) = (length off ≤ n) × (length on ≤ n)

-- the choice that shows that a constraint is needed has at most so many options
abbrev pub IsNeedWithin : ℕ → RuleState → Type 0
IsNeedWithin n rule_states.Redundant = Unit {0}
IsNeedWithin n (rule_states.Needed c) = length c ≤ n

-- an analysis, with the constraints that it is of and how many options there are
pub record KeptValue : Type 0 where
  pub constraints : List (Formula ℕ)
  pub count : ℕ
  pub analysis : AnalysisValue

-- what is kept, if anything is, is the analysis of constraints over so many options
abbrev pub IsKeptOf : List (Formula ℕ) → ℕ → Option KeptValue → Type 0
IsKeptOf es n None = ⊥
IsKeptOf es n (Some kept) = (kept.constraints ≡ es) × (kept.count ≡ n)
