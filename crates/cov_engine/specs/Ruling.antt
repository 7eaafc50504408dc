-- The rules that a history declares, as an engine keeps them.
use Rattle.std.specs.Prelude.{◌≡◌, ℕ, List, take, Option, Some, None}
use Rattle.cov_dd.specs.declared.triple.Triple.{Triple}
use Rattle.cov_edit.specs.declared.command.Command.{Command}
use Rattle.cov_edit.specs.declared.command.Command.TheVariants as commands
use Rattle.cov_edit.specs.History.{option_count, constraints_of, preferences_of, defaults_of}
use Rattle.cov_rules.specs.Completion.{AreBelow, fallbacks, literals}
use Rattle.cov_rules.specs.Installing.{Standing, Holds, RulesValue, IsPlan, expressions, expressions_at}
use Rattle.cov_rules.specs.Refusals.{AreOptions, refusal}
use Rattle.cov_rules.specs.declared.rules.Rule.{Rule}
use Rattle.cov_rules.specs.declared.rules.Rule.TheVariants as rules
use Rattle.cov_rules.specs.declared.rules.RuleFault.{RuleFault}
use Rattle.cov_rules.specs.declared.rules.RuleFault.TheVariants as faults
use Rattle.cov_history.specs.Verdict.{RefusedBy}
use Rattle.cov_engine.specs.declared.addition.Addition.{Addition}
use Rattle.cov_engine.specs.declared.addition.Addition.TheVariants as additions
use Rattle.cov_history.specs.declared.refusal.Refusal.{Refusal}
use Rattle.cov_history.specs.declared.refusal.Refusal.TheVariants as refusals

-- the rules that stand are those of a history, each constraint with its position; their nodes are those of a table, and
-- they speak of declared options alone
pub record AreRulesOf (history : List Command) (ts : List Triple) (s : Standing) : Type 0 where
  pub constraints : expressions s.constraints ≡ constraints_of history
  pub preferences : expressions s.preferences ≡ preferences_of history
  pub defaults : fallbacks s.defaults ≡ literals (defaults_of history)
  pub at : (p : ℕ) → expressions_at p s.constraints ≡ constraints_of (take p history)
  pub holds : Holds ts s
  pub below : AreBelow (option_count history) s

-- the rule that a command is, if it is one
abbrev pub rule_in : Command → Option Rule
rule_in (commands.Constraint expr) = Some (rules.Constraint expr)
rule_in (commands.Prefer expr) = Some (rules.Prefer expr)
rule_in (commands.Default option on) = Some (rules.Default option on)
rule_in _ = None

-- the refusal of a command for the fault of its rule
abbrev pub rule_refusal : RuleFault → Refusal
rule_refusal faults.Memory = refusals.Memory
rule_refusal faults.Full = refusals.Full
rule_refusal faults.NoVariantLeft = refusals.NoVariantLeft

-- so of a fault, if there is one
abbrev pub as_refusal : Option RuleFault → Option Refusal
as_refusal None = None
as_refusal (Some fault) = Some (rule_refusal fault)

-- a refusal is that of a rule beside those that stand, where so many of a kind may stand, whatever options are declared, unless memory is
-- wanting
abbrev pub IsRefusalOf : ℕ → Standing → Rule → Refusal → Type 0
IsRefusalOf limit s rule r = (count : ℕ) → AreOptions count s rule → RefusedBy r (as_refusal (refusal limit count s rule))

-- a command's rule is ready, with its plan beside the rules that stand
abbrev pub IsRuleReady : Command → List Triple → RulesValue → Addition → Type 0
IsRuleReady command ts standing (additions.Option name) = ⊥
IsRuleReady command ts standing (additions.Rule rule plan) = (rule_in command ≡ Some rule) × IsPlan ts standing rule plan
IsRuleReady command ts standing (additions.Commit mark counts ss rows) = ⊥
IsRuleReady command ts standing additions.Upgrade = ⊥
