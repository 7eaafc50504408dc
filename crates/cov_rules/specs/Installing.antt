-- Rules in order, with their positions and the nodes that stand for them.
use Rattle.std.specs.Prelude.{ℕ, ◌<◌, Bool, true, false, nat_le, max, List, [], ◌∷◌, ◌++◌, map, length}
use Rattle.std.specs.List.{filter, AllByRecursion}
use Rattle.cov_dd.specs.declared.triple.Triple.{Triple}
use Rattle.cov_dd.specs.Diagrams.{Stands}
use Rattle.cov_expr.specs.Formula.{Formula, On, Not, value, reach}
use Rattle.cov_expr.specs.Validity.{is_valid}
use Rattle.cov_rules.specs.declared.rules.Fallback.{Fallback}
use Rattle.cov_rules.specs.declared.rules.Installed.{Installed}
use Rattle.cov_rules.specs.declared.rules.Rule.{Rule}
use Rattle.cov_rules.specs.declared.rules.Rule.TheVariants as rules
use Rattle.cov_rules.specs.declared.rules.RulePlan.{RulePlan}
use Rattle.cov_rules.specs.declared.rules.TheConstants.{MOST_RULES}

-- the rules of each kind in order, and the node of all constraints
pub record Standing : Type 0 where
  pub constraints : List Installed
  pub preferences : List Installed
  pub defaults : List Fallback
  pub conjunction : ℕ

-- the rules, and the number of rules of each kind for which there is room
pub record RulesValue : Type 0 where
  pub standing : Standing
  pub spare : ℕ

-- the expression that an option has a value
abbrev pub literal : ℕ → Bool → Formula ℕ
literal o true = On o
literal o false = Not (On o)

-- how many rules of the kind of a rule stand
abbrev pub count_of : Rule → Standing → ℕ
count_of (rules.Constraint e) s = length s.constraints
count_of (rules.Prefer e) s = length s.preferences
count_of (rules.Default o on) s = length s.defaults

-- an expression as it is kept: with the node of its plan and its position
abbrev pub installed : RulePlan → Formula ℕ → ℕ → Installed
installed plan e p = record { expr = e; node = plan.node; at = p }

-- the rules with one more default
abbrev pub with_default : ℕ → Bool → Standing → Standing
with_default o on s =
    let fallback : Fallback = record { option = o; on = on } in
    record { constraints = s.constraints; preferences = s.preferences; defaults = s.defaults ++ fallback ∷ []; conjunction = s.conjunction }

-- the rules with one more at a position, by its plan
abbrev pub with_rule : RulePlan → Rule → ℕ → Standing → Standing
with_rule plan (rules.Constraint e) p s =
    record { constraints = s.constraints ++ installed plan e p ∷ []; preferences = s.preferences; defaults = s.defaults; conjunction = plan.conjunction }
with_rule plan (rules.Prefer e) p s =
    record { constraints = s.constraints; preferences = s.preferences ++ installed plan e p ∷ []; defaults = s.defaults; conjunction = s.conjunction }
with_rule plan (rules.Default o on) p s = with_default o on s

-- the expressions of rules, in order
abbrev pub expressions : List Installed → List (Formula ℕ)
expressions rs = map (λ r. r.expr) rs

-- the expressions of the rules among the first p commands, in order
abbrev pub expressions_at : ℕ → List Installed → List (Formula ℕ)
expressions_at p rs = expressions (filter (λ r. nat_le r.at p) rs)

-- the least count of options that has every option of the expressions
abbrev pub reach_of : List (Formula ℕ) → ℕ
reach_of [] = 0
reach_of (e ∷ es) = max (reach e) (reach_of es)

-- a node has the options and the values of an expression
abbrev pub IsNodeOf : List Triple → ℕ → Formula ℕ → Type 0
IsNodeOf ts node e = Stands ts node 0 (reach e) (value e)

-- a node is true on exactly the choices that constraints allow
abbrev pub StandsForAll : List Triple → ℕ → List (Formula ℕ) → Type 0
StandsForAll ts node es = Stands ts node 0 (reach_of es) (is_valid es)

-- the node of each rule has the options and the values of its expression
abbrev pub AllStand : List Triple → List Installed → Type 0
AllStand ts rs = AllByRecursion (λ r. IsNodeOf ts r.node r.expr) rs

-- each node that is kept has in this table the value of its rules
pub record Holds (ts : List Triple) (s : Standing) : Type 0 where
  pub constraints : AllStand ts s.constraints
  pub preferences : AllStand ts s.preferences
  pub conjunction : StandsForAll ts s.conjunction (expressions s.constraints)

-- the nodes of a plan are those of a rule; a default has none
abbrev pub Plans : List Triple → Standing → Rule → RulePlan → Type 0
Plans ts s (rules.Constraint e) plan = IsNodeOf ts plan.node e × StandsForAll ts plan.conjunction (expressions s.constraints ++ e ∷ [])
Plans ts s (rules.Prefer e) plan = IsNodeOf ts plan.node e
Plans ts s (rules.Default o on) plan = Unit {0}

-- a plan is one of this rule as the next of its kind, and there is room for it
pub record IsPlan (ts : List Triple) (r : RulesValue) (rule : Rule) (plan : RulePlan) : Type 0 where
  pub few : count_of rule r.standing < MOST_RULES
  pub room : 0 < r.spare
  pub nodes : Plans ts r.standing rule plan
