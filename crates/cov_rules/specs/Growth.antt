-- What one more rule adds, and what holds of rules when options and nodes are added.
use Rattle.std.specs.Prelude.{◌≡◌, ℕ, ◌≤◌, Bool, nat_le, List, [], ◌∷◌, ◌++◌, take, if◌then◌else◌}
use Rattle.cov_base.specs.declared.limits.TheConstants.{CHOICE_WIDTH}
use Rattle.cov_dd.specs.declared.triple.Triple.{Triple}
use Rattle.cov_dd.specs.Diagrams.{Extends}
use Rattle.cov_expr.specs.Formula.{Formula, value, reach}
use Rattle.cov_expr.specs.Validity.{is_valid}
use Rattle.cov_rules.specs.Completion.{fallbacks, AreBelow}
use Rattle.cov_rules.specs.Installing.{Standing, literal, expressions, expressions_at, reach_of, Holds}
use Rattle.cov_rules.specs.declared.rules.Rule.{Rule}
use Rattle.cov_rules.specs.declared.rules.Rule.TheVariants as rules

-- the constraint that a rule is, if it is one
abbrev pub constraints_in : Rule → List (Formula ℕ)
constraints_in (rules.Constraint e) = e ∷ []
constraints_in (rules.Prefer e) = []
constraints_in (rules.Default o on) = []

-- the preference that a rule is, if it is one
abbrev pub preferences_in : Rule → List (Formula ℕ)
preferences_in (rules.Constraint e) = []
preferences_in (rules.Prefer e) = e ∷ []
preferences_in (rules.Default o on) = []

-- the expression of the default that a rule is, if it is one
abbrev pub defaults_in : Rule → List (Formula ℕ)
defaults_in (rules.Constraint e) = []
defaults_in (rules.Prefer e) = []
defaults_in (rules.Default o on) = literal o on ∷ []

-- the rules of each kind are the old ones with this rule behind those of its kind, which came at position p
pub record Follows (rule : Rule) (p : ℕ) (old new : Standing) : Type 0 where
  pub constraints : expressions new.constraints ≡ expressions old.constraints ++ constraints_in rule
  pub preferences : expressions new.preferences ≡ expressions old.preferences ++ preferences_in rule
  pub defaults : fallbacks new.defaults ≡ fallbacks old.defaults ++ defaults_in rule
  pub at : (q : ℕ) → expressions_at q new.constraints ≡ expressions_at q old.constraints ++ (if nat_le p q then constraints_in rule else [])

-- what is kept of rules in a table is kept in each table that it grows to
abbrev pub HoldInGrownTable : Type 0
HoldInGrownTable = (ts us : List Triple) (s : Standing) → Extends ts us → Holds ts s → Holds us s

-- rules over so many options are rules over more options
abbrev pub StayBelow : Type 0
StayBelow = (m n : ℕ) (s : Standing) → m ≤ n → n ≤ CHOICE_WIDTH → AreBelow m s → AreBelow n s

-- an expression has the same value on the first options of a choice, if its own are among them
abbrev pub ValueByFirstOptions : Type 0
ValueByFirstOptions = (n : ℕ) (e : Formula ℕ) (c : List Bool) → reach e ≤ n → value e (take n c) ≡ value e c

-- constraints allow a choice exactly where they allow its first options, if theirs are among them
abbrev pub ValidByFirstOptions : Type 0
ValidByFirstOptions = (n : ℕ) (es : List (Formula ℕ)) (c : List Bool) → reach_of es ≤ n → is_valid es (take n c) ≡ is_valid es c
