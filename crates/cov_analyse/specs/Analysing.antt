-- What an analysis keeps: nodes of the first and of the last constraints.
use Rattle.std.specs.Prelude.{ℕ, suc, ◌-◌, ◌≡◌, ◌≤◌, Bool, true, List, take, reverse, length, get_or, Some, slice_get}
use Rattle.std.specs.List.{list_all}
use Rattle.cov_base.specs.declared.limits.TheConstants.{CHOICE_WIDTH}
use Rattle.cov_dd.specs.declared.triple.Triple.{Triple}
use Rattle.cov_dd.specs.Diagrams.{Stands}
use Rattle.cov_expr.specs.Formula.{Formula, True, value}
use Rattle.cov_expr.specs.Validity.{is_valid}
use Rattle.cov_rules.specs.Installing.{reach_of}
use Rattle.cov_analyse.specs.Orders.{IsOrder}

-- a table with the order in which it conjoins the constraints, its nodes for the first of them by how many they are, its nodes for the last, and the count of options
pub record AnalysisValue : Type 0 where
  pub table : List Triple
  pub order : List ℕ
  pub before : List ℕ
  pub behind : List ℕ
  pub count : ℕ

-- whether a choice meets the constraint with a number, from 1
abbrev pub meets_at : List (Formula ℕ) → List Bool → ℕ → Bool
meets_at es c rule = value (get_or es (rule - 1) True) c

-- a node is true on exactly the choices that meet a part of the constraints, by their numbers
abbrev pub IsMeeting : List Triple → ℕ → List (Formula ℕ) → List ℕ → Type 0
IsMeeting ts node es part = Stands ts node 0 (reach_of es) (λ c. list_all (meets_at es c) part)

-- each node stands for the first so many constraints of an order
abbrev pub AreMeeting : List Triple → List ℕ → List (Formula ℕ) → List ℕ → Type 0
AreMeeting ts nodes es order = (i node : ℕ) → slice_get nodes i ≡ Some node → IsMeeting ts node es (take i order)

-- there is a node for the first constraints of an order, from none of them to all
pub record HasParts (ts : List Triple) (nodes : List ℕ) (es : List (Formula ℕ)) (order : List ℕ) : Type 0 where
  pub count : length nodes ≡ suc (length es)
  pub each : AreMeeting ts nodes es order

-- some choice of n options meets the constraints
abbrev pub HasValid : ℕ → List (Formula ℕ) → Type 0
HasValid n es = (c : List Bool) × (length c ≡ n) × (is_valid es c ≡ true)

-- an analysis is one of these constraints over so many options
pub record IsAnalysisOf (es : List (Formula ℕ)) (a : AnalysisValue) : Type 0 where
  pub few : a.count ≤ CHOICE_WIDTH
  pub below : reach_of es ≤ a.count
  pub met : HasValid a.count es
  pub order : IsOrder (length es) a.order
  pub before : HasParts a.table a.before es a.order
  pub behind : HasParts a.table a.behind es (reverse a.order)

-- an analysis is one of some constraints
abbrev pub IsAnalysis : AnalysisValue → Type 0
IsAnalysis a = (es : List (Formula ℕ)) × IsAnalysisOf es a

-- an analysis is one of some constraints, of which one has this number, from 1
abbrev pub HasConstraint : ℕ → AnalysisValue → Type 0
HasConstraint rule a = (es : List (Formula ℕ)) × IsAnalysisOf es a × (1 ≤ rule) × (rule ≤ length es)
