-- What the nodes of an analysis say of its constraints.
use Rattle.std.proofs.Common.{◌≡◌, ℕ, suc, ◌-◌, ◌<◌, ◌≤◌, Bool, ◌&&◌, not, List, length, take, reverse, Option, Some, ap, ◌∙◌, arith}
use Rattle.std.specs.Prelude.{slice_get, find, Result, Ok, Err, IfOk, OnOk}
use Rattle.std.specs.List.{list_all}
use Rattle.std.proofs.lemmas.List.{take_all}
use Rattle.std.proofs.lemmas.Option.{slice_get_within}
use Rattle.cov_base.specs.Choices.{all_choices, is_on}
use Rattle.cov_dd.specs.declared.triple.Triple.{Triple}
use Rattle.cov_dd.specs.Diagrams.{diagram_size, span, value_in, Extends, Stands}
use Rattle.cov_expr.specs.Formula.{Formula}
use Rattle.cov_expr.specs.Validity.{is_valid}
use Rattle.cov_rules.specs.Installing.{reach_of}
use Rattle.cov_analyse.specs.Analysing.{AnalysisValue, IsAnalysis, IsAnalysisOf, meets_at}
use Rattle.cov_analyse.specs.States.{breaks_only, option_state, state_by}
use Rattle.cov_analyse.proofs.Conjoining.{find_same, parts_later}
use Rattle.cov_analyse.proofs.Orders.{order_length, order_valid, others_valid}

-- an analysis stays one as its table grows
pub analysis_later : (es : List (Formula ℕ)) (ts us : List Triple) (order before behind : List ℕ) (count : ℕ) → Extends ts us
    → IsAnalysisOf es (record { table = ts; order = order; before = before; behind = behind; count = count }) → IsAnalysisOf es (record { table = us; order = order; before = before; behind = behind; count = count })
analysis_later es ts us order before behind count x is = record {
  few = is.few;
  below = is.below;
  met = is.met;
  order = is.order;
  before = record { count = is.before.count; each = parts_later ts us before es order x is.before.each };
  behind = record { count = is.behind.count; each = parts_later ts us behind es (reverse order) x is.behind.each };
}

module _ (es : List (Formula ℕ)) (a : AnalysisValue) (is : IsAnalysisOf es a) where
  pub all_meets : (node : ℕ) → slice_get a.before (length a.before - 1) ≡ Some node → Stands a.table node 0 (reach_of es) (is_valid es)
  all_meets node at =
      let m = is.before.each (length a.before - 1) node at in
      let whole : length a.order ≤ length a.before - 1 = omega (arith, is.before.count, order_length (length es) a.order is.order) in
      record {
        within = m.within;
        above = m.above;
        below = m.below;
        value = λ c. m.value c ∙ ap (list_all (meets_at es c)) (take_all (length a.before - 1) a.order whole) ∙ order_valid c es a.order is.order;
      }

  -- the place of a constraint in the order is one of the nodes
  pub place_within : (place rule : ℕ) → slice_get a.order place ≡ Some rule → suc place < length a.before
  place_within place rule at = omega (arith, slice_get_within a.order place rule at, is.before.count, order_length (length es) a.order is.order)

  pub option_same : (node o : ℕ) → slice_get a.before (length a.before - 1) ≡ Some node → (off on : Option (List Bool))
      → off ≡ find (λ c. value_in a.table node c && not (is_on c o)) (all_choices a.count)
      → on ≡ find (λ c. value_in a.table node c && is_on c o) (all_choices a.count)
      → state_by off on ≡ option_state a.count es o
  option_same node o at off on f g =
      let m = all_meets node at in
      let first = f ∙ find_same _ _ (all_choices a.count) (λ c j. m.value c j && not (is_on c o)) in
      let second = g ∙ find_same _ _ (all_choices a.count) (λ c j. m.value c j && is_on c o) in
      λ j. state_by (first j) (second j)

  pub rule_same : (us : List Triple) (before behind all r most place rule : ℕ)
      → slice_get a.order place ≡ Some rule → slice_get a.before place ≡ Some before → slice_get a.behind (length a.behind - 2 - place) ≡ Some behind → slice_get a.before (length a.before - 1) ≡ Some all
      → Stands us r 0 most (λ c. (value_in a.table before c && value_in a.table behind c) && not (value_in a.table all c))
      → find (value_in us r) (all_choices a.count) ≡ find (breaks_only es (rule - 1)) (all_choices a.count)
  rule_same us before behind all r most place rule at at-before at-behind at-all s =
      let b = is.before.each place before at-before in
      let l = is.behind.each (length a.behind - 2 - place) behind at-behind in
      let w = all_meets all at-all in
      let left : length a.behind - 2 - place ≡ length a.order - suc place = omega (arith, is.behind.count, order_length (length es) a.order is.order) in
      find_same _ _ (all_choices a.count) (λ c.
      s.value c
      ∙ (λ j. (b.value c j && l.value c j) && not (w.value c j))
      ∙ (λ j. (list_all (meets_at es c) (take place a.order) && list_all (meets_at es c) (take (left j) (reverse a.order))) && not (is_valid es c))
      ∙ others_valid c es a.order place rule is.order at)

-- bounds of an analysis' nodes, whatever its constraints
pub all_within : (a : AnalysisValue) (node : ℕ) → IsAnalysis a → slice_get a.before (length a.before - 1) ≡ Some node → (node < diagram_size a.table) × (span a.table node ≤ a.count)
all_within a node is at = let m = all_meets is.0 a is.1 node at in (m.within, omega (arith, m.below, is.1.below))

pub before_within : (a : AnalysisValue) (node i : ℕ) → IsAnalysis a → slice_get a.before i ≡ Some node → (node < diagram_size a.table) × (span a.table node ≤ a.count)
before_within a node i is at = let m = is.1.before.each i node at in (m.within, omega (arith, m.below, is.1.below))

pub behind_within : (a : AnalysisValue) (node i : ℕ) → IsAnalysis a → slice_get a.behind i ≡ Some node → (node < diagram_size a.table) × (span a.table node ≤ a.count)
behind_within a node i is at = let m = is.1.behind.each i node at in (m.within, omega (arith, m.below, is.1.below))

-- what is known of an answer says more of it
pub if_ok : {X E : Type 0} (P Q : X → Type 0) (r : Result X E) → ((x : X) → P x → Q x) → IfOk r P → IfOk r Q
if_ok P Q (Ok x) f h = f x h
if_ok P Q (Err e) f h = tt

-- and of what is done where one is
pub on_ok : {X E : Type 0} {P Q : Type 0} (r : Result X E) → (P → Q) → OnOk r P → OnOk r Q
on_ok (Ok x) f h = f h
on_ok (Err e) f h = tt
