-- The plan of one more rule.
use Rattle.std.proofs.Common.{◌≡◌, ℕ, ◌<◌, ◌≤◌, max, Bool, true, false, ◌&&◌, List, [], ◌∷◌, ◌++◌, length, Option, Some, None, Result, Ok, Err, IfOk, IfErr, OnOk, if◌then◌else◌, sym, ap, subst, ◌∙◌, arith}
use Rattle.std.proofs.lemmas.Bool.{le-leb, lt-leb}
use Rattle.cov_base.specs.declared.limits.TheConstants.{CHOICE_WIDTH}
use Rattle.cov_dd.specs.declared.triple.Triple.{Triple}
use Rattle.cov_dd.specs.Diagrams.{span, value_in, Stands}
use Rattle.cov_expr.specs.Formula.{Formula, value, reach}
use Rattle.cov_expr.specs.Validity.{is_valid}
use Rattle.cov_rules.specs.Installing.{Standing, RulesValue, count_of, expressions, IsNodeOf, StandsForAll, Holds, IsPlan}
use Rattle.cov_rules.specs.Refusals.{leaves_variant, AreOptions, IsAccepted, IsRuleFaultOf}
use Rattle.cov_rules.specs.declared.rules.Rule.{Rule}
use Rattle.cov_rules.specs.declared.rules.Rule.TheVariants as rules
use Rattle.cov_rules.specs.declared.rules.RuleFault.{RuleFault}
use Rattle.cov_rules.specs.declared.rules.RuleFault.TheVariants as faults
use Rattle.cov_rules.specs.declared.rules.RulePlan.{RulePlan}
use Rattle.cov_rules.specs.declared.rules.TheConstants.{MOST_RULES}
use Rattle.cov_rules.proofs.Holding.{stands_for_more}
use Rattle.cov_rules.proofs.Deciding as deciding

module _ (limit : ℕ) (s : Standing) (rule : Rule) where
  -- the refusal, by whether so many rules stand and whether a variant is left
  abbrev by : Bool → Bool → Option RuleFault
  by many left = if many then Some faults.Full else (if left then None else Some faults.NoVariantLeft)

  pub full : limit ≤ count_of rule s → IsRuleFaultOf limit s rule faults.Full
  full h count fits = ap (λ b. by b (leaves_variant count (expressions s.constraints) rule)) (le-leb limit (count_of rule s) h)

  pub taken : count_of rule s < limit → ((count : ℕ) → AreOptions count s rule → leaves_variant count (expressions s.constraints) rule ≡ true) → IsAccepted limit s rule
  taken few left count fits = λ j. by (lt-leb limit (count_of rule s) few j) (left count fits j)

  pub left_none : count_of rule s < limit → ((count : ℕ) → AreOptions count s rule → leaves_variant count (expressions s.constraints) rule ≡ false) → IsRuleFaultOf limit s rule faults.NoVariantLeft
  left_none few left count fits = λ j. by (lt-leb limit (count_of rule s) few j) (left count fits j)

module _ (limit : ℕ) (most : limit ≤ MOST_RULES) (ts us : List Triple) (r s : RulesValue) (e : Formula ℕ) (plan : RulePlan) (h : Holds ts r.standing) (few : length r.standing.constraints < limit)
    (all : Stands us plan.conjunction 0 (max (span ts r.standing.conjunction) (reach e)) (λ c. value_in ts r.standing.conjunction c && value e c)) where
  decided : (c : List Bool) → value_in us plan.conjunction c ≡ (is_valid (expressions r.standing.constraints) c && value e c)
  decided c = all.value c ∙ ap (λ b. b && value e c) (h.conjunction.value c)

  pub planned : (answer : Result RulePlan RuleFault) → 0 < s.spare → s.standing ≡ r.standing → IsNodeOf us plan.node e → IfOk answer (λ a. a ≡ plan) → IfOk answer (IsPlan us s (rules.Constraint e))
  planned (Err fault) room same node is = tt
  planned (Ok a) room same node is = subst (IsPlan us s (rules.Constraint e)) (sym is) (record {
    few = omega (arith, few, most, ap (λ (t : Standing). length t.constraints) same);
    room = room;
    nodes = (
      node,
      subst (λ (t : Standing). StandsForAll us plan.conjunction (expressions t.constraints ++ e ∷ [])) (sym same)
          (stands_for_more ts us r.standing.conjunction plan.conjunction (expressions r.standing.constraints) e h.conjunction all),
    );
  })

  pub accepted : (answer : Result RulePlan RuleFault) → OnOk answer (((c : List Bool) → length c ≡ CHOICE_WIDTH → value_in us plan.conjunction c ≡ false) → ⊥) → IfOk answer (λ _. IsAccepted limit r.standing (rules.Constraint e))
  accepted (Err fault) some = tt
  accepted (Ok a) some = taken limit r.standing (rules.Constraint e) few (λ count fits. deciding.met (expressions r.standing.constraints) e us plan.conjunction decided some count fits)

  pub refused : (answer : Result RulePlan RuleFault) → IfErr answer (λ fault. (fault ≡ faults.NoVariantLeft) × ((c : List Bool) → length c ≡ CHOICE_WIDTH → value_in us plan.conjunction c ≡ false)) → IfErr answer (IsRuleFaultOf limit r.standing (rules.Constraint e))
  refused (Ok a) none = tt
  refused (Err fault) none = subst (IsRuleFaultOf limit r.standing (rules.Constraint e)) (sym none.0)
      (left_none limit r.standing (rules.Constraint e) few (λ count fits. deciding.unmet (expressions r.standing.constraints) e us plan.conjunction decided none.1 count fits.0))
