-- What holds of rules in a table, in a greater one and with one rule more.
use Rattle.std.proofs.Common.{◌≡◌, ℕ, max, Bool, true, ◌&&◌, List, [], ◌∷◌, ◌++◌, refl, sym, ap, subst, ◌∙◌, arith}
use mathlib.Core.Bool.{and-true}
use Rattle.std.proofs.lemmas.List.{map-append}
use Rattle.std.proofs.lemmas.List.Folds.{list_all-append}
use Rattle.cov_base.proofs.CallerLemmas.{all-append, all-map}
use Rattle.cov_dd.specs.declared.triple.Triple.{Triple}
use Rattle.cov_dd.specs.Diagrams.{span, value_in, Extends, Stands}
use Rattle.cov_dd.proofs.CallerLemmas.{stands_later, stands_weaker, constant_stands}
use Rattle.cov_expr.specs.Formula.{Formula, value, reach}
use Rattle.cov_expr.specs.Validity.{is_valid}
use Rattle.cov_rules.specs.Installing.{Standing, installed, with_rule, expressions, reach_of, IsNodeOf, StandsForAll, AllStand, Holds, Plans}
use Rattle.cov_rules.specs.declared.rules.Installed.{Installed}
use Rattle.cov_rules.specs.declared.rules.Rule.{Rule}
use Rattle.cov_rules.specs.declared.rules.Rule.TheVariants as rules
use Rattle.cov_rules.specs.declared.rules.RulePlan.{RulePlan}

all_stand_later : {ts us : List Triple} → Extends ts us → (rs : List Installed) → AllStand ts rs → AllStand us rs
all_stand_later {ts} {us} x rs h = all-map (λ (r : Installed). IsNodeOf ts r.node r.expr) (λ (r : Installed). IsNodeOf us r.node r.expr) (λ r s. stands_later x s) rs h

all_stand_more : (ts : List Triple) (rs : List Installed) (r : Installed) → AllStand ts rs → IsNodeOf ts r.node r.expr → AllStand ts (rs ++ r ∷ [])
all_stand_more ts rs r h new = all-append (λ (q : Installed). IsNodeOf ts q.node q.expr) rs (r ∷ []) h (new, tt)

-- rules hold in a table that has grown
pub holds_later : {ts us : List Triple} {s : Standing} → Extends ts us → Holds ts s → Holds us s
holds_later {s = s} x h = record {
  constraints = all_stand_later x s.constraints h.constraints;
  preferences = all_stand_later x s.preferences h.preferences;
  conjunction = stands_later x h.conjunction;
}

pub expressions_more : (rs : List Installed) (r : Installed) → expressions (rs ++ r ∷ []) ≡ expressions rs ++ r.expr ∷ []
expressions_more rs r = map-append (λ (s : Installed). s.expr) rs (r ∷ [])

pub reach_of-more : (es : List (Formula ℕ)) (e : Formula ℕ) → reach_of (es ++ e ∷ []) ≡ max (reach_of es) (reach e)
reach_of-more [] e = omega arith
reach_of-more (d ∷ es) e = omega (arith, reach_of-more es e)

pub is_valid-more : (es : List (Formula ℕ)) (e : Formula ℕ) (c : List Bool) → is_valid (es ++ e ∷ []) c ≡ (is_valid es c && value e c)
is_valid-more es e c = list_all-append (λ f. value f c) es (e ∷ []) ∙ ap (λ b. is_valid es c && b) (and-true (value e c))

-- the conjunction of all constraints and one more
pub stands_for_more : (ts us : List Triple) (all node : ℕ) (es : List (Formula ℕ)) (e : Formula ℕ) → StandsForAll ts all es
    → Stands us node 0 (max (span ts all) (reach e)) (λ c. value_in ts all c && value e c) → StandsForAll us node (es ++ e ∷ [])
stands_for_more ts us all node es e old new =
    stands_weaker 0 (reach_of (es ++ e ∷ [])) (is_valid (es ++ e ∷ [])) (omega arith) (omega (arith, reach_of-more es e, old.below))
    (λ c. ap (λ b. b && value e c) (old.value c) ∙ sym (is_valid-more es e c)) new

-- TRUE stands for no constraint
pub none_hold : (ts : List Triple) → StandsForAll ts 1 []
none_hold ts = stands_weaker 0 0 (is_valid []) (omega arith) (omega arith) (λ _. refl) (constant_stands ts 1 true (omega arith) refl)

-- rules hold with one more
pub holds_with : (ts : List Triple) (s : Standing) (plan : RulePlan) (rule : Rule) (p : ℕ) → Holds ts s → Plans ts s rule plan → Holds ts (with_rule plan rule p s)
holds_with ts s plan (rules.Constraint e) p h is = record {
  constraints = all_stand_more ts s.constraints (installed plan e p) h.constraints is.0;
  preferences = h.preferences;
  conjunction = subst (StandsForAll ts plan.conjunction) (sym (expressions_more s.constraints (installed plan e p))) is.1;
}
holds_with ts s plan (rules.Prefer e) p h is = record {
  constraints = h.constraints;
  preferences = all_stand_more ts s.preferences (installed plan e p) h.preferences is;
  conjunction = h.conjunction;
}
holds_with ts s plan (rules.Default o on) p h is = record { constraints = h.constraints; preferences = h.preferences; conjunction = h.conjunction }
