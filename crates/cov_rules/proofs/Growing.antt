-- What one more rule adds, and what more options change.
use Rattle.std.proofs.Common.{◌≡◌, ℕ, ◌+◌, ◌≤◌, Bool, true, false, nat_le, List, [], ◌∷◌, ◌++◌, take, cond, if◌then◌else◌, refl, sym, ap, subst, ◌∙◌, arith}
use Rattle.std.specs.List.{filter}
use Rattle.std.proofs.lemmas.List.{map-append}
use Rattle.std.proofs.lemmas.List.Elements.{filter-append}
use Rattle.cov_expr.specs.Formula.{Formula, reach}
use Rattle.cov_rules.specs.Completion.{fallbacks, AreBelow}
use Rattle.cov_rules.specs.Growth.{Follows, StayBelow, ValueByFirstOptions, ValidByFirstOptions}
use Rattle.cov_rules.specs.Installing.{Standing, literal, installed, with_rule, expressions, expressions_at, reach_of}
use Rattle.cov_rules.specs.Refusals.{reach_of_rule}
use Rattle.cov_rules.specs.declared.rules.Fallback.{Fallback}
use Rattle.cov_rules.specs.declared.rules.Installed.{Installed}
use Rattle.cov_rules.specs.declared.rules.Rule.{Rule}
use Rattle.cov_rules.specs.declared.rules.Rule.TheVariants as rules
use Rattle.cov_rules.specs.declared.rules.RulePlan.{RulePlan}
use Rattle.cov_base.proofs.CallerLemmas.{is_on-take}
use Rattle.cov_rules.proofs.Holding.{expressions_more, reach_of-more}
use Rattle.cov_rules.proofs.Deciding.{value_same, is_valid_same}

pub reach-literal : (o : ℕ) (on : Bool) → reach (literal o on) ≡ o + 1
reach-literal o true = refl
reach-literal o false = refl

none_more : (es : List (Formula ℕ)) → es ≡ es ++ []
none_more [] = refl
none_more (e ∷ es) = ap (λ fs. e ∷ fs) (none_more es)

fallbacks_more : (ds : List Fallback) (d : Fallback) → fallbacks (ds ++ d ∷ []) ≡ fallbacks ds ++ literal d.option d.on ∷ []
fallbacks_more ds d = map-append (λ (f : Fallback). literal f.option f.on) ds (d ∷ [])

expressions_at-more : (q : ℕ) (rs : List Installed) (r : Installed) → expressions_at q (rs ++ r ∷ []) ≡ expressions_at q rs ++ (if nat_le r.at q then r.expr ∷ [] else [])
expressions_at-more q rs r =
    ap expressions (filter-append (λ (s : Installed). nat_le s.at q) rs (r ∷ []))
    ∙ map-append (λ (s : Installed). s.expr) (filter (λ (s : Installed). nat_le s.at q) rs) (filter (λ (s : Installed). nat_le s.at q) (r ∷ []))
    ∙ ap (λ es. expressions_at q rs ++ es) (by (nat_le r.at q))
  where
    by : (b : Bool) → expressions (cond b (r ∷ []) []) ≡ (if b then r.expr ∷ [] else [])
    by true = refl
    by false = refl

none_at : (b : Bool) (es : List (Formula ℕ)) → es ≡ es ++ (if b then [] else [])
none_at true es = none_more es
none_at false es = none_more es

follows_with : (plan : RulePlan) (rule : Rule) (p : ℕ) (s : Standing) → Follows rule p s (with_rule plan rule p s)
follows_with plan (rules.Constraint e) p s = record {
  constraints = expressions_more s.constraints (installed plan e p);
  preferences = none_more (expressions s.preferences);
  defaults = none_more (fallbacks s.defaults);
  at = λ q. expressions_at-more q s.constraints (installed plan e p);
}
follows_with plan (rules.Prefer e) p s = record {
  constraints = none_more (expressions s.constraints);
  preferences = expressions_more s.preferences (installed plan e p);
  defaults = none_more (fallbacks s.defaults);
  at = λ q. none_at (nat_le p q) (expressions_at q s.constraints);
}
follows_with plan (rules.Default o on) p s = record {
  constraints = none_more (expressions s.constraints);
  preferences = none_more (expressions s.preferences);
  defaults = fallbacks_more s.defaults (record { option = o; on = on });
  at = λ q. none_at (nat_le p q) (expressions_at q s.constraints);
}

below_with : (plan : RulePlan) (rule : Rule) (p : ℕ) (s : Standing) (count : ℕ) → AreBelow count s → reach_of_rule rule ≤ count → AreBelow count (with_rule plan rule p s)
below_with plan (rules.Constraint e) p s count h fits = record {
  few = h.few;
  constraints = omega (arith, h.constraints, fits, reach_of-more (expressions s.constraints) e, ap reach_of (expressions_more s.constraints (installed plan e p)));
  preferences = h.preferences;
  defaults = h.defaults;
}
below_with plan (rules.Prefer e) p s count h fits = record {
  few = h.few;
  constraints = h.constraints;
  preferences = omega (arith, h.preferences, fits, reach_of-more (expressions s.preferences) e, ap reach_of (expressions_more s.preferences (installed plan e p)));
  defaults = h.defaults;
}
below_with plan (rules.Default o on) p s count h fits = record {
  few = h.few;
  constraints = h.constraints;
  preferences = h.preferences;
  defaults = omega (arith, h.defaults, fits, reach-literal o on, reach_of-more (fallbacks s.defaults) (literal o on), ap reach_of (fallbacks_more s.defaults (record { option = o; on = on })));
}

module _ (plan : RulePlan) (rule : Rule) (p : ℕ) (old new : Standing) (is : new ≡ with_rule plan rule p old) where
  pub follows : Follows rule p old new
  follows = subst (Follows rule p old) (sym is) (follows_with plan rule p old)

  pub below : (count : ℕ) → AreBelow count old → reach_of_rule rule ≤ count → AreBelow count new
  below count h fits = subst (AreBelow count) (sym is) (below_with plan rule p old count h fits)

pub stay_below : StayBelow
stay_below m n s more most h = record {
  few = most;
  constraints = omega (arith, more, h.constraints);
  preferences = omega (arith, more, h.preferences);
  defaults = omega (arith, more, h.defaults);
}

pub value_by_first_options : ValueByFirstOptions
value_by_first_options n e c fits = value_same e (take n c) c (λ o lt. is_on-take n c o (omega (arith, lt, fits)))

pub valid_by_first_options : ValidByFirstOptions
valid_by_first_options n es c fits = is_valid_same es (take n c) c (λ o lt. is_on-take n c o (omega (arith, lt, fits)))
