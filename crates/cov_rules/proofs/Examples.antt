-- Worked cases of rules over the options a and b.
use Rattle.std.proofs.Common.{◌≡◌, true, false, [], ◌∷◌, Some, None, refl}
use Rattle.cov_expr.specs.Formula.{On, Not, And, Or}
use Rattle.cov_rules.specs.Completion.{Complete, Invalid, Incomplete, completed}
use Rattle.cov_rules.specs.Installing.{Standing, expressions_at}
use Rattle.cov_rules.specs.Refusals.{refusal}
use Rattle.cov_rules.specs.declared.rules.Rule.TheVariants as rules
use Rattle.cov_rules.specs.declared.rules.RuleFault.TheVariants as faults

-- !a | b and !a | !b, at positions 3 and 5
abbrev constrained : Standing
constrained = record {
  constraints = record { expr = Or (Not (On 0)) (On 1); node = 0; at = 3 } ∷ record { expr = Or (Not (On 0)) (Not (On 1)); node = 0; at = 5 } ∷ [];
  preferences = [];
  defaults = [];
  conjunction = 0;
}

-- a preference for a and one that cannot hold beside it, and the defaults a off and b on
abbrev wishing : Standing
wishing = record {
  constraints = [];
  preferences = record { expr = On 0; node = 0; at = 3 } ∷ record { expr = And (Not (On 0)) (On 1); node = 0; at = 4 } ∷ [];
  defaults = record { option = 0; on = false } ∷ record { option = 1; on = true } ∷ [];
  conjunction = 0;
}

up_to_4 : expressions_at 4 constrained.constraints ≡ Or (Not (On 0)) (On 1) ∷ []
up_to_4 = refl

-- both constraints together rule a out, though the first choice that agrees meets the second
second_is_named : completed 2 constrained ((0, true) ∷ []) ≡ Invalid 2
second_is_named = refl

left_open : completed 2 constrained ((0, false) ∷ []) ≡ Incomplete (Some 1)
left_open = refl

bound_whole : completed 2 constrained ((0, false) ∷ (1, true) ∷ []) ≡ Complete (false ∷ true ∷ [])
bound_whole = refl

-- preferences come before defaults, and a wish that nothing meets changes nothing
wishes_in_order : completed 2 wishing [] ≡ Complete (true ∷ true ∷ [])
wishes_in_order = refl

no_variant_with_a : refusal 256 2 constrained (rules.Constraint (On 0)) ≡ Some faults.NoVariantLeft
no_variant_with_a = refl

variants_without_a : refusal 256 2 constrained (rules.Constraint (Not (On 0))) ≡ None
variants_without_a = refl

wished_anyway : refusal 256 2 constrained (rules.Prefer (On 0)) ≡ None
wished_anyway = refl
