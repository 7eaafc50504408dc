-- Constraints that are met one after another.
use Rattle.std.proofs.Common.{◌≡◌, ℕ, ◌+◌, ◌<◌, ◌≤◌, Bool, true, false, List, [], ◌∷◌, length, drop, get_or, refl, sym, ap, ◌∙◌, arith, add-one}
use Rattle.std.specs.List.{filter}
use Rattle.std.proofs.Math.Seq.{drop-cons}
use Rattle.std.proofs.lemmas.List.{drop_all}
use Rattle.cov_dd.specs.declared.triple.Triple.{Triple}
use Rattle.cov_expr.specs.Formula.{Formula, value}
use Rattle.cov_rules.specs.Completion.{has_any, least_unmet}
use Rattle.cov_rules.specs.Installing.{expressions, IsNodeOf}
use Rattle.cov_rules.specs.Lefts.{choices_left, Meets}
use Rattle.cov_rules.specs.declared.lefts.Left.{Left}
use Rattle.cov_rules.specs.declared.rules.Installed.{Installed}

none_unmet : (es : List (Formula ℕ)) (cs : List (List Bool)) → has_any cs ≡ false → least_unmet es cs ≡ 0
none_unmet es [] h = refl
none_unmet es (c ∷ cs) h = absurd (cc)

one_more : (e : Formula ℕ) (es : List (Formula ℕ)) (cs : List (List Bool)) → has_any cs ≡ true → least_unmet (e ∷ es) cs ≡ 1 + least_unmet es (filter (value e) cs)
one_more e es [] h = absurd (cc)
one_more e es (c ∷ cs) h = refl

no_more : (cs : List (List Bool)) → least_unmet [] cs ≡ 0
no_more [] = refl
no_more (c ∷ cs) = refl

-- the number of all constraints that rule the choices out, by those that are counted and those ahead
module _ (rs : List Installed) (i rule number : ℕ) (us : List Triple) (left : Left) (counted : number ≡ rule + least_unmet (expressions (drop i rs)) (choices_left us left)) where
  pub stops : has_any (choices_left us left) ≡ false → rule ≡ number
  stops none = omega (arith, counted, none_unmet (expressions (drop i rs)) (choices_left us left) none)

  pub counts_all : length rs ≤ i → rule ≡ number
  counts_all end = omega (arith, counted, ap (λ ds. least_unmet (expressions ds) (choices_left us left)) (drop_all i rs end), no_more (choices_left us left))

  pub counts_more : has_any (choices_left us left) ≡ true → (r : Installed) → i < length rs → r ≡ get_or rs i r → IsNodeOf us r.node r.expr → (vs : List Triple) (next : Left) → Meets us vs left r.node next
      → number ≡ rule + 1 + least_unmet (expressions (drop (i + 1) rs)) (choices_left vs next)
  counts_more some r lt at stands vs next met =
      let step : least_unmet (expressions (drop i rs)) (choices_left us left) ≡ 1 + least_unmet (expressions (drop (i + 1) rs)) (choices_left vs next) =
      ap (λ ds. least_unmet (expressions ds) (choices_left us left)) dropped ∙ one_more r.expr (expressions (drop (i + 1) rs)) (choices_left us left) some
      ∙ ap (λ cs. 1 + least_unmet (expressions (drop (i + 1) rs)) cs) ((λ j. filter (λ c. sym (stands.value c) j) (choices_left us left)) ∙ sym met.choices) in
      omega (arith, counted, step)
    where
      dropped : drop i rs ≡ r ∷ drop (i + 1) rs
      dropped = drop-cons rs i r lt ∙ (λ j. sym at j ∷ drop (sym (add-one i) j) rs)
