-- Options that are bound one after another, as the bindings have them.
use Rattle.std.proofs.Common.{◌≡◌, ℕ, ◌+◌, ◌<◌, ◌==◌, Bool, true, false, nat_lt, List, ◌∷◌, length, take, drop, get_or, refl, sym, ap, subst, ◌∙◌, arith, add-one}
use Rattle.std.specs.List.{filter, list_all}
use Rattle.std.proofs.Math.Seq.{drop-cons}
use Rattle.std.proofs.lemmas.Bool.{and_parts, eqb-true, eqb-false, ltb-true}
use Rattle.cov_base.specs.Choices.{all_choices, is_on, with_option}
use Rattle.cov_base.proofs.CallerLemmas.{is_on-other}
use Rattle.cov_dd.specs.declared.triple.Triple.{Triple}
use Rattle.cov_expr.specs.Partials.{is_in_order}
use Rattle.cov_expr.specs.Formula.{value}
use Rattle.cov_expr.specs.Validity.{is_valid}
use Rattle.cov_rules.specs.Completion.{agreeing, literals}
use Rattle.cov_rules.specs.Installing.{literal}
use Rattle.cov_rules.specs.Lefts.{Binds, IsLeft}
use Rattle.cov_rules.specs.declared.lefts.Left.{Left}
use Rattle.cov_rules.proofs.Holding.{is_valid-more}
use Rattle.cov_rules.proofs.Narrowing.{filter_filter, stated_more}

-- the bindings ahead are of options in order, below a count and after those that are bound
pub record AreAhead (count : ℕ) (bound : List Bool) (bindings : List (ℕ × Bool)) : Type 0 where
  pub below : list_all (λ b. nat_lt b.0 count) bindings ≡ true
  pub in_order : is_in_order bindings ≡ true
  pub after : (o : ℕ) → is_on bound o ≡ true → list_all (λ b. nat_lt o b.0) bindings ≡ true

module _ (count : ℕ) (bound : List Bool) (b : ℕ × Bool) (bs : List (ℕ × Bool)) (h : AreAhead count bound (b ∷ bs)) where
  pub next_below : b.0 < count
  next_below = ltb-true b.0 count (and_parts (nat_lt b.0 count) (list_all (λ c. nat_lt c.0 count) bs) h.below).0

  pub next_unbound : is_on bound b.0 ≡ false
  next_unbound = by (is_on bound b.0) refl
    where
      by : (v : Bool) → is_on bound b.0 ≡ v → v ≡ false
      by true e = absurd (omega (arith, ltb-true b.0 b.0 (and_parts (nat_lt b.0 b.0) (list_all (λ c. nat_lt b.0 c.0) bs) (h.after b.0 e)).0))
      by false e = refl

  pub rest_ahead : AreAhead count (with_option bound b.0 true) bs
  rest_ahead =
      let order = and_parts (list_all (λ c. nat_lt b.0 c.0) bs) (is_in_order bs) h.in_order in
      record {
        below = (and_parts (nat_lt b.0 count) (list_all (λ c. nat_lt c.0 count) bs) h.below).1;
        in_order = order.1;
        after = λ o at. by order.0 o at (o == b.0) refl;
      }
    where
      by : list_all (λ c. nat_lt b.0 c.0) bs ≡ true → (o : ℕ) → is_on (with_option bound b.0 true) o ≡ true → (e : Bool) → (o == b.0) ≡ e → list_all (λ c. nat_lt o c.0) bs ≡ true
      by later o at true e = subst (λ (p : ℕ). list_all (λ c. nat_lt p c.0) bs ≡ true) (sym (eqb-true o b.0 e)) later
      by later o at false e = (and_parts (nat_lt o b.0) (list_all (λ c. nat_lt o c.0) bs) (h.after o (sym (is_on-other bound b.0 o true (eqb-false o b.0 e)) ∙ at))).1

-- the next binding comes first of those ahead
pub next_first : (bs : List (ℕ × Bool)) (i : ℕ) (b : ℕ × Bool) → i < length bs → b ≡ get_or bs i b → drop i bs ≡ b ∷ drop (i + 1) bs
next_first bs i b lt at = drop-cons bs i b lt ∙ (λ j. sym at j ∷ drop (sym (add-one i) j) bs)

-- the choices that agree with one binding more
pub agree_more : (us vs : List Triple) (left next : Left) (n i : ℕ) (bs : List (ℕ × Bool)) (b : ℕ × Bool) → i < length bs → b ≡ get_or bs i b
    → IsLeft us n (agreeing n (take i bs)) left → Binds us vs left b.0 b.1 next → IsLeft vs n (agreeing n (take (i + 1) bs)) next
agree_more us vs left next n i bs b lt at before step = record {
  sound = step.sound;
  count = step.count ∙ before.count;
  choices = step.choices ∙ ap (filter (value (literal b.0 b.1))) before.choices ∙ filter_filter (is_valid (literals (take i bs))) (value (literal b.0 b.1)) (all_choices n)
      ∙ (λ j. filter (λ c. sym (is_valid-more (literals (take i bs)) (literal b.0 b.1) c) j) (all_choices n))
      ∙ ap (λ es. filter (is_valid es) (all_choices n)) (sym (stated_more (λ (p : ℕ × Bool). literal p.0 p.1) bs i b lt at));
}
