-- The completion of a partial choice, by what is left.
use Rattle.std.proofs.Common.{◌≡◌, ℕ, Bool, true, false, cond, List, [], ◌∷◌, refl, sym, ap, ◌∙◌}
use Rattle.std.specs.List.{filter}
use Rattle.cov_dd.specs.declared.triple.Triple.{Triple}
use Rattle.cov_dd.specs.Diagrams.{value_in, Extends}
use Rattle.cov_expr.specs.Formula.{Formula, value}
use Rattle.cov_expr.specs.Validity.{is_valid}
use Rattle.cov_rules.specs.Completion.{Complete, Invalid, has_any, or_else, keep, keep_all, least_unmet, fallbacks, agreeing, answer_of, completed_from, completed}
use Rattle.cov_rules.specs.Installing.{Standing, expressions, StandsForAll}
use Rattle.cov_rules.specs.Lefts.{answer_left, choices_left, unmet_answer, IsLeft, Meets, Narrows}
use Rattle.cov_rules.specs.declared.lefts.Left.{Left}
use Rattle.cov_rules.proofs.Leaving.{left_later}

or_else_any : (ds cs : List (List Bool)) → has_any cs ≡ true → has_any (or_else ds cs) ≡ true
or_else_any [] cs h = h
or_else_any (d ∷ ds) cs h = refl

-- wishes leave a choice where there is one
keep_all_any : (cs : List (List Bool)) (es : List (Formula ℕ)) → has_any cs ≡ true → has_any (keep_all cs es) ≡ true
keep_all_any cs [] h = h
keep_all_any cs (e ∷ es) h = keep_all_any (keep cs e) es (or_else_any (filter (value e) cs) cs h)

module _ (n : ℕ) (constraints preferences defaults : List (Formula ℕ)) (agree : List (List Bool)) where
  completed_none : (valid : List (List Bool)) → has_any valid ≡ false → completed_from n constraints preferences defaults agree valid ≡ Invalid (least_unmet constraints agree)
  completed_none [] h = refl
  completed_none (c ∷ cs) h = absurd (cc)

  completed_some : (valid : List (List Bool)) → has_any valid ≡ true → completed_from n constraints preferences defaults agree valid ≡ answer_of n (keep_all (keep_all valid preferences) defaults)
  completed_some [] h = absurd (cc)
  completed_some (c ∷ cs) h = refl

-- the valid choices that agree with a partial one, and those that wishes leave of them
abbrev pub valid : ℕ → Standing → List (ℕ × Bool) → List (List Bool)
valid n s partial = filter (is_valid (expressions s.constraints)) (agreeing n partial)

abbrev pub left : ℕ → Standing → List (ℕ × Bool) → List (List Bool)
left n s partial = keep_all (keep_all (valid n s partial) (expressions s.preferences)) (fallbacks s.defaults)

module _ (n : ℕ) (s : Standing) (partial : List (ℕ × Bool)) where
  pub invalid : has_any (valid n s partial) ≡ false → completed n s partial ≡ Invalid (least_unmet (expressions s.constraints) (agreeing n partial))
  invalid h = completed_none n (expressions s.constraints) (expressions s.preferences) (fallbacks s.defaults) (agreeing n partial) (valid n s partial) h

  pub answered : has_any (valid n s partial) ≡ true → completed n s partial ≡ answer_of n (left n s partial)
  answered h = completed_some n (expressions s.constraints) (expressions s.preferences) (fallbacks s.defaults) (agreeing n partial) (valid n s partial) h

  left_any : has_any (valid n s partial) ≡ true → has_any (left n s partial) ≡ true
  left_any h = keep_all_any (keep_all (valid n s partial) (expressions s.preferences)) (fallbacks s.defaults) (keep_all_any (valid n s partial) (expressions s.preferences) h)

-- one choice is left of one
keep_all_one : (c : List Bool) (es : List (Formula ℕ)) → keep_all (c ∷ []) es ≡ c ∷ []
keep_all_one c [] = refl
keep_all_one c (e ∷ es) = by (value e c) ∙ keep_all_one c es
  where
    by : (b : Bool) → keep_all (or_else (cond b (c ∷ []) []) (c ∷ [])) es ≡ keep_all (c ∷ []) es
    by true = refl
    by false = refl

-- a partial choice that binds all options is completed by itself
pub whole : (n : ℕ) (s : Standing) (partial : List (ℕ × Bool)) (choice : List Bool) → agreeing n partial ≡ choice ∷ [] → is_valid (expressions s.constraints) choice ≡ true → completed n s partial ≡ Complete choice
whole n s partial choice is ok =
    let alone : valid n s partial ≡ choice ∷ [] = ap (filter (is_valid (expressions s.constraints))) is ∙ ap (λ b. cond b (choice ∷ []) []) ok in
    answered n s partial (ap has_any alone)
    ∙ ap (λ cs. answer_of n (keep_all (keep_all cs (expressions s.preferences)) (fallbacks s.defaults))) alone
    ∙ ap (λ cs. answer_of n (keep_all cs (fallbacks s.defaults))) (keep_all_one choice (expressions s.preferences))
    ∙ ap (answer_of n) (keep_all_one choice (fallbacks s.defaults))

-- what is left of the choices that agree, once they meet the constraints and once preferences and defaults have narrowed them
module _ (n : ℕ) (s : Standing) (partial : List (ℕ × Bool)) (us vs : List Triple) (agree met : Left) (is : IsLeft us n (agreeing n partial) agree) where
  pub valid_left : (all : ℕ) → all ≡ s.conjunction → StandsForAll us s.conjunction (expressions s.constraints) → Meets us vs agree all met → IsLeft vs n (valid n s partial) met
  valid_left all at stands met = record {
    sound = met.sound;
    count = met.count ∙ is.count;
    choices = met.choices ∙ (λ j. filter (λ c. (ap (λ a. value_in us a c) at ∙ stands.value c) j) (choices_left us agree)) ∙ ap (filter (is_valid (expressions s.constraints))) is.choices;
  }

  pub unmet_left : Extends us vs → has_any (valid n s partial) ≡ false → completed n s partial ≡ unmet_answer vs agree s
  unmet_left x none = invalid n s partial none ∙ ap (λ cs. Invalid (least_unmet (expressions s.constraints) cs)) (sym (left_later us agree is.sound vs x ∙ is.choices))

module _ (n : ℕ) (s : Standing) (partial : List (ℕ × Bool)) (vs ws : List Triple) (met next : Left) (is : IsLeft vs n (valid n s partial) met) (some : has_any (valid n s partial) ≡ true) (step : Narrows vs ws met s next) where
  narrowed : choices_left ws next ≡ left n s partial
  narrowed = step.choices ∙ ap (λ cs. keep_all (keep_all cs (expressions s.preferences)) (fallbacks s.defaults)) is.choices

  pub some_left : has_any (choices_left ws next) ≡ true
  some_left = ap has_any narrowed ∙ left_any n s partial some

  pub answer : completed n s partial ≡ answer_left ws next
  answer = answered n s partial some ∙ sym (λ j. answer_of ((step.count ∙ is.count) j) (narrowed j))
