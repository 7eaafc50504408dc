-- What is known of the choice that completes a partial one.
use Rattle.std.proofs.Common.{◌≡◌, ℕ, zero, suc, ◌+◌, Bool, true, false, ◌&&◌, cond, not, nat_lt, List, [], ◌∷◌, ◌++◌, map, length, Some, None, option_map, if◌then◌else◌, refl, ap, subst, arith}
use Rattle.std.specs.List.{filter, position_or_len, AllByRecursion}
use Rattle.std.proofs.lemmas.Bool.{ltb-true}
use Rattle.cov_base.specs.Choices.{all_choices}
use Rattle.cov_expr.specs.Formula.{Formula, value}
use Rattle.cov_expr.specs.Validity.{is_valid, first_false}
use Rattle.cov_rules.specs.Completion.{Complete, CompletedIsValid, or_else, keep, keep_all, literals, agreeing, answer_of, completed_from}

module _ (c : List Bool) where
  abbrev fails : Formula ℕ → Bool
  fails e = not (value e c)

  none_fails : (es : List (Formula ℕ)) → is_valid es c ≡ true → position_or_len fails es ≡ length es
  none_fails [] h = refl
  none_fails (e ∷ es) h = by (value e c) h (none_fails es)
    where
      by : (b : Bool) → (b && is_valid es c) ≡ true → (is_valid es c ≡ true → position_or_len fails es ≡ length es) → (if not (not b) then 1 + position_or_len fails es else 0) ≡ length (e ∷ es)
      by true h rest = omega (arith, rest h)
      by false h rest = absurd (cc)

  -- of constraints that allow a choice none is false on it
  pub allowed : (es : List (Formula ℕ)) → is_valid es c ≡ true → first_false es c ≡ None
  allowed es h = by (nat_lt (position_or_len fails es) (length es)) refl
    where
      by : (b : Bool) → nat_lt (position_or_len fails es) (length es) ≡ b → option_map (λ (n : ℕ). n + 1) (if b then Some (position_or_len fails es) else None) ≡ None
      by true e = absurd (omega (arith, ltb-true (position_or_len fails es) (length es) e, none_fails es h))
      by false e = refl

module _ {X : Type 0} (P : X → Type 0) where
  all_append : (xs ys : List X) → AllByRecursion P xs → AllByRecursion P ys → AllByRecursion P (xs ++ ys)
  all_append [] ys h k = k
  all_append (x ∷ xs) ys h k = (h.0, all_append xs ys h.1 k)

  all_filter : (t : X → Bool) (xs : List X) → AllByRecursion P xs → AllByRecursion P (filter t xs)
  all_filter t [] h = tt
  all_filter t (x ∷ xs) h = by (t x) (all_filter t xs h.1)
    where
      by : (b : Bool) → AllByRecursion P (filter t xs) → AllByRecursion P (cond b (x ∷ filter t xs) (filter t xs))
      by true rest = (h.0, rest)
      by false rest = rest

all_passed : {X : Type 0} (t : X → Bool) (xs : List X) → AllByRecursion (λ x. t x ≡ true) (filter t xs)
all_passed t [] = tt
all_passed t (x ∷ xs) = by (t x) refl (all_passed t xs)
  where
    by : (b : Bool) → t x ≡ b → AllByRecursion (λ y. t y ≡ true) (filter t xs) → AllByRecursion (λ y. t y ≡ true) (cond b (x ∷ filter t xs) (filter t xs))
    by true e rest = (e, rest)
    by false e rest = rest

longer : (b : Bool) (n : ℕ) (cs : List (List Bool)) → AllByRecursion (λ c. length c ≡ n) cs → AllByRecursion (λ c. length c ≡ suc n) (map (λ c. b ∷ c) cs)
longer b n [] h = tt
longer b n (c ∷ cs) h = (ap suc h.0, longer b n cs h.1)

-- each choice of so many options has their number
pub all_whole : (n : ℕ) → AllByRecursion (λ c. length c ≡ n) (all_choices n)
all_whole zero = (refl, tt)
all_whole (suc n) =
    all_append (λ c. length c ≡ suc n) (map (λ c. false ∷ c) (all_choices n)) (map (λ c. true ∷ c) (all_choices n)) (longer false n (all_choices n) (all_whole n)) (longer true n (all_choices n) (all_whole n))

-- what holds of all choices holds of those that wishes leave
module _ (P : List Bool → Type 0) where
  chosen : (ds cs : List (List Bool)) → AllByRecursion P ds → AllByRecursion P cs → AllByRecursion P (or_else ds cs)
  chosen [] cs h k = k
  chosen (d ∷ ds) cs h k = h

  left : (cs : List (List Bool)) (wishes : List (Formula ℕ)) → AllByRecursion P cs → AllByRecursion P (keep_all cs wishes)
  left cs [] h = h
  left cs (wish ∷ wishes) h = left (keep cs wish) wishes (chosen (filter (value wish) cs) cs (all_filter P (value wish) cs h) h)

  -- so of the only one
  only : (n : ℕ) (cs : List (List Bool)) (choice : List Bool) → AllByRecursion P cs → answer_of n cs ≡ Complete choice → P choice
  only n [] choice h e = absurd (cc)
  only n (c ∷ []) choice h e = let same : c ≡ choice = cc in subst P same h.0
  only n (c ∷ d ∷ cs) choice h e = absurd (cc)

  answer : (n : ℕ) (constraints preferences defaults : List (Formula ℕ)) (agree cs : List (List Bool)) (choice : List Bool) → AllByRecursion P cs → completed_from n constraints preferences defaults agree cs ≡ Complete choice → P choice
  answer n constraints preferences defaults agree [] choice h e = absurd (cc)
  answer n constraints preferences defaults agree (c ∷ cs) choice h e =
      only n (keep_all (keep_all (c ∷ cs) preferences) defaults) choice (left (keep_all (c ∷ cs) preferences) defaults (left (c ∷ cs) preferences h)) e

pub completed_is_valid : CompletedIsValid
completed_is_valid n constraints preferences defaults partial choice e =
    let agree = agreeing n partial in
    let cs = filter (is_valid constraints) agree in
    record {
      whole = answer (λ c. length c ≡ n) n constraints preferences defaults agree cs choice
          (all_filter (λ c. length c ≡ n) (is_valid constraints) agree (all_filter (λ c. length c ≡ n) (is_valid (literals partial)) (all_choices n) (all_whole n))) e;
      valid = allowed choice constraints (answer (λ c. is_valid constraints c ≡ true) n constraints preferences defaults agree cs choice (all_passed (is_valid constraints) agree) e);
      agrees = answer (λ c. is_valid (literals partial) c ≡ true) n constraints preferences defaults agree cs choice
          (all_filter (λ c. is_valid (literals partial) c ≡ true) (is_valid constraints) agree (all_passed (is_valid (literals partial)) (all_choices n))) e;
    }
