-- What one node decides of all choices.
use Rattle.std.proofs.Common.{◌≡◌, ℕ, zero, suc, ◌+◌, ◌-◌, ◌<◌, ◌≤◌, max, Bool, true, false, ◌&&◌, ◌||◌, not, nat_lt, option_map, List, [], ◌∷◌, ◌++◌, map, length, take, replicate, Some, None, if◌then◌else◌, refl, sym, ap, ◌∙◌, arith, length-append}
use Rattle.std.specs.List.{list_any, position_or_len}
use Rattle.std.proofs.lemmas.Bool.{ltb-false, or_parts}
use Rattle.std.proofs.lemmas.List.{length-take, length-replicate}
use Rattle.std.proofs.lemmas.List.Folds.{list_any-append}
use Rattle.cov_base.specs.Choices.{all_choices, is_on}
use Rattle.cov_base.specs.declared.limits.TheConstants.{CHOICE_WIDTH}
use Rattle.cov_base.proofs.CallerLemmas.{any-map, is_on-take}
use Rattle.cov_dd.specs.declared.triple.Triple.{Triple}
use Rattle.cov_dd.specs.Diagrams.{value_in}
use Rattle.cov_expr.specs.Formula.{Formula, False, True, On, Not, And, Or, value, reach}
use Rattle.cov_expr.specs.Validity.{is_valid, first_false}
use Rattle.cov_rules.specs.Installing.{reach_of}
use Rattle.cov_rules.specs.Refusals.{is_met}

-- an expression has the same value on choices that have the same values of its options
pub value_same : (e : Formula ℕ) (c d : List Bool) → ((o : ℕ) → o < reach e → is_on c o ≡ is_on d o) → value e c ≡ value e d
value_same False c d h = refl
value_same True c d h = refl
value_same (On o) c d h = h o (omega arith)
value_same (Not e) c d h = ap not (value_same e c d h)
value_same (And a b) c d h = λ j. value_same a c d (λ o lt. h o (omega (arith, lt))) j && value_same b c d (λ o lt. h o (omega (arith, lt))) j
value_same (Or a b) c d h = λ j. value_same a c d (λ o lt. h o (omega (arith, lt))) j || value_same b c d (λ o lt. h o (omega (arith, lt))) j

pub is_valid_same : (es : List (Formula ℕ)) (c d : List Bool) → ((o : ℕ) → o < reach_of es → is_on c o ≡ is_on d o) → is_valid es c ≡ is_valid es d
is_valid_same [] c d h = refl
is_valid_same (e ∷ es) c d h = λ j. value_same e c d (λ o lt. h o (omega (arith, lt))) j && is_valid_same es c d (λ o lt. h o (omega (arith, lt))) j

-- options that are off may be left out
pub is_on-padded : (c : List Bool) (k o : ℕ) → is_on (c ++ replicate k false) o ≡ is_on c o
is_on-padded [] zero o = refl
is_on-padded [] (suc k) zero = refl
is_on-padded [] (suc k) (suc o) = is_on-padded [] k o
is_on-padded (b ∷ c) k zero = refl
is_on-padded (b ∷ c) k (suc o) = is_on-padded c k o

-- the choices of one option more
module _ (n : ℕ) (p : List Bool → Bool) where
  halves : list_any p (all_choices (suc n)) ≡ (list_any (λ c. p (false ∷ c)) (all_choices n) || list_any (λ c. p (true ∷ c)) (all_choices n))
  halves = list_any-append p (map (λ c. false ∷ c) (all_choices n)) (map (λ c. true ∷ c) (all_choices n))
      ∙ (λ j. any-map p (λ c. false ∷ c) (all_choices n) j || any-map p (λ c. true ∷ c) (all_choices n) j)

-- a test that fails on each choice of n options passes none of them
pub none_passes : (n : ℕ) (p : List Bool → Bool) → ((c : List Bool) → length c ≡ n → p c ≡ false) → list_any p (all_choices n) ≡ false
none_passes zero p h = λ j. h [] refl j || false
none_passes (suc n) p h = halves n p
    ∙ (λ j. none_passes n (λ c. p (false ∷ c)) (λ c long. h (false ∷ c) (ap suc long)) j || none_passes n (λ c. p (true ∷ c)) (λ c long. h (true ∷ c) (ap suc long)) j)

pub fails_on_each : (n : ℕ) (p : List Bool → Bool) → list_any p (all_choices n) ≡ false → (c : List Bool) → length c ≡ n → p c ≡ false
fails_on_each zero p h [] long = (or_parts (p []) false h).0
fails_on_each zero p h (b ∷ c) long = absurd (omega (arith, long))
fails_on_each (suc n) p h [] long = absurd (omega (arith, long))
fails_on_each (suc n) p h (false ∷ c) long = fails_on_each n (λ d. p (false ∷ d)) (or_parts _ _ (sym (halves n p) ∙ h)).0 c (omega (arith, long))
fails_on_each (suc n) p h (true ∷ c) long = fails_on_each n (λ d. p (true ∷ d)) (or_parts _ _ (sym (halves n p) ∙ h)).1 c (omega (arith, long))

-- a test that reads the first options of a choice fails on each choice of the full width just where it fails on each of fewer options
module _ (count bound : ℕ) (p : List Bool → Bool) (most : count ≤ CHOICE_WIDTH) (reads : (c d : List Bool) → ((o : ℕ) → o < bound → is_on c o ≡ is_on d o) → p c ≡ p d) where
  pub none_short : ((c : List Bool) → length c ≡ CHOICE_WIDTH → p c ≡ false) → list_any p (all_choices count) ≡ false
  none_short none = none_passes count p (λ c long.
      let padded : List Bool = c ++ replicate (CHOICE_WIDTH - count) false in
      let full : length padded ≡ CHOICE_WIDTH = omega (arith, most, long, length-append c (replicate (CHOICE_WIDTH - count) false), length-replicate (CHOICE_WIDTH - count) false) in
      reads c padded (λ o lt. sym (is_on-padded c (CHOICE_WIDTH - count) o)) ∙ none padded full)

  pub none_wide : bound ≤ count → list_any p (all_choices count) ≡ false → (c : List Bool) → length c ≡ CHOICE_WIDTH → p c ≡ false
  none_wide fits none c long =
      reads c (take count c) (λ o lt. sym (is_on-take count c o (omega (arith, lt, fits))))
      ∙ fails_on_each count p none (take count c) (omega (arith, long, most, length-take count c))

-- a node with the values of the constraints and one more expression decides whether a choice meets them
module _ (es : List (Formula ℕ)) (e : Formula ℕ) (ts : List Triple) (node : ℕ)
    (is : (c : List Bool) → value_in ts node c ≡ (is_valid es c && value e c)) where
  abbrev bound : ℕ
  bound = max (reach_of es) (reach e)

  reads : (c d : List Bool) → ((o : ℕ) → o < bound → is_on c o ≡ is_on d o) → (is_valid es c && value e c) ≡ (is_valid es d && value e d)
  reads c d h = λ j. is_valid_same es c d (λ o lt. h o (omega (arith, lt))) j && value_same e c d (λ o lt. h o (omega (arith, lt))) j

  pub unmet : ((c : List Bool) → length c ≡ CHOICE_WIDTH → value_in ts node c ≡ false) → (count : ℕ) → count ≤ CHOICE_WIDTH → is_met count es e ≡ false
  unmet none count most = none_short count bound (λ c. is_valid es c && value e c) most reads (λ c long. sym (is c) ∙ none c long)

  pub met : (((c : List Bool) → length c ≡ CHOICE_WIDTH → value_in ts node c ≡ false) → ⊥) → (count : ℕ) → (count ≤ CHOICE_WIDTH) × (reach_of es ≤ count) × (reach e ≤ count) → is_met count es e ≡ true
  met some count fits = by (is_met count es e) refl
    where
      by : (b : Bool) → is_met count es e ≡ b → is_met count es e ≡ true
      by true h = h
      by false h = absurd (some (λ c long. is c ∙ none_wide count bound (λ d. is_valid es d && value e d) fits.0 reads (omega (arith, fits)) h c long))

module _ (c : List Bool) where
  abbrev fails : Formula ℕ → Bool
  fails e = not (value e c)

  passed : (fs : List (Formula ℕ)) → length fs ≤ position_or_len fails fs → is_valid fs c ≡ true
  passed [] h = refl
  passed (f ∷ fs) h = on (value f c) (passed fs) h
    where
      on : (b : Bool) → (length fs ≤ position_or_len fails fs → is_valid fs c ≡ true) → length (f ∷ fs) ≤ (if not (not b) then 1 + position_or_len fails fs else 0) → (b && is_valid fs c) ≡ true
      on true rest h = rest (omega (arith, h))
      on false rest h = absurd (omega (arith, h))

  -- constraints of which none is false on a choice allow it
  pub none_false : (es : List (Formula ℕ)) → None ≡ first_false es c → is_valid es c ≡ true
  none_false es h = passed es (by (nat_lt (position_or_len fails es) (length es)) refl h)
    where
      by : (b : Bool) → nat_lt (position_or_len fails es) (length es) ≡ b → None ≡ option_map (λ (n : ℕ). n + 1) (if b then Some (position_or_len fails es) else None) → length es ≤ position_or_len fails es
      by true e h = absurd (cc)
      by false e h = ltb-false (position_or_len fails es) (length es) e
