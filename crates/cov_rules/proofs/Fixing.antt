-- Nodes with the bound options set as they are bound.
use Rattle.std.proofs.Common.{◌≡◌, ◌≢◌, ℕ, ◌+◌, ◌<◌, ◌≤◌, ◌==◌, Bool, true, false, ◌&&◌, nat_lt, List, [], ◌∷◌, length, true≢false, refl, sym, ap, ◌∙◌, arith}
use Rattle.std.specs.List.{filter}
use Rattle.std.proofs.lemmas.Bool.{eqb-true, eqb-false, le-ltb, ltb-false}
use Rattle.cov_base.specs.Choices.{all_choices, is_on}
use Rattle.cov_base.proofs.CallerLemmas.{is_on-above}
use Rattle.cov_dd.specs.declared.triple.Triple.{Triple}
use Rattle.cov_dd.specs.Cofactors.{set_option, cofactor}
use Rattle.cov_dd.specs.Combinations.{joint_span}
use Rattle.cov_dd.specs.Diagrams.{diagram_size, top, span, value_in, Extends, Stands}
use Rattle.cov_dd.proofs.CallerLemmas.{is_on-set, is_on-set_other, Order, below, level, above, ordered}
use Rattle.cov_expr.specs.Formula.{Formula, value}
use Rattle.cov_rules.specs.declared.lefts.Left.{Left}
use Rattle.cov_rules.specs.Completion.{has_any}
use Rattle.cov_rules.specs.Installing.{IsNodeOf}
use Rattle.cov_rules.specs.Lefts.{agrees, choices_left, IsFixed, IsSound, Keeps, Meets}
use Rattle.cov_rules.proofs.Answering.{all_whole}
use Rattle.cov_rules.proofs.Leaving.{agrees_value, filter_same, sound_later, left_later}
use Rattle.cov_rules.proofs.Narrowing.{value_in_same, filter_filter, or_else_some, or_else_none}

-- setting an option as it is changes nothing
set_as_is : (us : List Triple) (r : ℕ) (c : List Bool) (o : ℕ) (v : Bool) → v ≡ is_on c o → value_in us r (set_option c o v) ≡ value_in us r c
set_as_is us r c o v is = value_in_same us r (set_option c o v) c (λ p _. each p (p == o) refl)
  where
    each : (p : ℕ) (b : Bool) → (p == o) ≡ b → is_on (set_option c o v) p ≡ is_on c p
    each p true e = let at : p ≡ o = eqb-true p o e in ap (is_on (set_option c o v)) at ∙ is_on-set c o v ∙ is ∙ ap (is_on c) (sym at)
    each p false e = is_on-set_other c o p v (eqb-false p o e)

-- an option that isn't bound before a number isn't before the next one
not_yet : (bound : List Bool) (o number : ℕ) → (o ≡ number → is_on bound o ≡ false) → (is_on bound o && nat_lt o number) ≡ false → (is_on bound o && nat_lt o (number + 1)) ≡ false
not_yet bound o number own h = by (is_on bound o) own h
  where
    by : (b : Bool) → (o ≡ number → b ≡ false) → (b && nat_lt o number) ≡ false → (b && nat_lt o (number + 1)) ≡ false
    by false own h = refl
    by true own h = at (ordered o number)
      where
        at : Order o number → nat_lt o (number + 1) ≡ false
        at (below lt) = absurd (omega (arith, lt, ltb-false o number h))
        at (level e) = absurd (true≢false (own e))
        at (above gt) = le-ltb o (number + 1) (omega (arith, gt))

pub none_fixed : (ts : List Triple) (left : Left) (node : ℕ) → node < diagram_size ts → IsFixed ts ts left 0 node node
none_fixed ts left node h = record {
  within = h;
  below = omega arith;
  value = λ c _ _. refl;
  free = λ c d same. value_in_same ts node c d (λ o _. same o (by (is_on left.bound o) o));
}
  where
    by : (b : Bool) (o : ℕ) → (b && nat_lt o 0) ≡ false
    by true o = le-ltb o 0 (omega arith)
    by false o = refl

module _ (ts us : List Triple) (left : Left) (lv : length left.values ≡ length left.bound) (number node r : ℕ) (is : IsFixed ts us left number node r) where
  pub passed : is_on left.bound number ≡ false → IsFixed ts us left (number + 1) node r
  passed un = record {
    within = is.within;
    below = is.below;
    value = is.value;
    free = λ c d h. is.free c d (λ o k. h o (not_yet left.bound o number (λ e. ap (is_on left.bound) e ∙ un) k));
  }

  pub fixed_more : (vs : List Triple) (q : ℕ) → is_on left.bound number ≡ true → Stands vs q (top us r) (span us r) (cofactor us r number (is_on left.values number)) → IsFixed ts vs left (number + 1) node q
  fixed_more vs q at s = record {
    within = s.within;
    below = omega (arith, s.below, is.below);
    value = λ c long agree. s.value c ∙ set_as_is us r c number (is_on left.values number) (agrees_value left.bound left.values c number lv long at agree) ∙ is.value c long agree;
    free = λ c d h. s.value c ∙ is.free (set_option c number (is_on left.values number)) (set_option d number (is_on left.values number)) (λ o k. each c d h o k (o == number) refl) ∙ sym (s.value d);
  }
    where
      each : (c d : List Bool) → ((o : ℕ) → (is_on left.bound o && nat_lt o (number + 1)) ≡ false → is_on c o ≡ is_on d o) → (o : ℕ) → (is_on left.bound o && nat_lt o number) ≡ false
          → (b : Bool) → (o == number) ≡ b → is_on (set_option c number (is_on left.values number)) o ≡ is_on (set_option d number (is_on left.values number)) o
      each c d h o k true e =
          let here : o ≡ number = eqb-true o number e in
          ap (is_on (set_option c number (is_on left.values number))) here ∙ is_on-set c number (is_on left.values number)
          ∙ sym (ap (is_on (set_option d number (is_on left.values number))) here ∙ is_on-set d number (is_on left.values number))
      each c d h o k false e =
          let other : o ≢ number = eqb-false o number e in
          is_on-set_other c number o (is_on left.values number) other ∙ h o (not_yet left.bound o number (λ e. absurd (other e)) k) ∙ sym (is_on-set_other d number o (is_on left.values number) other)

-- past all options nothing more is bound
fixed_whole : (bound : List Bool) (o number : ℕ) → length bound ≤ number → (is_on bound o && nat_lt o number) ≡ false → is_on bound o ≡ false
fixed_whole bound o number low h = by (is_on bound o) refl h
  where
    by : (b : Bool) → is_on bound o ≡ b → (b && nat_lt o number) ≡ false → b ≡ false
    by false e h = refl
    by true e h = sym e ∙ is_on-above bound o (omega (arith, low, ltb-false o number h))

-- the choices left on which a node is true, where it has none of the bound options any more
module _ (ts us vs : List Triple) (left : Left) (s : IsSound ts left) (x : Extends ts us) (wish fixed both first : ℕ) (f : IsFixed ts us left (length left.bound) wish fixed) (low : span ts wish ≤ length left.bound)
    (st : Stands vs both first (joint_span us left.node fixed) (λ c. value_in us left.node c && value_in us fixed c)) where
  each : (c : List Bool) → length c ≡ length left.bound → (agrees left.bound left.values c && value_in vs both c) ≡ ((agrees left.bound left.values c && value_in ts left.node c) && value_in ts wish c)
  each c long = by (agrees left.bound left.values c) refl
    where
      by : (a : Bool) → agrees left.bound left.values c ≡ a → (a && value_in vs both c) ≡ ((a && value_in ts left.node c) && value_in ts wish c)
      by true h = st.value c ∙ (λ j. x.value left.node s.within c j && f.value c long h j)
      by false h = refl

  pub met_left : Meets ts vs left wish (record { node = both; bound = left.bound; values = left.values })
  met_left = record {
    sound = record {
      few = s.few;
      values = s.values;
      within = st.within;
      options = omega (arith, st.below, x.most left.node s.within, s.options, f.below, low);
      free = λ c d h. st.value c
          ∙ (λ j. (x.value left.node s.within c ∙ s.free c d h ∙ sym (x.value left.node s.within d)) j && f.free c d (λ o k. h o (fixed_whole left.bound o (length left.bound) (omega arith) k)) j)
          ∙ sym (st.value d);
    };
    count = refl;
    choices = filter_same (λ c. length c ≡ length left.bound) (λ c. agrees left.bound left.values c && value_in vs both c) (λ c. (agrees left.bound left.values c && value_in ts left.node c) && value_in ts wish c)
        (all_choices (length left.bound)) (all_whole (length left.bound)) each
        ∙ sym (filter_filter (λ c. agrees left.bound left.values c && value_in ts left.node c) (value_in ts wish) (all_choices (length left.bound)));
  }

-- a preference that is kept, and one that isn't
module _ (ts us : List Triple) (left : Left) (wish : ℕ) (e : Formula ℕ) (is : IsNodeOf ts wish e) (next : Left) (met : Meets ts us left wish next) where
  wished : choices_left us next ≡ filter (value e) (choices_left ts left)
  wished = met.choices ∙ (λ j. filter (λ c. is.value c j) (choices_left ts left))

  pub preference_kept : has_any (choices_left us next) ≡ true → Keeps ts us left (e ∷ []) next
  preference_kept some = record {
    sound = met.sound;
    count = met.count;
    choices = wished ∙ or_else_some (filter (value e) (choices_left ts left)) (choices_left ts left) (sym (ap has_any wished) ∙ some);
  }

  pub preference_refused : IsSound ts left → Extends ts us → has_any (choices_left us next) ≡ false → Keeps ts us left (e ∷ []) left
  preference_refused s x none = record {
    sound = sound_later ts left s us x;
    count = refl;
    choices = left_later ts left s us x ∙ or_else_none (filter (value e) (choices_left ts left)) (choices_left ts left) (sym (ap has_any wished) ∙ none);
  }
