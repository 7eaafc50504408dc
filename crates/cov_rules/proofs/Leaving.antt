-- The choices that are left, as options are bound.
use Rattle.std.proofs.Common.{◌≡◌, ◌≢◌, ℕ, zero, suc, ◌<◌, ◌==◌, ◌↔◌, Bool, true, false, cond, ◌&&◌, ◌||◌, not, List, [], ◌∷◌, length, true≢false, refl, sym, ap, ◌∙◌, arith}
use Rattle.std.specs.List.{filter, list_any, AllByRecursion}
use Rattle.std.proofs.lemmas.Bool.{eqb-true, eqb-false}
use Rattle.cov_base.specs.Choices.{all_choices, is_on, with_option}
use Rattle.cov_base.specs.declared.limits.TheConstants.{CHOICE_WIDTH}
use Rattle.cov_base.proofs.CallerLemmas.{is_on-other, length-with_option}
use Rattle.cov_dd.specs.declared.triple.Triple.{Triple}
use Rattle.cov_dd.specs.Cofactors.{set_option, cofactor}
use Rattle.cov_dd.specs.Diagrams.{top, span, value_in, Extends, Stands}
use Rattle.cov_dd.proofs.CallerLemmas.{is_on-set, is_on-set_other}
use Rattle.cov_expr.specs.Formula.{value}
use Rattle.cov_rules.specs.declared.lefts.Left.{Left}
use Rattle.cov_rules.specs.Completion.{has_any, or_else, keep}
use Rattle.cov_rules.specs.Installing.{literal}
use Rattle.cov_rules.specs.Lefts.{same, agrees, choices_left, IsFree, IsSound, IsLeft}
use Rattle.cov_rules.proofs.Answering.{all_whole}
use Rattle.cov_rules.proofs.Deciding.{none_short, none_wide, none_passes, fails_on_each}
use Rattle.cov_rules.proofs.Narrowing.{value_in_same, any_filter, filter_filter, or_else_none}

and_swapped : (x y : Bool) → (x && y) ≡ (y && x)
and_swapped true true = refl
and_swapped true false = refl
and_swapped false true = refl
and_swapped false false = refl

and_moved : (x y z : Bool) → (x && (y && z)) ≡ ((x && y) && z)
and_moved true y z = refl
and_moved false y z = refl

-- tests that are the same on what is in a list
pub filter_same : {X : Type 0} (P : X → Type 0) (p q : X → Bool) (xs : List X) → AllByRecursion P xs → ((x : X) → P x → p x ≡ q x) → filter p xs ≡ filter q xs
filter_same P p q [] all h = refl
filter_same P p q (x ∷ xs) all h =
    let rest = filter_same P p q xs all.1 h in
    λ j. cond (h x all.0 j) (x ∷ rest j) (rest j)

filter_none : {X : Type 0} (xs : List X) → filter (λ _. false) xs ≡ []
filter_none [] = refl
filter_none (x ∷ xs) = filter_none xs

-- where a test passes nothing, its complement passes all
pub other_passes : {X : Type 0} (t u : X → Bool) → ((x : X) → u x ≡ not (t x)) → (xs : List X) → has_any (filter t xs) ≡ false → filter u xs ≡ xs
other_passes t u other [] h = refl
other_passes t u other (x ∷ xs) h = by (t x) (other x) h (other_passes t u other xs)
  where
    by : (b : Bool) → u x ≡ not b → has_any (cond b (x ∷ filter t xs) (filter t xs)) ≡ false → (has_any (filter t xs) ≡ false → filter u xs ≡ xs) → cond (u x) (x ∷ filter u xs) (filter u xs) ≡ x ∷ xs
    by true is h rest = absurd (true≢false h)
    by false is h rest = ap (λ b. cond b (x ∷ filter u xs) (filter u xs)) is ∙ ap (λ ys. x ∷ ys) (rest h)

-- an option's value as the test of a literal
same_literal : (on : Bool) (o : ℕ) (c : List Bool) → same on (is_on c o) ≡ value (literal o on) c
same_literal true o c = refl
same_literal false o c = refl

pub literal_other : (on : Bool) (o : ℕ) (c : List Bool) → value (literal o (not on)) c ≡ not (value (literal o on) c)
literal_other true o c = refl
literal_other false o c = by (is_on c o)
  where
    by : (b : Bool) → b ≡ not (not b)
    by true = refl
    by false = refl

pub same_true : (v x : Bool) → same v x ≡ true → v ≡ x
same_true true x h = sym h
same_true false true h = absurd (true≢false (sym h))
same_true false false h = refl

same_itself : (v : Bool) → same v v ≡ true
same_itself true = refl
same_itself false = refl

-- one option bound more
agrees_with : (bound values c : List Bool) (o : ℕ) (on : Bool) → length values ≡ length bound → length c ≡ length bound → o < length bound → is_on bound o ≡ false
    → agrees (with_option bound o true) (with_option values o on) c ≡ (agrees bound values c && same on (is_on c o))
agrees_with [] values c o on lv lc low free = absurd (omega (arith, low))
agrees_with (b ∷ bound) [] c o on lv lc low free = absurd (omega (arith, lv))
agrees_with (b ∷ bound) (v ∷ values) [] o on lv lc low free = absurd (omega (arith, lc))
agrees_with (true ∷ bound) (v ∷ values) (x ∷ c) zero on lv lc low free = absurd (true≢false free)
agrees_with (false ∷ bound) (v ∷ values) (x ∷ c) zero on lv lc low free = and_swapped (same on x) (agrees bound values c)
agrees_with (b ∷ bound) (v ∷ values) (x ∷ c) (suc o) on lv lc low free =
    ap (λ a. (not b || same v x) && a) (agrees_with bound values c o on (omega (arith, lv)) (omega (arith, lc)) (omega (arith, low)) free)
    ∙ and_moved (not b || same v x) (agrees bound values c) (same on (is_on c o))

-- an agreeing choice has the value that is bound
pub agrees_value : (bound values c : List Bool) (o : ℕ) → length values ≡ length bound → length c ≡ length bound → is_on bound o ≡ true → agrees bound values c ≡ true → is_on values o ≡ is_on c o
agrees_value [] values c o lv lc at h = absurd (true≢false (sym at))
agrees_value (b ∷ bound) [] c o lv lc at h = absurd (omega (arith, lv))
agrees_value (b ∷ bound) (v ∷ values) [] o lv lc at h = absurd (omega (arith, lc))
agrees_value (b ∷ bound) (v ∷ values) (x ∷ c) zero lv lc at h = by b at h
  where
    first : (y z : Bool) → (y && z) ≡ true → y ≡ true
    first true z h = refl
    first false z h = absurd (true≢false (sym h))

    by : (d : Bool) → d ≡ true → ((not d || same v x) && agrees bound values c) ≡ true → v ≡ x
    by true at h = same_true v x (first (same v x) (agrees bound values c) h)
    by false at h = absurd (true≢false (sym at))
agrees_value (b ∷ bound) (v ∷ values) (x ∷ c) (suc o) lv lc at h = agrees_value bound values c o (omega (arith, lv)) (omega (arith, lc)) at (second (not b || same v x) (agrees bound values c) h)
  where
    second : (y z : Bool) → (y && z) ≡ true → z ≡ true
    second true z h = h
    second false z h = absurd (true≢false (sym h))

-- a choice with the bound options as they are bound
abbrev pub merged : List Bool → List Bool → List Bool → List Bool
merged [] values c = c
merged (b ∷ bound) [] c = c
merged (b ∷ bound) (v ∷ values) [] = []
merged (b ∷ bound) (v ∷ values) (x ∷ c) = cond b v x ∷ merged bound values c

merged_agrees : (bound values c : List Bool) → agrees bound values (merged bound values c) ≡ true
merged_agrees [] values c = refl
merged_agrees (b ∷ bound) [] c = refl
merged_agrees (b ∷ bound) (v ∷ values) [] = refl
merged_agrees (b ∷ bound) (v ∷ values) (x ∷ c) = by b ∙ merged_agrees bound values c
  where
    by : (d : Bool) → ((not d || same v (cond d v x)) && agrees bound values (merged bound values c)) ≡ agrees bound values (merged bound values c)
    by true = ap (λ y. y && agrees bound values (merged bound values c)) (same_itself v)
    by false = refl

merged_others : (bound values c : List Bool) (o : ℕ) → is_on bound o ≡ false → is_on (merged bound values c) o ≡ is_on c o
merged_others [] values c o h = refl
merged_others (b ∷ bound) [] c o h = refl
merged_others (b ∷ bound) (v ∷ values) [] o h = refl
merged_others (b ∷ bound) (v ∷ values) (x ∷ c) zero h = ap (λ d. cond d v x) h
merged_others (b ∷ bound) (v ∷ values) (x ∷ c) (suc o) h = merged_others bound values c o h

merged_length : (bound values c : List Bool) → length (merged bound values c) ≡ length c
merged_length [] values c = refl
merged_length (b ∷ bound) [] c = refl
merged_length (b ∷ bound) (v ∷ values) [] = refl
merged_length (b ∷ bound) (v ∷ values) (x ∷ c) = ap suc (merged_length bound values c)

and_false : (x : Bool) → (x && false) ≡ false
and_false true = refl
and_false false = refl

and_true : (x : Bool) → (x && true) ≡ x
and_true true = refl
and_true false = refl

-- a node that is false on every choice of all options leaves none, and any other leaves one
module _ (ts : List Triple) (left : Left) (s : IsSound ts left) where
  abbrev passes : List Bool → Bool
  passes c = agrees left.bound left.values c && value_in ts left.node c

  any : list_any passes (all_choices (length left.bound)) ≡ has_any (choices_left ts left)
  any = any_filter passes (all_choices (length left.bound))

  all_fail : ((c : List Bool) → length c ≡ length left.bound → passes c ≡ false) → (c : List Bool) → length c ≡ length left.bound → value_in ts left.node c ≡ false
  all_fail h c long =
      let m : List Bool = merged left.bound left.values c in
      s.free c m (λ o un. sym (merged_others left.bound left.values c o un))
      ∙ ap (λ y. y && value_in ts left.node m) (sym (merged_agrees left.bound left.values c))
      ∙ h m (merged_length left.bound left.values c ∙ long)

  pub any_left : (b : Bool) → (b ≡ true) ↔ ((c : List Bool) → length c ≡ CHOICE_WIDTH → value_in ts left.node c ≡ false) → not b ≡ has_any (choices_left ts left)
  any_left true h =
      let none = none_short (length left.bound) (span ts left.node) (value_in ts left.node) s.few (value_in_same ts left.node) (h.0 refl) in
      sym (none_passes (length left.bound) passes (λ c long.
      ap (λ y. agrees left.bound left.values c && y) (fails_on_each (length left.bound) (value_in ts left.node) none c long) ∙ and_false (agrees left.bound left.values c))) ∙ any
  any_left false h = by (list_any passes (all_choices (length left.bound))) refl
    where
      by : (x : Bool) → list_any passes (all_choices (length left.bound)) ≡ x → true ≡ has_any (choices_left ts left)
      by true e = sym e ∙ any
      by false e = absurd (true≢false (sym (h.1 (none_wide (length left.bound) (span ts left.node) (value_in ts left.node) s.few (value_in_same ts left.node) s.options
          (none_passes (length left.bound) (value_in ts left.node) (all_fail (fails_on_each (length left.bound) passes e)))))))

  -- the literal of an option that is bound is the same on all that are left
  module _ (o : ℕ) (on : Bool) (at : is_on left.bound o ≡ true) where
    known : (c : List Bool) → length c ≡ length left.bound → agrees left.bound left.values c ≡ true → value (literal o on) c ≡ same on (is_on left.values o)
    known c long h = sym (same_literal on o c) ∙ ap (same on) (sym (agrees_value left.bound left.values c o s.values long at h))

    constant : (k : Bool) → same on (is_on left.values o) ≡ k → (c : List Bool) → length c ≡ length left.bound → (passes c && value (literal o on) c) ≡ (passes c && k)
    constant k e c long = each (agrees left.bound left.values c) refl
      where
        each : (a : Bool) → agrees left.bound left.values c ≡ a → ((a && value_in ts left.node c) && value (literal o on) c) ≡ ((a && value_in ts left.node c) && k)
        each true h = ap (λ y. value_in ts left.node c && y) (known c long h ∙ e)
        each false h = refl

    filtered : (k : Bool) → same on (is_on left.values o) ≡ k → filter (value (literal o on)) (choices_left ts left) ≡ filter (λ c. passes c && k) (all_choices (length left.bound))
    filtered k e = filter_filter passes (value (literal o on)) (all_choices (length left.bound))
        ∙ filter_same (λ c. length c ≡ length left.bound) (λ c. passes c && value (literal o on) c) (λ c. passes c && k) (all_choices (length left.bound)) (all_whole (length left.bound)) (constant k e)

    -- one that is bound otherwise keeps none
    pub bound_none : same on (is_on left.values o) ≡ false → filter (value (literal o on)) (choices_left ts left) ≡ []
    bound_none e = filtered false e ∙ (λ j. filter (λ c. and_false (passes c) j) (all_choices (length left.bound))) ∙ filter_none (all_choices (length left.bound))

    -- one that is bound so keeps all
    bound_all : same on (is_on left.values o) ≡ true → filter (value (literal o on)) (choices_left ts left) ≡ choices_left ts left
    bound_all e = filtered true e ∙ (λ j. filter (λ c. and_true (passes c) j) (all_choices (length left.bound)))

    -- a default of an option that is bound changes nothing
    pub bound_default : choices_left ts left ≡ keep (choices_left ts left) (literal o on)
    bound_default = by (same on (is_on left.values o)) refl
      where
        twice : (cs : List (List Bool)) → cs ≡ or_else cs cs
        twice [] = refl
        twice (c ∷ cs) = refl

        by : (k : Bool) → same on (is_on left.values o) ≡ k → choices_left ts left ≡ or_else (filter (value (literal o on)) (choices_left ts left)) (choices_left ts left)
        by true e = twice (choices_left ts left) ∙ ap (λ ds. or_else ds (choices_left ts left)) (sym (bound_all e))
        by false e = ap (λ ds. or_else ds (choices_left ts left)) (sym (bound_none e))

  -- what is left where an option is bound
  module _ (us : List Triple) (o : ℕ) (on : Bool) (r : ℕ) (low : o < length left.bound) (un : is_on left.bound o ≡ false) (is : Stands us r (top ts left.node) (span ts left.node) (cofactor ts left.node o on)) where
    abbrev bound' : List Bool
    bound' = with_option left.bound o true

    abbrev values' : List Bool
    values' = with_option left.values o on

    -- setting an option as it is changes nothing
    set_same : (c : List Bool) → value (literal o on) c ≡ true → value_in ts left.node (set_option c o on) ≡ value_in ts left.node c
    set_same c h = value_in_same ts left.node (set_option c o on) c (λ p _. each p (p == o) refl)
      where
        each : (p : ℕ) (b : Bool) → (p == o) ≡ b → is_on (set_option c o on) p ≡ is_on c p
        each p true e =
            let at : p ≡ o = eqb-true p o e in
            ap (is_on (set_option c o on)) at ∙ is_on-set c o on ∙ same_true on (is_on c o) (same_literal on o c ∙ h) ∙ ap (is_on c) (sym at)
        each p false e = is_on-set_other c o p on (eqb-false p o e)

    narrowed : (c : List Bool) → length c ≡ length left.bound → (agrees bound' values' c && value_in us r c) ≡ (passes c && value (literal o on) c)
    narrowed c long =
        ap (λ a. a && value_in us r c) (agrees_with left.bound left.values c o on s.values long low un ∙ ap (λ v. agrees left.bound left.values c && v) (same_literal on o c))
        ∙ ap (λ v. (agrees left.bound left.values c && value (literal o on) c) && v) (is.value c)
        ∙ each (value (literal o on) c) refl (agrees left.bound left.values c)
      where
        each : (v : Bool) → value (literal o on) c ≡ v → (a : Bool) → ((a && v) && value_in ts left.node (set_option c o on)) ≡ ((a && value_in ts left.node c) && v)
        each true h true = set_same c h ∙ sym (and_one (value_in ts left.node c))
          where
            and_one : (x : Bool) → (x && true) ≡ x
            and_one true = refl
            and_one false = refl
        each false h true = sym (and_false (value_in ts left.node c))
        each v h false = refl

    free : IsFree us r bound'
    free c d h = is.value c ∙ s.free (set_option c o on) (set_option d o on) (λ p unbound. each p unbound (p == o) refl) ∙ sym (is.value d)
      where
        each : (p : ℕ) → is_on left.bound p ≡ false → (b : Bool) → (p == o) ≡ b → is_on (set_option c o on) p ≡ is_on (set_option d o on) p
        each p unbound true e =
            let at : p ≡ o = eqb-true p o e in
            ap (is_on (set_option c o on)) at ∙ is_on-set c o on ∙ sym (ap (is_on (set_option d o on)) at ∙ is_on-set d o on)
        each p unbound false e =
            let other : p ≢ o = eqb-false p o e in
            is_on-set_other c o p on other ∙ h p (is_on-other left.bound o p true other ∙ unbound) ∙ sym (is_on-set_other d o p on other)

    abbrev one_more : Left
    one_more = record { node = r; bound = bound'; values = values' }

    pub bound_left : IsLeft us (length left.bound) (filter (value (literal o on)) (choices_left ts left)) one_more
    bound_left =
        let long : length bound' ≡ length left.bound = length-with_option left.bound o true in
        record {
          sound = record {
            few = omega (arith, s.few, long);
            values = length-with_option left.values o on ∙ s.values ∙ sym long;
            within = is.within;
            options = omega (arith, is.below, s.options, long);
            free = free;
          };
          count = long;
          choices = ap (λ n. filter (λ c. agrees bound' values' c && value_in us r c) (all_choices n)) long
              ∙ filter_same (λ c. length c ≡ length left.bound) (λ c. agrees bound' values' c && value_in us r c) (λ c. passes c && value (literal o on) c) (all_choices (length left.bound)) (all_whole (length left.bound)) narrowed
              ∙ sym (filter_filter passes (value (literal o on)) (all_choices (length left.bound)));
        }

  -- the table has grown
  pub sound_later : (us : List Triple) → Extends ts us → IsSound us left
  sound_later us x = record {
    few = s.few;
    values = s.values;
    within = omega (arith, s.within, x.count);
    options = omega (arith, s.options, x.most left.node s.within);
    free = λ c d h. x.value left.node s.within c ∙ s.free c d h ∙ sym (x.value left.node s.within d);
  }

  pub left_later : (us : List Triple) → Extends ts us → choices_left us left ≡ choices_left ts left
  left_later us x = λ j. filter (λ c. agrees left.bound left.values c && x.value left.node s.within c j) (all_choices (length left.bound))

-- a default that is kept, and one that is refused
pub refused_default : (cs : List (List Bool)) (o : ℕ) (on : Bool) → has_any (filter (value (literal o on)) cs) ≡ false → filter (value (literal o (not on))) cs ≡ keep cs (literal o on)
refused_default cs o on h = other_passes (value (literal o on)) (value (literal o (not on))) (literal_other on o) cs h ∙ or_else_none (filter (value (literal o on)) cs) cs h
