-- Options that are closed one after another, until one choice is left.
use Rattle.std.proofs.Common.{◌≡◌, ℕ, zero, suc, ◌+◌, ◌-◌, ◌<◌, ◌≤◌, Bool, true, false, cond, ◌&&◌, not, List, [], ◌∷◌, map, length, replicate, Some, true≢false, refl, sym, ap, subst, ◌∙◌, arith, ◌==◌, take, get_or}
use Rattle.std.specs.List.{filter, find, range_with_len, AllByRecursion}
use Rattle.std.proofs.lemmas.Bool.{eqb-true, eqb-false}
use Rattle.std.proofs.lemmas.List.{length-replicate}
use Rattle.cov_base.specs.Choices.{all_choices, bits_of, is_on, with_option}
use Rattle.cov_base.specs.declared.limits.TheConstants.{CHOICE_WIDTH}
use Rattle.cov_base.proofs.CallerLemmas.{is_on-same, is_on-other}
use Rattle.cov_dd.specs.declared.triple.Triple.{Triple}
use Rattle.cov_dd.specs.Diagrams.{value_in, Extends}
use Rattle.cov_dd.proofs.CallerLemmas.{Order, below, level, above, ordered, some_nodes, span-constant, value-constant}
use Rattle.cov_expr.specs.Formula.{Formula, value}
use Rattle.cov_rules.specs.declared.lefts.Left.{Left}
use Rattle.cov_rules.specs.declared.rules.Fallback.{Fallback}
use Rattle.cov_rules.specs.Completion.{fallbacks, keep, keep_all, has_any, first_open, is_open}
use Rattle.cov_rules.specs.Installing.{literal, reach_of}
use Rattle.cov_rules.specs.Lefts.{same, agrees, choices_left, IsClosed, IsSound, IsLeft, Keeps}
use Rattle.cov_rules.proofs.Alone.{at_most_one}
use Rattle.cov_rules.proofs.Answering.{all_whole}
use Rattle.cov_rules.proofs.Narrowing.{any_filter, stated_more, keep_all-more}
use Rattle.cov_rules.proofs.Growing.{reach-literal}
use Rattle.cov_rules.proofs.Leaving.{other_passes, literal_other, same_true, any_left, bound_none, left_later, sound_later}

pub none_bound : (n o : ℕ) → is_on (bits_of n 0) o ≡ false
none_bound zero o = refl
none_bound (suc n) zero = refl
none_bound (suc n) (suc o) = none_bound n o

agrees_none : (n : ℕ) (values c : List Bool) → agrees (bits_of n 0) values c ≡ true
agrees_none zero values c = refl
agrees_none (suc n) [] c = refl
agrees_none (suc n) (v ∷ values) [] = refl
agrees_none (suc n) (v ∷ values) (x ∷ c) = agrees_none n values c

length_none : (n : ℕ) → length (bits_of n 0) ≡ n
length_none zero = refl
length_none (suc n) = ap suc (length_none n)

pub filter_all : {X : Type 0} (xs : List X) → filter (λ _. true) xs ≡ xs
filter_all [] = refl
filter_all (x ∷ xs) = ap (λ ys. x ∷ ys) (filter_all xs)

-- all choices, with no option bound
pub all_left : (ts : List Triple) (count : ℕ) → count ≤ CHOICE_WIDTH → IsLeft ts count (all_choices count) (record { node = 1; bound = bits_of count 0; values = bits_of count 0 })
all_left ts count few = record {
  sound = record {
    few = omega (arith, few, length_none count);
    values = refl;
    within = some_nodes ts;
    options = omega (arith, span-constant ts 1 (omega arith));
    free = λ c d h. value-constant ts 1 c (omega arith) ∙ sym (value-constant ts 1 d (omega arith));
  };
  count = length_none count;
  choices = ap (λ n. filter (λ c. agrees (bits_of count 0) (bits_of count 0) c && value_in ts 1 c) (all_choices n)) (length_none count)
      ∙ (λ j. filter (λ c. agrees_none count (bits_of count 0) c j && value-constant ts 1 c (omega arith) j) (all_choices count)) ∙ filter_all (all_choices count);
}

open_by : (cs : List (List Bool)) (o : ℕ) → is_open cs o ≡ (has_any (filter (value (literal o true)) cs) && has_any (filter (value (literal o false)) cs))
open_by cs o = λ j. any_filter (value (literal o true)) cs j && any_filter (value (literal o false)) cs j

and_off : (x : Bool) → (x && false) ≡ false
and_off true = refl
and_off false = refl

-- an option that is bound has one value
pub bound_shut : (ts : List Triple) (left : Left) → IsSound ts left → (o : ℕ) → is_on left.bound o ≡ true → is_open (choices_left ts left) o ≡ false
bound_shut ts left s o at = open_by (choices_left ts left) o ∙ by (is_on left.values o) refl
  where
    by : (v : Bool) → is_on left.values o ≡ v → (has_any (filter (value (literal o true)) (choices_left ts left)) && has_any (filter (value (literal o false)) (choices_left ts left))) ≡ false
    by true e = ap (λ cs. has_any (filter (value (literal o true)) (choices_left ts left)) && has_any cs) (bound_none ts left s o false at (ap not e)) ∙ and_off (has_any (filter (value (literal o true)) (choices_left ts left)))
    by false e = ap (λ cs. has_any cs && has_any (filter (value (literal o false)) (choices_left ts left))) (bound_none ts left s o true at e)

-- an option was bound in both ways, one after the other
module _ (ts us vs : List Triple) (left : Left) (s : IsSound ts left) (x : Extends ts us) (y : Extends us vs) (o : ℕ) (low : o < length left.bound) (on off : Left)
    (on_bound : on.bound ≡ with_option left.bound o true) (off_bound : off.bound ≡ with_option left.bound o true)
    (k : IsLeft us (length left.bound) (filter (value (literal o true)) (choices_left ts left)) on)
    (l : IsLeft vs (length left.bound) (filter (value (literal o false)) (choices_left us left)) off)
    (a : Bool) (some_on : a ≡ has_any (choices_left vs on)) where
  any_on : has_any (filter (value (literal o true)) (choices_left ts left)) ≡ a
  any_on = sym (ap has_any (left_later us on k.sound vs y ∙ k.choices)) ∙ sym some_on

  off_same : choices_left vs off ≡ filter (value (literal o false)) (choices_left ts left)
  off_same = l.choices ∙ ap (filter (value (literal o false))) (left_later ts left s us x)

  still : (next : Left) → next.bound ≡ with_option left.bound o true → (p : ℕ) → is_on left.bound p ≡ true → is_on next.bound p ≡ true
  still next is p h = ap (λ b. is_on b p) is ∙ each (p == o) refl
    where
      each : (b : Bool) → (p == o) ≡ b → is_on (with_option left.bound o true) p ≡ true
      each true e = ap (is_on (with_option left.bound o true)) (eqb-true p o e) ∙ is_on-same left.bound o true low
      each false e = is_on-other left.bound o p true (eqb-false p o e) ∙ h

  pub off_closed : a ≡ false → IsClosed ts vs left o off
  off_closed none = record {
    same = record {
      sound = l.sound;
      count = l.count;
      choices = off_same ∙ other_passes (value (literal o true)) (value (literal o false)) (literal_other true o) (choices_left ts left) (any_on ∙ none);
    };
    bound = ap (λ b. is_on b o) off_bound ∙ is_on-same left.bound o true low;
    others = still off off_bound;
    shut = open_by (choices_left ts left) o ∙ ap (λ b. b && has_any (filter (value (literal o false)) (choices_left ts left))) (any_on ∙ none);
  }

  module _ (b : Bool) (some_off : b ≡ has_any (choices_left vs off)) where
    any_off : has_any (filter (value (literal o false)) (choices_left ts left)) ≡ b
    any_off = sym (ap has_any off_same) ∙ sym some_off

    pub both_open : a ≡ true → b ≡ true → is_open (choices_left ts left) o ≡ true
    both_open h i = open_by (choices_left ts left) o ∙ (λ j. (any_on ∙ h) j && (any_off ∙ i) j)

    pub on_closed : b ≡ false → IsClosed ts vs left o on
    on_closed none = record {
      same = record {
        sound = sound_later us on k.sound vs y;
        count = k.count;
        choices = left_later us on k.sound vs y ∙ k.choices ∙ other_passes (value (literal o false)) (value (literal o true)) (literal_other false o) (choices_left ts left) (any_off ∙ none);
      };
      bound = ap (λ b. is_on b o) on_bound ∙ is_on-same left.bound o true low;
      others = still on on_bound;
      shut = open_by (choices_left ts left) o ∙ ap (λ b. has_any (filter (value (literal o true)) (choices_left ts left)) && b) (any_off ∙ none) ∙ and_off (has_any (filter (value (literal o true)) (choices_left ts left)));
    }

-- a choice that agrees where all options are bound is the one that is bound
agrees_whole : (bound values c : List Bool) → length values ≡ length bound → length c ≡ length bound → ((o : ℕ) → o < length bound → is_on bound o ≡ true) → agrees bound values c ≡ true → c ≡ values
agrees_whole [] [] [] lv lc all h = refl
agrees_whole [] (v ∷ values) c lv lc all h = absurd (omega (arith, lv))
agrees_whole [] [] (x ∷ c) lv lc all h = absurd (omega (arith, lc))
agrees_whole (b ∷ bound) [] c lv lc all h = absurd (omega (arith, lv))
agrees_whole (b ∷ bound) (v ∷ values) [] lv lc all h = absurd (omega (arith, lc))
agrees_whole (false ∷ bound) (v ∷ values) (x ∷ c) lv lc all h = absurd (true≢false (sym (all 0 (omega arith))))
agrees_whole (true ∷ bound) (v ∷ values) (x ∷ c) lv lc all h =
    by (same v x) refl h (agrees_whole bound values c (omega (arith, lv)) (omega (arith, lc)) (λ o lt. all (suc o) (omega (arith, lt))))
  where
    by : (b : Bool) → same v x ≡ b → (b && agrees bound values c) ≡ true → (agrees bound values c ≡ true → c ≡ values) → x ∷ c ≡ v ∷ values
    by true e h rest = λ j. sym (same_true v x e) j ∷ rest h j
    by false e h rest = absurd (true≢false (sym h))

head_passes : {X : Type 0} (P : X → Type 0) (p : X → Bool) (xs : List X) (y : X) (ys : List X) → AllByRecursion P xs → filter p xs ≡ y ∷ ys → P y × (p y ≡ true)
head_passes P p [] y ys all h = absurd (cc)
head_passes P p (x ∷ xs) y ys all h = by (p x) refl h (head_passes P p xs y ys all.1)
  where
    by : (b : Bool) → p x ≡ b → cond b (x ∷ filter p xs) (filter p xs) ≡ y ∷ ys → (filter p xs ≡ y ∷ ys → P y × (p y ≡ true)) → P y × (p y ≡ true)
    by true e h rest = let is : x ≡ y = cc in (subst P is all.0, ap p (sym is) ∙ e)
    by false e h rest = rest h

-- where all options are bound, what is bound is the only choice
module _ (ts : List Triple) (left : Left) (s : IsSound ts left) (all : (o : ℕ) → o < length left.bound → is_on left.bound o ≡ true) where
  pub one_left : has_any (choices_left ts left) ≡ true → choices_left ts left ≡ left.values ∷ []
  one_left some = by (choices_left ts left) refl some
    where
      first : (x y : Bool) → (x && y) ≡ true → x ≡ true
      first true y h = refl
      first false y h = absurd (true≢false (sym h))

      itself : (c : List Bool) (cs : List (List Bool)) → choices_left ts left ≡ c ∷ cs → c ≡ left.values
      itself c cs is =
          let head = head_passes (λ d. length d ≡ length left.bound) (λ d. agrees left.bound left.values d && value_in ts left.node d) (all_choices (length left.bound)) c cs (all_whole (length left.bound)) is in
          agrees_whole left.bound left.values c s.values head.0 all (first (agrees left.bound left.values c) (value_in ts left.node c) head.1)

      few : length (choices_left ts left) ≤ 1
      few = at_most_one (length left.bound) (λ d. agrees left.bound left.values d && value_in ts left.node d) (λ o lt. bound_shut ts left s o (all o lt))

      by : (cs : List (List Bool)) → choices_left ts left ≡ cs → has_any cs ≡ true → cs ≡ left.values ∷ []
      by [] is h = absurd (true≢false (sym h))
      by (c ∷ []) is h = ap (λ d. d ∷ []) (itself c [] is)
      by (c ∷ d ∷ cs) is h = absurd (omega (arith, few, ap length is))

  -- where the node is TRUE, there is one
  pub only_left : left.node ≡ 1 → choices_left ts left ≡ left.values ∷ []
  only_left at = one_left (sym (any_left ts left s false (λ e. absurd (true≢false (sym e)), λ h. absurd (true≢false (sym (passes (replicate CHOICE_WIDTH false)) ∙ h (replicate CHOICE_WIDTH false) (length-replicate CHOICE_WIDTH false))))))
    where
      passes : (c : List Bool) → value_in ts left.node c ≡ true
      passes c = ap (λ a. value_in ts a c) at ∙ value-constant ts 1 c (omega arith)

-- the first of the options that passes a test comes behind one that doesn't
find_later : (p : ℕ → Bool) (m n : ℕ) → m < n → p m ≡ false → find p (range_with_len m (n - m)) ≡ find p (range_with_len (m + 1) (n - (m + 1)))
find_later p m n lt fails =
    let k : n - m ≡ suc (n - (m + 1)) = omega (arith, lt) in
    ap (λ l. find p (range_with_len m l)) k ∙ ap (λ b. cond b (Some m) (find p (range_with_len (m + 1) (n - (m + 1))))) fails

-- one option more is closed
module _ (us vs : List Triple) (left next : Left) (o number n : ℕ) (cs : List (List Bool)) (is : IsLeft us n cs left) (at : o ≡ number) (closed : IsClosed us vs left o next) where
  pub left_more : IsLeft vs n cs next
  left_more = record {
    sound = closed.same.sound;
    count = closed.same.count ∙ is.count;
    choices = closed.same.choices ∙ is.choices;
  }

  pub bound_more : ((p : ℕ) → p < number → is_on left.bound p ≡ true) → (p : ℕ) → p < number + 1 → is_on next.bound p ≡ true
  bound_more before p lt = by (ordered p number)
    where
      by : Order p number → is_on next.bound p ≡ true
      by (below h) = closed.others p (before p h)
      by (level h) = ap (is_on next.bound) (h ∙ sym at) ∙ closed.bound
      by (above h) = absurd (omega (arith, h, lt))

  pub ahead_more : number < n → first_open n cs ≡ find (is_open cs) (range_with_len number (n - number)) → first_open n cs ≡ find (is_open cs) (range_with_len (number + 1) (n - (number + 1)))
  ahead_more lt before = before ∙ find_later (is_open cs) number n lt (ap (is_open cs) (sym at) ∙ ap (λ ds. is_open ds o) (sym is.choices) ∙ closed.shut)

-- a default's option is among those that the defaults have
pub fallback_at : (ds : List Fallback) (i : ℕ) (d : Fallback) → i < length ds → (get_or ds i d).option + 1 ≤ reach_of (fallbacks ds)
fallback_at [] i d h = absurd (omega (arith, h))
fallback_at (d ∷ ds) zero e h = omega (arith, reach-literal d.option d.on)
fallback_at (d ∷ ds) (suc i) e h = omega (arith, fallback_at ds i e (omega (arith, h)))

-- one wish more
pub wish_more : {X : Type 0} (f : X → Formula ℕ) (xs : List X) (i : ℕ) (x : X) → i < length xs → x ≡ get_or xs i x
    → (ts us vs : List Triple) (start left next : Left) → Keeps ts us start (map f (take i xs)) left → Keeps us vs left (f x ∷ []) next → Keeps ts vs start (map f (take (i + 1) xs)) next
wish_more f xs i x lt at ts us vs start left next before step = record {
  sound = step.sound;
  count = step.count ∙ before.count;
  choices = step.choices ∙ ap (λ es. keep es (f x)) before.choices
      ∙ sym (ap (keep_all (choices_left ts start)) (stated_more f xs i x lt at) ∙ keep_all-more (choices_left ts start) (map f (take i xs)) (f x));
}
