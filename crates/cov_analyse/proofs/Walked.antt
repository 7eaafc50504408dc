-- The choice found by the way down is the first of the nearest.
use Rattle.std.proofs.Common.{◌≡◌, ◌≢◌, ℕ, zero, suc, ◌+◌, ◌-◌, ◌<◌, ◌≤◌, min, Bool, true, false, cond, not, ◌||◌, List, drop, length, Option, Some, None, true≢false, refl, sym, ap, subst, ◌∙◌, arith}
use Rattle.std.specs.Prelude.{slice_get, nat_eq, nat_le, nat_lt}
use Rattle.std.specs.List.{list_all}
use Rattle.std.proofs.lemmas.Option.{slice_get_within}
use Rattle.std.proofs.lemmas.Bool.{and_parts, and_from, eqb-true, eqb-false, ltb-true, ltb-false, leb-true, le-leb}
use Rattle.cov_base.specs.Choices.{all_choices, is_on, with_option}
use Rattle.cov_base.specs.declared.limits.TheConstants.{CHOICE_WIDTH}
use Rattle.cov_base.proofs.CallerLemmas.{is_on-other, is_on-same, length-with_option}
use Rattle.cov_vis.specs.declared.listing.Child.{Child}
use Rattle.cov_vis.specs.declared.listing.Child.TheVariants.{F, T, At}
use Rattle.cov_vis.specs.declared.listing.ListingEntry.{ListingEntry}
use Rattle.cov_vis.specs.Listings.{ListingValue, reads, reads_from, followed, has_options_below, is_below, is_in_range, is_ordered, is_reduced}
use Rattle.cov_analyse.specs.declared.bounding.TheConstants.{BEYOND}
use Rattle.cov_analyse.specs.Bounding.{are_bounds, bound_of, differing, distance, number_in, off_number, on_number}
use Rattle.cov_analyse.specs.LeastNumbers.{AreLeast, HasSteps}
use Rattle.cov_analyse.specs.Nearest.{first_nearest, is_nearest}
use Rattle.cov_analyse.specs.Walking.{side_of, turns_on, walked, walked_entry, IsMet}
use Rattle.cov_analyse.proofs.Distances.{agree_at, distance_at, distance_later, distance_most, distance_self, distance_skip, drop_behind}
use Rattle.cov_analyse.proofs.Finding.{Precedes, alike, earlier, all_pass, each_passes, first_found}
use Rattle.cov_analyse.proofs.LeastNumbers.{are_lower, some_at, steps_below}
use Rattle.cov_analyse.proofs.Lower.{Starts, all_at, lower, starts_off, starts_on}

some_is : {X : Type 0} (x y : X) → Some x ≡ Some y → x ≡ y
some_is x y h = cc

-- what is read depends on no option before the first that is read
reads_same : (es : List ListingEntry) (ordered : list_all (is_ordered es) es ≡ true) (t : ℕ) (x : Child) (p : ℕ) (d w : List Bool) → Starts es p x → ((q : ℕ) → p ≤ q → is_on d q ≡ is_on w q)
    → reads_from es t x d ≡ reads_from es t x w
reads_same es ordered t F p d w low agree = refl
reads_same es ordered t T p d w low agree = refl
reads_same es ordered zero (At i) p d w low agree = refl
reads_same es ordered (suc t) (At i) p d w low agree = by (slice_get es i) refl (reads_same es ordered t)
  where
    by : (r : Option ListingEntry) → slice_get es i ≡ r
        → ((x : Child) (p : ℕ) (d w : List Bool) → Starts es p x → ((q : ℕ) → p ≤ q → is_on d q ≡ is_on w q) → reads_from es t x d ≡ reads_from es t x w)
        → followed d (λ x. reads_from es t x d) r ≡ followed w (λ x. reads_from es t x w) r
    by None at rec = refl
    by (Some e) at rec =
        let far : (q : ℕ) → suc e.option ≤ q → is_on d q ≡ is_on w q = λ q less. agree q (omega (arith, less, low e at)) in
        λ j. cond (agree e.option (low e at) j) (rec e.on (suc e.option) d w (starts_on es ordered i e at) far j) (rec e.off (suc e.option) d w (starts_off es ordered i e at) far j)

module _ (es : List ListingEntry) (ns : List ℕ) (c : List Bool) (ordered : list_all (is_ordered es) es ≡ true) (few : list_all (λ e. nat_lt e.option (length c)) es ≡ true)
    (width : length c ≤ CHOICE_WIDTH) (least : AreLeast es c ns) where
  abbrev way : ℕ → Child → List Bool
  way s x = walked es ns c s x

  pub length_walked : (s : ℕ) (x : Child) → length (way s x) ≡ length c
  length_walked s F = refl
  length_walked s T = refl
  length_walked zero (At i) = refl
  length_walked (suc s) (At i) = by (slice_get es i) (length_walked s)
    where
      by : (r : Option ListingEntry) → ((x : Child) → length (way s x) ≡ length c) → length (walked_entry (way s) ns c r) ≡ length c
      by None rec = refl
      by (Some e) rec = let on = turns_on ns c e in length-with_option (way s (side_of e on)) e.option on ∙ rec (side_of e on)

  starts_side : (i : ℕ) (e : ListingEntry) → slice_get es i ≡ Some e → (on : Bool) → Starts es (suc e.option) (side_of e on)
  starts_side i e at true = starts_on es ordered i e at
  starts_side i e at false = starts_off es ordered i e at

  -- an option before those of a child keeps its value
  kept : (s : ℕ) (x : Child) (p : ℕ) → Starts es p x → (q : ℕ) → q < p → is_on (way s x) q ≡ is_on c q
  kept s F p low q less = refl
  kept s T p low q less = refl
  kept zero (At i) p low q less = refl
  kept (suc s) (At i) p low q less = by (slice_get es i) refl (kept s)
    where
      by : (r : Option ListingEntry) → slice_get es i ≡ r → ((x : Child) (p : ℕ) → Starts es p x → (q : ℕ) → q < p → is_on (way s x) q ≡ is_on c q) → is_on (walked_entry (way s) ns c r) q ≡ is_on c q
      by None at rec = refl
      by (Some e) at rec =
          let on = turns_on ns c e in
          let before : p ≤ e.option = low e at in
          is_on-other (way s (side_of e on)) e.option q on (λ bad. let self : q < q = omega (arith, less, before, bad) in omega (arith, self))
          ∙ rec (side_of e on) (suc e.option) (starts_side i e at on) q (omega (arith, less, before))

  bounds : are_bounds ns c es ns ≡ true
  bounds = are_lower es c ns least

  -- the number of an entry is that of the side on the way
  abbrev turned : ListingEntry → Bool → ℕ
  turned e on = bound_of ns (side_of e on) + differing (is_on c e.option) on

  turned_least : (e : ListingEntry) (on : Bool) → turns_on ns c e ≡ on → min (off_number ns c e) (on_number ns c e) ≡ turned e on
  turned_least e true h = omega (arith, ltb-true (on_number ns c e) (off_number ns c e) h)
  turned_least e false h = omega (arith, ltb-false (on_number ns c e) (off_number ns c e) h)

  -- the choice reads true from a child on, is as far as its number says from an option on, and comes before each other such choice
  record IsBest (t p : ℕ) (x : Child) (d : List Bool) : Type 0 where
    pub reads : reads_from es t x d ≡ true
    pub far : distance (drop p c) (drop p d) ≡ bound_of ns x
    pub first : (e : List Bool) → reads_from es t x e ≡ true → distance (drop p c) (drop p e) ≡ bound_of ns x → Precedes p d e

  best_true : (t p : ℕ) → IsBest t p T c
  best_true t p = record {
    reads = refl;
    far = distance_self c p;
    first = λ e reads near. alike (λ q low. agree_at c e p q low (omega (arith, near)));
  }

  -- one entry more on the way
  module _ (t i p : ℕ) (e : ListingEntry) (at : slice_get es i ≡ Some e) (low : p ≤ e.option) (on : Bool) (turns : turns_on ns c e ≡ on)
      (n : ℕ) (number : number_in (slice_get ns i) ≡ n) (is : n ≡ turned e on)
      (w : List Bool) (long : length w ≡ length c) (same : (q : ℕ) → q < suc e.option → is_on w q ≡ is_on c q) (rest : IsBest t (suc e.option) (side_of e on) w) where
    abbrev o : ℕ
    o = e.option

    abbrev d : List Bool
    d = with_option w o on

    within : o < length w
    within = omega (arith, long, ltb-true e.option (length c) (all_at (λ e. nat_lt e.option (length c)) es i e few at))

    here : is_on d o ≡ on
    here = is_on-same w o on within

    other : (q : ℕ) → q ≢ o → is_on d q ≡ is_on w q
    other q ne = is_on-other w o q on ne

    before : (q : ℕ) → q < o → is_on d q ≡ is_on c q
    before q less = other q (λ bad. let self : q < q = omega (arith, less, bad) in omega (arith, self)) ∙ same q (omega (arith, less))

    behind : (q : ℕ) → suc o ≤ q → is_on d q ≡ is_on w q
    behind q less = other q (λ bad. let self : q < q = omega (arith, less, bad) in omega (arith, self))

    side_read : (e' : List Bool) (b : Bool) → is_on e' o ≡ b → followed e' (λ x. reads_from es t x e') (Some e) ≡ reads_from es t (side_of e b) e'
    side_read e' true h = ap (λ b. cond b (reads_from es t e.on e') (reads_from es t e.off e')) h
    side_read e' false h = ap (λ b. cond b (reads_from es t e.on e') (reads_from es t e.off e')) h

    entry_read : (e' : List Bool) → reads_from es (suc t) (At i) e' ≡ followed e' (λ x. reads_from es t x e') (Some e)
    entry_read e' = ap (followed e' (λ x. reads_from es t x e')) at

    true_here : reads_from es (suc t) (At i) d ≡ true
    true_here = entry_read d ∙ side_read d on here ∙ reads_same es ordered t (side_of e on) (suc o) d w (starts_side i e at on) behind ∙ rest.reads

    far_here : distance (drop p c) (drop p d) ≡ n
    far_here =
        let skipped = distance_skip c d (o - p) p o (omega (arith, low)) (λ r least less. sym (before r less)) in
        let apart = ap (λ b. differing (is_on c o) b) here in
        let later = ap (λ d. distance (drop (suc o) c) d) (drop_behind w o on) in
        omega (arith, skipped, distance_at c d o, apart, later, rest.far, is)

    module _ (e' : List Bool) (reads' : reads_from es (suc t) (At i) e' ≡ true) (near : distance (drop p c) (drop p e') ≡ n) where
      at_least : n ≤ distance (drop o c) (drop o e')
      at_least = omega (arith, number, lower es ns c e' ordered bounds (suc t) (At i) o (λ f at'. let one : f ≡ e = some_is f e (sym at' ∙ at) in let eq : f.option ≡ e.option = ap (λ g. g.option) one in omega (arith, eq)) reads')

      at_most : distance (drop o c) (drop o e') ≤ n
      at_most = omega (arith, near, distance_later c e' (o - p) p o (omega (arith, low)))

      agrees : (q : ℕ) → p ≤ q → q < o → is_on d q ≡ is_on e' q
      agrees q above less = before q less ∙ agree_at c e' p q above (omega (arith, near, at_least, distance_later c e' (o - suc q) (suc q) o (omega (arith, less))))

      joined : is_on e' o ≡ on → (q : ℕ) → p ≤ q → (suc o ≤ q → is_on w q ≡ is_on e' q) → is_on d q ≡ is_on e' q
      joined h q above rest = by (nat_eq q o) refl (nat_lt q o) refl
        where
          by : (x : Bool) → nat_eq q o ≡ x → (y : Bool) → nat_lt q o ≡ y → is_on d q ≡ is_on e' q
          by true eq y lt = ap (is_on d) (eqb-true q o eq) ∙ here ∙ sym h ∙ ap (is_on e') (sym (eqb-true q o eq))
          by false eq true lt = agrees q above (ltb-true q o lt)
          by false eq false lt =
              let ne = eqb-false q o eq in
              let past : suc o ≤ q = omega (arith, ltb-false q o lt, ne) in
              behind q past ∙ rest past

      lifted : is_on e' o ≡ on → Precedes (suc o) w e' → Precedes p d e'
      lifted h (alike f) = alike (λ q above. joined h q above (f q))
      lifted h (earlier q above f off on') = earlier q (omega (arith, above, low)) (λ r least less. joined h r least (λ past. f r past less)) (behind q above ∙ off) on'

      read_side : (b : Bool) → is_on e' o ≡ b → reads_from es t (side_of e b) e' ≡ true
      read_side b h = sym (entry_read e' ∙ side_read e' b h) ∙ reads'

      rest_is : (b : Bool) → is_on e' o ≡ b → distance (drop o c) (drop o e') ≡ differing (is_on c o) b + distance (drop (suc o) c) (drop (suc o) e')
      rest_is b h = subst (λ x. distance (drop o c) (drop o e') ≡ differing (is_on c o) x + distance (drop (suc o) c) (drop (suc o) e')) h (distance_at c e' o)

      on_the_way : is_on e' o ≡ on → Precedes p d e'
      on_the_way h = lifted h (rest.first e' (read_side on h) (omega (arith, rest_is on h, at_least, at_most, is)))

      -- the other side is farther, or has the option on where the way has it off
      beside : (x y : Bool) → on ≡ x → is_on e' o ≡ y → Precedes p d e'
      beside true true g h = on_the_way (h ∙ sym g)
      beside false false g h = on_the_way (h ∙ sym g)
      beside false true g h = earlier o low agrees (here ∙ g) h
      beside true false g h =
          let farther = ltb-true (on_number ns c e) (off_number ns c e) (turns ∙ g) in
          let number' : n ≡ turned e true = subst (λ x. n ≡ turned e x) g is in
          let off = lower es ns c e' ordered bounds t e.off (suc o) (starts_off es ordered i e at) (read_side false h) in
          absurd (omega (arith, farther, number', off, rest_is false h, at_most))

      first_here : Precedes p d e'
      first_here = beside on (is_on e' o) refl refl

    best_entry : IsBest (suc t) p (At i) d
    best_entry = record {
      reads = true_here;
      far = omega (arith, far_here, number);
      first = λ e' reads' near. first_here e' reads' (omega (arith, near, number));
    }

  best : (s t : ℕ) (x : Child) (p : ℕ) → HasSteps es s x → HasSteps es t x → Starts es p x → bound_of ns x < BEYOND → IsBest t p x (way s x)
  best s t F p hs ht low near = absurd (omega (arith, near))
  best s t T p hs ht low near = best_true t p
  best zero t (At i) p hs ht low near = absurd (too_few i hs)
    where
      too_few : (i : ℕ) → HasSteps es 0 (At i) → ⊥
      too_few i h = omega (arith, h.2, width, ltb-true h.0.option (length c) (all_at (λ e. nat_lt e.option (length c)) es i h.0 few h.1))
  best (suc s) zero (At i) p hs ht low near = absurd (too_few i ht)
    where
      too_few : (i : ℕ) → HasSteps es 0 (At i) → ⊥
      too_few i h = omega (arith, h.2, width, ltb-true h.0.option (length c) (all_at (λ e. nat_lt e.option (length c)) es i h.0 few h.1))
  best (suc s) (suc t) (At i) p hs ht low near = by (best s t)
    where
      e : ListingEntry
      e = hs.0

      at : slice_get es i ≡ Some e
      at = hs.1

      stands : (n : ℕ) × (slice_get ns i ≡ Some n)
      stands = some_at ns i (omega (arith, least.count, slice_get_within es i e at))

      on : Bool
      on = turns_on ns c e

      number : number_in (slice_get ns i) ≡ stands.0
      number = ap number_in stands.1

      is : stands.0 ≡ turned e on
      is = omega (arith, near, number, least.each i stands.0 e at stands.1, turned_least e on refl)

      small : bound_of ns (side_of e on) < BEYOND
      small = omega (arith, is, number, near)

      ordered_here : is_ordered es e ≡ true
      ordered_here = all_at (is_ordered es) es i e ordered at

      below : (b : Bool) → is_below es e.option (side_of e b) ≡ true
      below false = (and_parts (is_below es e.option e.off) _ ordered_here).0
      below true = (and_parts (is_below es e.option e.on) _ (and_parts (is_below es e.option e.off) _ ordered_here).1).0

      enough : (k : ℕ) → HasSteps es (suc k) (At i) → HasSteps es k (side_of e on)
      enough k h = steps_below es e.option k (side_of e on) (subst (λ f. CHOICE_WIDTH ≤ suc k + f.option) (some_is h.0 e (sym h.1 ∙ at)) h.2) (below on)

      by : ((x : Child) (p : ℕ) → HasSteps es s x → HasSteps es t x → Starts es p x → bound_of ns x < BEYOND → IsBest t p x (way s x)) → IsBest (suc t) p (At i) (walked_entry (way s) ns c (slice_get es i))
      by rec =
          let x = side_of e on in
          let low' = starts_side i e at on in
          subst (λ r. IsBest (suc t) p (At i) (walked_entry (way s) ns c r)) (sym at)
          (best_entry t i p e at (low e at) on refl stands.0 number is (way s x) (length_walked s x) (kept s x (suc e.option) low') (rec x (suc e.option) (enough s hs) (enough t ht) low' small))

-- the choice that is walked to from the root
module _ (l : ListingValue) (ns : List ℕ) (c : List Bool) (reduced : is_reduced l ≡ true) (few : has_options_below (length c) l ≡ true) (width : length c ≤ CHOICE_WIDTH)
    (least : AreLeast l.entries c ns) (met : IsMet (length c) l) where
  ranged : is_in_range l.entries l.root ≡ true
  ranged = (and_parts (is_in_range l.entries l.root) _ reduced).0

  ordered : list_all (is_ordered l.entries) l.entries ≡ true
  ordered = (and_parts (list_all (is_ordered l.entries) l.entries) _ (and_parts (is_in_range l.entries l.root) _ reduced).1).0

  abbrev found : List Bool
  found = walked l.entries ns c CHOICE_WIDTH l.root

  steps_root : (s : ℕ) → CHOICE_WIDTH ≤ s → (x : Child) → is_in_range l.entries x ≡ true → HasSteps l.entries s x
  steps_root s most F h = tt
  steps_root s most T h = tt
  steps_root s most (At i) h = let e = some_at l.entries i (ltb-true i (length l.entries) h) in (e.0, e.1, omega (arith, most))

  none_nearer : (d : List Bool) → reads l d ≡ true → bound_of ns l.root ≤ distance c d
  none_nearer d h = lower l.entries ns c d ordered (are_lower l.entries c ns least) (CHOICE_WIDTH + length l.entries) l.root 0 (λ e at. omega arith) h

  small : bound_of ns l.root < BEYOND
  small = omega (arith, none_nearer met.0 met.2, distance_most c met.0 met.1, width)

  is_best : IsBest l.entries ns c ordered few width least (CHOICE_WIDTH + length l.entries) 0 l.root found
  is_best = best l.entries ns c ordered few width least CHOICE_WIDTH (CHOICE_WIDTH + length l.entries) l.root 0
      (steps_root CHOICE_WIDTH (omega arith) l.root ranged) (steps_root (CHOICE_WIDTH + length l.entries) (omega arith) l.root ranged) (λ e at. omega arith) small

  -- it is as far as the root's number says
  pub found_far : bound_of ns l.root ≡ distance c found
  found_far = sym is_best.far

  either : (b : Bool) (x y : ℕ) → (b ≡ true → x ≤ y) → (not b || nat_le x y) ≡ true
  either true x y h = le-leb x y (h refl)
  either false x y h = refl

  passes : is_nearest (length c) (reads l) c found ≡ true
  passes = and_from (reads l found) _ is_best.reads
      (all_pass (length c) (λ e. not (reads l e) || nat_le (distance c found) (distance c e)) (λ e long. either (reads l e) (distance c found) (distance c e) (λ h. omega (arith, none_nearer e h, found_far))))

  no_farther : (b : Bool) (x y : ℕ) → b ≡ true → (not b || nat_le x y) ≡ true → x ≤ y
  no_farther true x y is h = leb-true x y h
  no_farther false x y is h = absurd (true≢false (sym is))

  before_others : (e : List Bool) → length e ≡ length c → is_nearest (length c) (reads l) c e ≡ true → Precedes 0 found e
  before_others e long h =
      let parts = and_parts (reads l e) (list_all (λ f. not (reads l f) || nat_le (distance c e) (distance c f)) (all_choices (length c))) h in
      let near = no_farther (reads l found) (distance c e) (distance c found) is_best.reads (each_passes (length c) (λ f. not (reads l f) || nat_le (distance c e) (distance c f)) parts.1 found (length_walked l.entries ns c ordered few width least CHOICE_WIDTH l.root)) in
      is_best.first e parts.0 (omega (arith, near, none_nearer e parts.0, found_far))

  -- and the first of the nearest
  pub found_nearest : first_nearest (length c) (reads l) c ≡ Some found
  found_nearest = first_found (length c) (is_nearest (length c) (reads l) c) found (length_walked l.entries ns c ordered few width least CHOICE_WIDTH l.root) passes before_others
