-- How numbers of entries are found.
use Rattle.std.proofs.Common.{◌≡◌, ◌≢◌, ℕ, zero, suc, ◌+◌, ◌-◌, ◌<◌, ◌≤◌, min, set, Bool, true, false, List, [], ◌∷◌, ◌++◌, length, Option, Some, None, true≢false, refl, sym, ap, subst, ◌∙◌, arith}
use Rattle.std.specs.Prelude.{slice_get, nat_eq, nat_le, nat_lt}
use Rattle.std.specs.List.{list_all}
use Rattle.std.proofs.lemmas.Option.{slice_get_within}
use Rattle.std.proofs.lemmas.Bool.{and_parts, and_from, eqb-true, eqb-false, eq-eqb, ltb-true, le-leb}
use Rattle.cov_base.specs.Choices.{is_on}
use Rattle.cov_base.specs.declared.limits.TheConstants.{CHOICE_WIDTH}
use Rattle.cov_vis.specs.declared.listing.Child.{Child}
use Rattle.cov_vis.specs.declared.listing.Child.TheVariants.{F, T, At}
use Rattle.cov_vis.specs.declared.listing.ListingEntry.{ListingEntry}
use Rattle.cov_vis.specs.Listings.{ListingValue, is_below, is_ordered, is_reduced, option_above}
use Rattle.cov_analyse.specs.declared.bounding.TheConstants.{BEYOND}
use Rattle.cov_analyse.specs.Bounding.{are_bounds, bound_of, differing, is_bound, is_checked, number_in, off_number, on_number}
use Rattle.cov_analyse.specs.LeastNumbers.{least_number, AreLeast, AreMeasured, AreUnmeasured, HasSteps, IsMeasured, Keeps}
use Rattle.cov_analyse.proofs.Lower.{all_at}

some_is : {X : Type 0} (x y : X) → Some x ≡ Some y → x ≡ y
some_is x y h = cc

get_same : (ns : List ℕ) (i v n : ℕ) → slice_get ns i ≡ Some n → slice_get (set ns i v) i ≡ Some v
get_same [] i v n h = absurd (cc)
get_same (m ∷ ns) zero v n h = refl
get_same (m ∷ ns) (suc i) v n h = get_same ns i v n h

get_other : (ns : List ℕ) (i j v : ℕ) → j ≢ i → slice_get (set ns i v) j ≡ slice_get ns j
get_other [] i j v ne = refl
get_other (m ∷ ns) zero zero v ne = absurd (ne refl)
get_other (m ∷ ns) zero (suc j) v ne = refl
get_other (m ∷ ns) (suc i) zero v ne = refl
get_other (m ∷ ns) (suc i) (suc j) v ne = get_other ns i j v (λ same. ne (ap suc same))

pub measured_kept : (ns ms : List ℕ) (x : Child) → Keeps ns ms → IsMeasured ns x → IsMeasured ms x
measured_kept ns ms F k m = m
measured_kept ns ms T k m = m
measured_kept ns ms (At i) k m = (m.0, k i m.0 m.1 m.2, m.2)

bound_kept : (ns ms : List ℕ) (x : Child) → Keeps ns ms → IsMeasured ns x → bound_of ns x ≡ bound_of ms x
bound_kept ns ms F k m = refl
bound_kept ns ms T k m = refl
bound_kept ns ms (At i) k m = ap number_in (m.1 ∙ sym (k i m.0 m.1 m.2))

least_kept : (ns ms : List ℕ) (c : List Bool) (e : ListingEntry) → Keeps ns ms → IsMeasured ns e.off → IsMeasured ns e.on → least_number ns c e ≡ least_number ms c e
least_kept ns ms c e k off on = λ j. min BEYOND (min (bound_kept ns ms e.off k off j + differing (is_on c e.option) false) (bound_kept ns ms e.on k on j + differing (is_on c e.option) true))

pub kept_twice : (ns ms ks : List ℕ) → Keeps ns ms → Keeps ms ks → Keeps ns ks
kept_twice ns ms ks h k i n at is = k i n (h i n at is) is

pub set_kept : (ns : List ℕ) (i v n : ℕ) → slice_get ns i ≡ Some n → (n ≢ 255 → n ≡ v) → Keeps ns (set ns i v)
set_kept ns i v n here same j m at is = by (nat_eq j i) refl
  where
    by : (b : Bool) → nat_eq j i ≡ b → slice_get (set ns i v) j ≡ Some m
    by true h =
        let at-i : slice_get ns i ≡ Some m = subst (λ k. slice_get ns k ≡ Some m) (eqb-true j i h) at in
        let one : n ≡ m = some_is n m (sym here ∙ at-i) in
        let value : v ≡ m = sym (same (λ bad. is (sym one ∙ bad))) ∙ one in
        ap (slice_get (set ns i v)) (eqb-true j i h) ∙ get_same ns i v n here ∙ ap Some value
    by false h = get_other ns i j v (eqb-false j i h) ∙ at

module _ (es : List ListingEntry) (c : List Bool) (ns : List ℕ) (i n : ℕ) (e : ListingEntry) (at-e : slice_get es i ≡ Some e) (here : slice_get ns i ≡ Some n)
    (all : AreMeasured es c ns) (off : IsMeasured ns e.off) (on : IsMeasured ns e.on) where
  value_kept : n ≢ 255 → n ≡ least_number ns c e
  value_kept is = (all i n e at-e here is).0

  pub put_keeps : Keeps ns (set ns i (least_number ns c e))
  put_keeps = set_kept ns i (least_number ns c e) n here value_kept

  pub put_is : IsMeasured (set ns i (least_number ns c e)) (At i)
  put_is = (least_number ns c e, get_same ns i (least_number ns c e) n here, (λ bad. let few : least_number ns c e ≤ 129 = omega arith in omega (arith, few, bad)))

  pub put_measured : AreMeasured es c (set ns i (least_number ns c e))
  put_measured j m f at-f at is = by (nat_eq j i) refl
    where
      after : List ℕ
      after = set ns i (least_number ns c e)

      by : (b : Bool) → nat_eq j i ≡ b → (m ≡ least_number after c f) × IsMeasured after f.off × IsMeasured after f.on
      by true h =
          let same : e ≡ f = some_is e f (sym at-e ∙ subst (λ k. slice_get es k ≡ Some f) (eqb-true j i h) at-f) in
          let value : least_number ns c e ≡ m = some_is _ m (sym (get_same ns i (least_number ns c e) n here) ∙ subst (λ k. slice_get after k ≡ Some m) (eqb-true j i h) at) in
          subst (λ g. (m ≡ least_number after c g) × IsMeasured after g.off × IsMeasured after g.on) same
          (sym value ∙ least_kept ns after c e put_keeps off on, measured_kept ns after e.off put_keeps off, measured_kept ns after e.on put_keeps on)
      by false h =
          let before : slice_get ns j ≡ Some m = sym (get_other ns i j (least_number ns c e) (eqb-false j i h)) ∙ at in
          let r = all j m f at-f before is in
          (r.0 ∙ least_kept ns after c f put_keeps r.1 r.2, measured_kept ns after f.off put_keeps r.1, measured_kept ns after f.on put_keeps r.2)

-- one step fewer is enough below an entry
pub steps_below : (es : List ListingEntry) (o s : ℕ) (x : Child) → CHOICE_WIDTH ≤ suc s + o → is_below es o x ≡ true → HasSteps es s x
steps_below es o s F h below = tt
steps_below es o s T h below = tt
steps_below es o s (At i) h below = by (slice_get es i) refl
  where
    by : (r : Option ListingEntry) → slice_get es i ≡ r → HasSteps es s (At i)
    by None at = absurd (true≢false (sym (subst (λ r. option_above o r ≡ true) at below)))
    by (Some e) at =
        let above : option_above o (Some e) ≡ true = subst (λ r. option_above o r ≡ true) at below in
        (e, at, omega (arith, h, ltb-true o e.option above))

module _ (es : List ListingEntry) (s i : ℕ) (e : ListingEntry) (small : list_all (λ e. nat_lt e.option CHOICE_WIDTH) es ≡ true) (ordered : list_all (is_ordered es) es ≡ true)
    (steps : HasSteps es s (At i)) (at : slice_get es i ≡ Some e) where
  enough : CHOICE_WIDTH ≤ s + e.option
  enough = subst (λ f. CHOICE_WIDTH ≤ s + f.option) (some_is steps.0 e (sym steps.1 ∙ at)) steps.2

  pub some_steps : 1 ≤ s
  some_steps = omega (arith, enough, ltb-true e.option CHOICE_WIDTH (all_at (λ e. nat_lt e.option CHOICE_WIDTH) es i e small at))

  fewer : CHOICE_WIDTH ≤ suc (s - 1) + e.option
  fewer = omega (arith, enough, some_steps)

  parts : is_ordered es e ≡ true
  parts = all_at (is_ordered es) es i e ordered at

  pub steps_off : HasSteps es (s - 1) e.off
  steps_off = steps_below es e.option (s - 1) e.off fewer (and_parts (is_below es e.option e.off) _ parts).0

  pub steps_on : HasSteps es (s - 1) e.on
  steps_on = steps_below es e.option (s - 1) e.on fewer (and_parts (is_below es e.option e.on) _ (and_parts (is_below es e.option e.off) _ parts).1).0

-- least numbers are bounds
least_bounds : (numbers : List ℕ) (c : List Bool) (es : List ListingEntry) (ns : List ℕ) → length ns ≡ length es
    → ((i n : ℕ) (e : ListingEntry) → slice_get es i ≡ Some e → slice_get ns i ≡ Some n → n ≡ least_number numbers c e) → are_bounds numbers c es ns ≡ true
least_bounds numbers c [] ns same least = refl
least_bounds numbers c (e ∷ es) [] same least = absurd (omega (arith, same))
least_bounds numbers c (e ∷ es) (n ∷ ns) same least =
    let is : n ≡ least_number numbers c e = least 0 n e refl refl in
    and_from (is_bound numbers c e n) (are_bounds numbers c es ns)
    (and_from _ _ (le-leb n (off_number numbers c e) (omega (arith, is))) (le-leb n (on_number numbers c e) (omega (arith, is))))
    (least_bounds numbers c es ns (omega (arith, same)) (λ i m f. least (suc i) m f))

pub are_lower : (es : List ListingEntry) (c : List Bool) (numbers : List ℕ) → AreLeast es c numbers → are_bounds numbers c es numbers ≡ true
are_lower es c numbers least = least_bounds numbers c es numbers least.count least.each

-- and none is beyond that of false
least_small : (numbers : List ℕ) (c : List Bool) (es : List ListingEntry) (ns : List ℕ) → length ns ≡ length es
    → ((i n : ℕ) (e : ListingEntry) → slice_get es i ≡ Some e → slice_get ns i ≡ Some n → n ≡ least_number numbers c e) → list_all (λ n. nat_le n BEYOND) ns ≡ true
least_small numbers c es [] same least = refl
least_small numbers c [] (n ∷ ns) same least = absurd (omega (arith, same))
least_small numbers c (e ∷ es) (n ∷ ns) same least =
    let is : n ≡ least_number numbers c e = least 0 n e refl refl in
    and_from (nat_le n BEYOND) _ (le-leb n BEYOND (omega (arith, is))) (least_small numbers c es ns (omega (arith, same)) (λ i m f. least (suc i) m f))

-- so a listing that is reduced is checked with them
pub least_checked : (l : ListingValue) (c : List Bool) (numbers : List ℕ) → is_reduced l ≡ true → AreLeast l.entries c numbers → is_checked l c numbers ≡ true
least_checked l c numbers reduced least =
    and_from (is_reduced l) _ reduced
    (and_from (nat_eq (length numbers) (length l.entries)) _ (eq-eqb (length numbers) (length l.entries) least.count)
    (and_from (list_all (λ n. nat_le n BEYOND) numbers) _ (least_small numbers c l.entries numbers least.count least.each) (are_lower l.entries c numbers least)))

pub some_at : {X : Type 0} (xs : List X) (i : ℕ) → i < length xs → (x : X) × (slice_get xs i ≡ Some x)
some_at [] i h = absurd (omega (arith, h))
some_at (x ∷ xs) zero h = (x, refl)
some_at (x ∷ xs) (suc i) h = some_at xs i (omega (arith, h))

pub all_steps : (es : List ListingEntry) (i : ℕ) → i < length es → HasSteps es CHOICE_WIDTH (At i)
all_steps es i h = let s = some_at es i h in (s.0, s.1, omega arith)

-- the entries up to an index have their numbers, and with the next one more
pub further : (old new : List ℕ) (i : ℕ) → Keeps old new → ((j : ℕ) → j < i → IsMeasured old (At j)) → IsMeasured new (At i) → (j : ℕ) → j < i + 1 → IsMeasured new (At j)
further old new i keeps done here j h = by (nat_eq j i) refl
  where
    by : (b : Bool) → nat_eq j i ≡ b → IsMeasured new (At j)
    by true is = subst (λ k. IsMeasured new (At k)) (sym (eqb-true j i is)) here
    by false is = let ne : j ≢ i = eqb-false j i is in measured_kept old new (At j) keeps (done j (omega (arith, h, ne)))

pub all_least : (es : List ListingEntry) (c : List Bool) (ns : List ℕ) (k : ℕ) → length ns ≡ length es → length ns ≤ k → ((j : ℕ) → j < k → IsMeasured ns (At j)) → AreMeasured es c ns → AreLeast es c ns
all_least es c ns k count most done all = record {
  count = count;
  each = λ i n e at-e at.
      let d = done i (omega (arith, most, slice_get_within ns i n at)) in
      let same : d.0 ≡ n = some_is d.0 n (sym d.1 ∙ at) in
      (all i n e at-e at (λ bad. d.2 (same ∙ bad))).0;
}

-- where no entry has its number, each that has one has the least
pub none_measured : (es : List ListingEntry) (c : List Bool) (ns : List ℕ) → AreUnmeasured ns → AreMeasured es c ns
none_measured es c ns none i n e at-e at is = absurd (is (none i n at))

pub unmeasured_more : (ns : List ℕ) → AreUnmeasured ns → AreUnmeasured (ns ++ 255 ∷ [])
unmeasured_more [] none zero n at = sym (some_is 255 n at)
unmeasured_more [] none (suc i) n at = absurd (cc)
unmeasured_more (m ∷ ns) none zero n at = none 0 n at
unmeasured_more (m ∷ ns) none (suc i) n at = unmeasured_more ns (λ i. none (suc i)) i n at
