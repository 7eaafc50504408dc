-- What a listing reads, with no bound of steps.
use Rattle.std.proofs.Common.{◌≡◌, ◌≢◌, ℕ, zero, suc, ◌+◌, ◌<◌, ◌≤◌, Bool, true, false, cond, List, [], ◌∷◌, Option, Some, None, true≢false, refl, sym, ap, ◌∙◌, arith}
use Rattle.std.specs.Prelude.{slice_get, nat_lt, ◌&&◌, ◌||◌, not}
use Rattle.std.specs.List.{list_any, list_all}
use Rattle.std.proofs.lemmas.Bool.{and_parts, eqb-true, eq-eqb, ltb-true}
use Rattle.std.proofs.Math.Bool.{or-true}
use Rattle.cov_base.specs.Choices.{is_on, with_option}
use Rattle.cov_base.proofs.CallerLemmas.{is_on-other}
use Rattle.cov_base.specs.declared.limits.TheConstants.{CHOICE_WIDTH}
use Rattle.cov_vis.specs.declared.listing.Child.{Child}
use Rattle.cov_vis.specs.declared.listing.Child.TheVariants.{F, T, At}
use Rattle.cov_vis.specs.declared.listing.ListingEntry.{ListingEntry}
use Rattle.cov_vis.specs.Listings.{reads_from, followed, option_above, is_below, is_ordered, same_child, same_entry, are_distinct}

-- one more than the option of an entry, above all options for false and true, 0 where there is no entry
abbrev pub rank_at : Option ListingEntry → ℕ
rank_at None = 0
rank_at (Some e) = suc e.option

abbrev pub rank : List ListingEntry → Child → ℕ
rank es F = suc CHOICE_WIDTH
rank es T = suc CHOICE_WIDTH
rank es (At i) = rank_at (slice_get es i)

-- what is known of an entry of an ordered listing
pub record IsAbove (es : List ListingEntry) (e : ListingEntry) : Type 0 where
  pub small : e.option < CHOICE_WIDTH
  pub off_below : suc e.option < rank es e.off
  pub on_below : suc e.option < rank es e.on
  pub differ : e.off ≢ e.on

abbrev pub AreAbove : List ListingEntry → Type 0
AreAbove es = (i : ℕ) (e : ListingEntry) → slice_get es i ≡ Some e → IsAbove es e

module _ (es : List ListingEntry) (o : AreAbove es) where
  pub rank-most : (x : Child) → rank es x ≤ suc CHOICE_WIDTH
  rank-most F = omega arith
  rank-most T = omega arith
  rank-most (At i) = by (slice_get es i) refl
    where
      by : (e : Option ListingEntry) → slice_get es i ≡ e → rank_at e ≤ suc CHOICE_WIDTH
      by None h = omega arith
      by (Some e) h = omega (arith, (o i e h).small)

  -- enough steps are as good as others
  pub enough : (s t : ℕ) (x : Child) (c : List Bool) → suc CHOICE_WIDTH ≤ s + rank es x → suc CHOICE_WIDTH ≤ t + rank es x → reads_from es s x c ≡ reads_from es t x c
  enough s t F c h k = refl
  enough s t T c h k = refl
  enough zero t (At i) c h k = absurd (none (slice_get es i) refl h)
    where
      none : (e : Option ListingEntry) → slice_get es i ≡ e → suc CHOICE_WIDTH ≤ 0 + rank_at e → ⊥
      none None at h = omega (arith, h)
      none (Some e) at h = omega (arith, h, (o i e at).small)
  enough (suc s) zero (At i) c h k = absurd (none (slice_get es i) refl k)
    where
      none : (e : Option ListingEntry) → slice_get es i ≡ e → suc CHOICE_WIDTH ≤ 0 + rank_at e → ⊥
      none None at h = omega (arith, h)
      none (Some e) at h = omega (arith, h, (o i e at).small)
  enough (suc s) (suc t) (At i) c h k = by (slice_get es i) refl h k (λ x. enough s t x c)
    where
      by : (e : Option ListingEntry) → slice_get es i ≡ e → suc CHOICE_WIDTH ≤ suc s + rank_at e → suc CHOICE_WIDTH ≤ suc t + rank_at e
          → ((x : Child) → suc CHOICE_WIDTH ≤ s + rank es x → suc CHOICE_WIDTH ≤ t + rank es x → reads_from es s x c ≡ reads_from es t x c)
          → followed c (λ x. reads_from es s x c) e ≡ followed c (λ x. reads_from es t x c) e
      by None at h k rec = refl
      by (Some e) at h k rec =
          let a = o i e at in
          λ j. cond (is_on c e.option) (rec e.on (omega (arith, h, a.on_below)) (omega (arith, k, a.on_below)) j) (rec e.off (omega (arith, h, a.off_below)) (omega (arith, k, a.off_below)) j)

  -- an option before that of a child isn't read
  pub unread : (s : ℕ) (x : Child) (p : ℕ) (on : Bool) (c : List Bool) → suc p < rank es x → reads_from es s x (with_option c p on) ≡ reads_from es s x c
  unread s F p on c h = refl
  unread s T p on c h = refl
  unread zero (At i) p on c h = refl
  unread (suc s) (At i) p on c h = by (slice_get es i) refl h (λ x. unread s x p on c)
    where
      by : (e : Option ListingEntry) → slice_get es i ≡ e → suc p < rank_at e
          → ((x : Child) → suc p < rank es x → reads_from es s x (with_option c p on) ≡ reads_from es s x c)
          → followed (with_option c p on) (λ x. reads_from es s x (with_option c p on)) e ≡ followed c (λ x. reads_from es s x c) e
      by None at h rec = refl
      by (Some e) at h rec =
          let a = o i e at in
          let ne : e.option ≢ p = omega (arith, h) in
          λ j. cond (is_on-other c p e.option on ne j) (rec e.on (omega (arith, h, a.on_below)) j) (rec e.off (omega (arith, h, a.off_below)) j)

  -- what is read at an entry
  pub at_entry : (s : ℕ) (i : ℕ) (e : ListingEntry) (c : List Bool) → CHOICE_WIDTH ≤ s → slice_get es i ≡ Some e
      → reads_from es s (At i) c ≡ cond (is_on c e.option) (reads_from es s e.on c) (reads_from es s e.off c)
  at_entry zero i e c h at = absurd (omega (arith, h))
  at_entry (suc s) i e c h at =
      let a = o i e at in
      ap (followed c (λ x. reads_from es s x c)) at
      ∙ (λ j. cond (is_on c e.option) (enough s (suc s) e.on c (omega (arith, h, a.on_below)) (omega (arith, h, a.on_below)) j) (enough s (suc s) e.off c (omega (arith, h, a.off_below)) (omega (arith, h, a.off_below)) j))

pub same_child-is : (x y : Child) → same_child x y ≡ true → x ≡ y
same_child-is F F h = refl
same_child-is T T h = refl
same_child-is (At i) (At j) h = ap At (eqb-true i j h)
same_child-is F T h = absurd (true≢false (sym h))
same_child-is F (At j) h = absurd (true≢false (sym h))
same_child-is T F h = absurd (true≢false (sym h))
same_child-is T (At j) h = absurd (true≢false (sym h))
same_child-is (At i) F h = absurd (true≢false (sym h))
same_child-is (At i) T h = absurd (true≢false (sym h))

pub same_child-self : (x : Child) → same_child x x ≡ true
same_child-self F = refl
same_child-self T = refl
same_child-self (At i) = eq-eqb i i refl

pub not_true : (b : Bool) → not b ≡ true → b ≡ false
not_true false h = refl
not_true true h = absurd (true≢false (sym h))

-- what holds of all entries holds of each
pub all_at : (p : ListingEntry → Bool) (es : List ListingEntry) (i : ℕ) (e : ListingEntry) → list_all p es ≡ true → slice_get es i ≡ Some e → p e ≡ true
all_at p [] i e h at = absurd (cc)
all_at p (f ∷ es) zero e h at = let same : f ≡ e = cc in ap p (sym same) ∙ (and_parts (p f) (list_all p es) h).0
all_at p (f ∷ es) (suc i) e h at = all_at p es i e (and_parts (p f) (list_all p es) h).1 at

-- ordered entries of options below CHOICE_WIDTH
pub above_from : (es : List ListingEntry) → list_all (λ e. nat_lt e.option CHOICE_WIDTH) es ≡ true → list_all (is_ordered es) es ≡ true → AreAbove es
above_from es small h i e at = record {
  small = few;
  off_below = below e.off (and_parts (is_below es e.option e.off) _ all).0;
  on_below = below e.on (and_parts (is_below es e.option e.on) _ rest).0;
  differ = λ same. true≢false (sym (ap (same_child e.off) (sym same) ∙ same_child-self e.off) ∙ not_true (same_child e.off e.on) (and_parts (is_below es e.option e.on) _ rest).1);
}
  where
    few : e.option < CHOICE_WIDTH
    few = ltb-true e.option CHOICE_WIDTH (all_at (λ e. nat_lt e.option CHOICE_WIDTH) es i e small at)

    all : is_ordered es e ≡ true
    all = all_at (is_ordered es) es i e h at

    rest : (is_below es e.option e.on && not (same_child e.off e.on)) ≡ true
    rest = (and_parts (is_below es e.option e.off) _ all).1

    below_at : (o : Option ListingEntry) → option_above e.option o ≡ true → suc e.option < rank_at o
    below_at None h = absurd (true≢false (sym h))
    below_at (Some f) h = omega (arith, ltb-true e.option f.option h)

    below : (x : Child) → is_below es e.option x ≡ true → suc e.option < rank es x
    below F h = omega (arith, few)
    below T h = omega (arith, few)
    below (At j) h = below_at (slice_get es j) h

same_entry-self : (e : ListingEntry) → same_entry e e ≡ true
same_entry-self e = (λ j. eq-eqb e.option e.option refl j && (same_child-self e.off j && same_child-self e.on j))

entry_found : (f : ListingEntry) (es : List ListingEntry) (j : ℕ) → slice_get es j ≡ Some f → list_any (same_entry f) es ≡ true
entry_found f [] j k = absurd (cc)
entry_found f (g ∷ es) zero k =
    let same : g ≡ f = cc in
    (λ j. same_entry f (same j) || list_any (same_entry f) es) ∙ (λ j. same_entry-self f j || list_any (same_entry f) es)
entry_found f (g ∷ es) (suc j) k = ap (λ b. same_entry f g || b) (entry_found f es j k) ∙ or-true (same_entry f g)

first_apart : (f : ListingEntry) (es : List ListingEntry) (j : ℕ) (e : ListingEntry) → not (list_any (same_entry f) es) ≡ true → Some f ≡ Some e → slice_get es j ≡ Some e → ⊥
first_apart f es j e d s k = true≢false (sym (entry_found f es j (k ∙ sym s)) ∙ not_true _ d)

-- no entry stands twice
pub distinct_at : (es : List ListingEntry) (i j : ℕ) (e : ListingEntry) → are_distinct es ≡ true → slice_get es i ≡ Some e → slice_get es j ≡ Some e → i ≡ j
distinct_at [] i j e d h k = absurd (cc)
distinct_at (f ∷ es) zero zero e d h k = refl
distinct_at (f ∷ es) zero (suc j) e d h k = absurd (first_apart f es j e (and_parts _ _ d).0 h k)
distinct_at (f ∷ es) (suc i) zero e d h k = absurd (first_apart f es i e (and_parts _ _ d).0 k h)
distinct_at (f ∷ es) (suc i) (suc j) e d h k = ap suc (distinct_at es i j e (and_parts _ _ d).1 h k)
