-- Listings whose options are below a number.
use Rattle.std.proofs.Common.{◌≡◌, ℕ, zero, suc, ◌+◌, ◌<◌, ◌≤◌, Bool, true, cond, take, nat_lt, List, length, Option, Some, None, refl, sym, ◌∙◌, arith}
use Rattle.std.specs.Prelude.{slice_get}
use Rattle.std.proofs.lemmas.List.{length-take-le}
use Rattle.std.proofs.lemmas.Bool.{lt-ltb, ltb-true}
use Rattle.cov_base.specs.declared.limits.TheConstants.{CHOICE_WIDTH}
use Rattle.cov_base.proofs.CallerLemmas.{is_on-take}
use Rattle.cov_vis.specs.declared.listing.Child.{Child}
use Rattle.cov_vis.specs.declared.listing.Child.TheVariants.{F, T, At}
use Rattle.cov_vis.specs.declared.listing.ListingEntry.{ListingEntry}
use Rattle.cov_vis.specs.Listings.{ListingValue, followed, has_options_below, is_reduced, reads, reads_from}
use Rattle.cov_vis.proofs.Reading.{all_at}
use Rattle.cov_vis.proofs.Entries.{all_from}
use Rattle.cov_vis.proofs.OneListing.{one_listing}

module _ (most : ℕ) (l : ListingValue) (low : has_options_below most l ≡ true) where
  low_at : (i : ℕ) (e : ListingEntry) → slice_get l.entries i ≡ Some e → e.option < most
  low_at i e at = ltb-true e.option most (all_at (λ e. nat_lt e.option most) l.entries i e low at)

  pub below_more : (more : ℕ) → most ≤ more → has_options_below more l ≡ true
  below_more more h = all_from (λ e. nat_lt e.option more) l.entries (λ i e at. lt-ltb e.option more (omega (arith, h, low_at i e at)))

  module _ (c : List Bool) where
    followed_first : (s : ℕ) → ((x : Child) → reads_from l.entries s x (take most c) ≡ reads_from l.entries s x c) → (i : ℕ) (r : Option ListingEntry) → slice_get l.entries i ≡ r
        → followed (take most c) (λ x. reads_from l.entries s x (take most c)) r ≡ followed c (λ x. reads_from l.entries s x c) r
    followed_first s rec i None at = refl
    followed_first s rec i (Some e) at = λ j. cond (is_on-take most c e.option (low_at i e at) j) (rec e.on j) (rec e.off j)

    reads_first : (s : ℕ) (x : Child) → reads_from l.entries s x (take most c) ≡ reads_from l.entries s x c
    reads_first s F = refl
    reads_first s T = refl
    reads_first zero (At i) = refl
    reads_first (suc s) (At i) = followed_first s (reads_first s) i (slice_get l.entries i) refl

    -- no option at or above the number is read
    pub reads_by_first_options : reads l (take most c) ≡ reads l c
    reads_by_first_options = reads_first (CHOICE_WIDTH + length l.entries) l.root

-- reduced listings of options below a number that read the same on every choice of so many options are equal
pub one_listing_below : (most : ℕ) → most ≤ CHOICE_WIDTH → (l m : ListingValue) → has_options_below most l ≡ true → has_options_below most m ≡ true → is_reduced l ≡ true → is_reduced m ≡ true
    → ((c : List Bool) → length c ≡ most → reads l c ≡ reads m c) → l ≡ m
one_listing_below most few l m low under h k agree =
    one_listing l m (below_more most l low CHOICE_WIDTH few) (below_more most m under CHOICE_WIDTH few) h k
    (λ c long. sym (reads_by_first_options most l low c) ∙ agree (take most c) (length-take-le most c (omega (arith, few, long))) ∙ reads_by_first_options most m under c)
