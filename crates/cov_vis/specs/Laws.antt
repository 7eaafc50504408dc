-- Laws of listings.
use Rattle.std.specs.Prelude.{ℕ, ◌≤◌, ◌≡◌, ◌↔◌, true, Bool, List, length}
use Rattle.cov_base.specs.declared.limits.TheConstants.{CHOICE_WIDTH}
use Rattle.cov_vis.specs.Decisions.{listing_of}
use Rattle.cov_vis.specs.Listings.{ListingValue, reads, has_options_below, is_reduced}

-- reduced listings that read the same on every choice of CHOICE_WIDTH options are equal; a listing has no option at or above CHOICE_WIDTH
abbrev pub ListingsAreOne : Type 0
ListingsAreOne = (l m : ListingValue) → has_options_below CHOICE_WIDTH l ≡ true → has_options_below CHOICE_WIDTH m ≡ true
    → is_reduced l ≡ true → is_reduced m ≡ true → ((c : List Bool) → length c ≡ CHOICE_WIDTH → reads l c ≡ reads m c) → l ≡ m

-- a listing is reduced, has no option at or above n, and reads as a test on the choices of n options
pub record IsListingOf (n : ℕ) (test : List Bool → Bool) (l : ListingValue) : Type 0 where
  pub reduced : is_reduced l ≡ true
  pub options : has_options_below n l ≡ true
  pub values : (c : List Bool) → length c ≡ n → reads l c ≡ test c

-- each test of choices has exactly one listing
abbrev pub TestsHaveOneListing : Type 0
TestsHaveOneListing = (n : ℕ) (test : List Bool → Bool) → n ≤ CHOICE_WIDTH → (l : ListingValue) → IsListingOf n test l ↔ (l ≡ listing_of n test)
