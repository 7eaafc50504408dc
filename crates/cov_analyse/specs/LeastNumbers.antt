-- Numbers of a listing's entries while they are found, from the leaves up.
use Rattle.std.specs.Prelude.{ℕ, ◌+◌, ◌≡◌, ◌≢◌, ◌≤◌, min, Bool, List, length, Some, slice_get}
use Rattle.cov_base.specs.declared.limits.TheConstants.{CHOICE_WIDTH}
use Rattle.cov_vis.specs.declared.listing.Child.{Child}
use Rattle.cov_vis.specs.declared.listing.Child.TheVariants.{F, T, At}
use Rattle.cov_vis.specs.declared.listing.ListingEntry.{ListingEntry}
use Rattle.cov_analyse.specs.declared.bounding.TheConstants.{BEYOND}
use Rattle.cov_analyse.specs.declared.measuring.TheConstants.{UNMEASURED}
use Rattle.cov_analyse.specs.Bounding.{off_number, on_number}

-- the least of what an entry's sides allow
abbrev pub least_number : List ℕ → List Bool → ListingEntry → ℕ
least_number numbers c e = min BEYOND (min (off_number numbers c e) (on_number numbers c e))

-- each entry has its number, the least of what its sides allow
pub record AreLeast (es : List ListingEntry) (c : List Bool) (numbers : List ℕ) : Type 0 where
  pub count : length numbers ≡ length es
  pub each : (i n : ℕ) (e : ListingEntry) → slice_get es i ≡ Some e → slice_get numbers i ≡ Some n → n ≡ least_number numbers c e

-- no entry has its number
abbrev pub AreUnmeasured : List ℕ → Type 0
AreUnmeasured numbers = (i n : ℕ) → slice_get numbers i ≡ Some n → n ≡ UNMEASURED

-- a child has its number
abbrev pub IsMeasured : List ℕ → Child → Type 0
IsMeasured numbers F = Unit {0}
IsMeasured numbers T = Unit {0}
IsMeasured numbers (At i) = (n : ℕ) × (slice_get numbers i ≡ Some n) × (n ≢ UNMEASURED)

-- each entry that has its number has the least, and its sides have theirs
abbrev pub AreMeasured : List ListingEntry → List Bool → List ℕ → Type 0
AreMeasured es c numbers = (i n : ℕ) (e : ListingEntry) → slice_get es i ≡ Some e → slice_get numbers i ≡ Some n → n ≢ UNMEASURED
    → (n ≡ least_number numbers c e) × IsMeasured numbers e.off × IsMeasured numbers e.on

-- what has its number keeps it
abbrev pub Keeps : List ℕ → List ℕ → Type 0
Keeps old new = (i n : ℕ) → slice_get old i ≡ Some n → n ≢ UNMEASURED → slice_get new i ≡ Some n

-- a child is there, and no more options than steps may come below it
abbrev pub HasSteps : List ListingEntry → ℕ → Child → Type 0
HasSteps es steps F = Unit {0}
HasSteps es steps T = Unit {0}
HasSteps es steps (At i) = (e : ListingEntry) × (slice_get es i ≡ Some e) × (CHOICE_WIDTH ≤ steps + e.option)
