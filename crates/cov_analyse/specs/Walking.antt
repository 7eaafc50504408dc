-- The way from a child down to true that changes the fewest options.
use Rattle.std.specs.Prelude.{ℕ, zero, suc, ◌≡◌, Bool, true, nat_lt, List, length, Option, Some, None, slice_get, if◌then◌else◌}
use Rattle.cov_base.specs.Choices.{with_option}
use Rattle.cov_vis.specs.declared.listing.Child.{Child}
use Rattle.cov_vis.specs.declared.listing.Child.TheVariants.{F, T, At}
use Rattle.cov_vis.specs.declared.listing.ListingEntry.{ListingEntry}
use Rattle.cov_vis.specs.Listings.{ListingValue, reads}
use Rattle.cov_analyse.specs.Bounding.{off_number, on_number}

-- whether the way goes on where an entry's option is on: at a tie it doesn't
abbrev pub turns_on : List ℕ → List Bool → ListingEntry → Bool
turns_on numbers c e = nat_lt (on_number numbers c e) (off_number numbers c e)

-- a side of an entry
abbrev pub side_of : ListingEntry → Bool → Child
side_of e on = if on then e.on else e.off

-- the choice by the way through an entry, and that below it
abbrev pub walked_entry : (Child → List Bool) → List ℕ → List Bool → Option ListingEntry → List Bool
walked_entry below numbers c None = c
walked_entry below numbers c (Some e) = with_option (below (side_of e (turns_on numbers c e))) e.option (turns_on numbers c e)

-- the choice with the options set that are read on the way from a child, by at most so many entries
abbrev pub walked : List ListingEntry → List ℕ → List Bool → ℕ → Child → List Bool
walked es numbers c steps F = c
walked es numbers c steps T = c
walked es numbers c zero (At i) = c
walked es numbers c (suc steps) (At i) = walked_entry (walked es numbers c steps) numbers c (slice_get es i)

-- a listing reads true on some choice of n options
abbrev pub IsMet : ℕ → ListingValue → Type 0
IsMet n l = (c : List Bool) × (length c ≡ n) × (reads l c ≡ true)
