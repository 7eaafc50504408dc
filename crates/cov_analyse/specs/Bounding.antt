-- How far choices are apart, and lower bounds of it that a listing's entries keep.
use Rattle.std.specs.Prelude.{ℕ, ◌+◌, ◌≤◌, ◌≡◌, Bool, true, false, ◌&&◌, nat_eq, nat_le, List, [], ◌∷◌, length, Option, Some, None, slice_get}
use Rattle.std.specs.List.{list_all}
use Rattle.cov_base.specs.Choices.{is_on}
use Rattle.cov_vis.specs.declared.listing.Child.{Child}
use Rattle.cov_vis.specs.declared.listing.Child.TheVariants.{F, T, At}
use Rattle.cov_vis.specs.declared.listing.ListingEntry.{ListingEntry}
use Rattle.cov_vis.specs.Listings.{ListingValue, is_reduced, reads}
use Rattle.cov_analyse.specs.declared.bounding.TheConstants.{BEYOND}

-- 1 where two values differ, else 0
abbrev pub differing : Bool → Bool → ℕ
differing false false = 0
differing false true = 1
differing true false = 1
differing true true = 0

-- on how many options two choices differ; an option at or above a choice's count is off
abbrev pub distance : List Bool → List Bool → ℕ
distance [] [] = 0
distance [] (b ∷ d) = differing false b + distance [] d
distance (a ∷ c) [] = differing a false + distance c []
distance (a ∷ c) (b ∷ d) = differing a b + distance c d

-- the number of an entry; no entry without one is asked for
abbrev pub number_in : Option ℕ → ℕ
number_in None = 0
number_in (Some n) = n

-- the number of a child: beyond all distances for false, 0 for true, else that of the entry
abbrev pub bound_of : List ℕ → Child → ℕ
bound_of numbers F = BEYOND
bound_of numbers T = 0
bound_of numbers (At i) = number_in (slice_get numbers i)

-- the number of an entry's off side, plus 1 where the choice is on
abbrev pub off_number : List ℕ → List Bool → ListingEntry → ℕ
off_number numbers c e = bound_of numbers e.off + differing (is_on c e.option) false

-- the number of an entry's on side, plus 1 where the choice is off
abbrev pub on_number : List ℕ → List Bool → ListingEntry → ℕ
on_number numbers c e = bound_of numbers e.on + differing (is_on c e.option) true

-- whether an entry's number is at most that of each side, plus 1 where the choice is on the other
abbrev pub is_bound : List ℕ → List Bool → ListingEntry → ℕ → Bool
is_bound numbers c e n = nat_le n (off_number numbers c e) && nat_le n (on_number numbers c e)

-- whether each entry has a number behind those of the entries before, and it is at most that of each side
abbrev pub are_bounds : List ℕ → List Bool → List ListingEntry → List ℕ → Bool
are_bounds numbers c [] ns = true
are_bounds numbers c (e ∷ es) [] = false
are_bounds numbers c (e ∷ es) (n ∷ ns) = is_bound numbers c e n && are_bounds numbers c es ns

-- whether a listing is reduced, with one number for each entry, none greater than that of false, and each at most those of its sides
abbrev pub is_checked : ListingValue → List Bool → List ℕ → Bool
is_checked l c numbers =
    is_reduced l
    && (nat_eq (length numbers) (length l.entries)
    && (list_all (λ n. nat_le n BEYOND) numbers
    && are_bounds numbers c l.entries numbers))

-- a choice on which the listing reads true differs from the given one on at least as many options as the root's number says
abbrev pub BoundsAreLower : Type 0
BoundsAreLower = (l : ListingValue) (c d : List Bool) (numbers : List ℕ) → is_checked l c numbers ≡ true → reads l d ≡ true → bound_of numbers l.root ≤ distance c d
