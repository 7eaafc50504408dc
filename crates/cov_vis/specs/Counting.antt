-- The walk over a listing that counts the entries met.
use Rattle.std.specs.Prelude.{ℕ, zero, suc, ◌+◌, nat_eq, nat_lt, List, Option, Some, None, slice_get, if◌then◌else◌}
use Rattle.cov_vis.specs.declared.listing.Child.{Child}
use Rattle.cov_vis.specs.declared.listing.Child.TheVariants.{F, T, At}
use Rattle.cov_vis.specs.declared.listing.ListingEntry.{ListingEntry}

abbrev pub counted_on : (ℕ → Option ℕ) → Option ℕ → Option ℕ
counted_on go None = None
counted_on go (Some n) = go n

abbrev pub counted_entry : (Child → ℕ → Option ℕ) → ℕ → ℕ → Option ListingEntry → Option ℕ
counted_entry go i met None = Some met
counted_entry go i met (Some e) = if nat_eq i met then counted_on (go e.on) (go e.off (met + 1)) else None

-- how many entries are met after a child, where the walk has met those below a number and goes on with that number; None where it meets another first
abbrev pub count_walk : List ListingEntry → ℕ → Child → ℕ → Option ℕ
count_walk entries steps F met = Some met
count_walk entries steps T met = Some met
count_walk entries zero (At i) met = Some met
count_walk entries (suc steps) (At i) met = if nat_lt i met then Some met else counted_entry (count_walk entries steps) i met (slice_get entries i)
