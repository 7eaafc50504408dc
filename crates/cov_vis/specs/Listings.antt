-- Listings of decision diagrams: what they read, and which are reduced.
use Rattle.std.specs.Prelude.{ℕ, zero, suc, ◌+◌, Bool, true, false, ◌&&◌, not, nat_eq, nat_lt, List, [], ◌∷◌, ◌++◌, length, Option, Some, None, slice_get, if◌then◌else◌}
use Rattle.std.specs.Cmp.Lexicographic.{pointwise}
use Rattle.std.specs.List.{list_any, list_all, range_with_len}
use Rattle.cov_base.specs.Choices.{is_on}
use Rattle.cov_base.specs.declared.limits.TheConstants.{CHOICE_WIDTH}
use Rattle.cov_vis.specs.declared.listing.Child.{Child}
use Rattle.cov_vis.specs.declared.listing.Child.TheVariants.{F, T, At}
use Rattle.cov_vis.specs.declared.listing.ListingEntry.{ListingEntry}

-- a root and entries
pub record ListingValue : Type 0 where
  pub root : Child
  pub entries : List ListingEntry

-- the child of an entry on a choice, followed further; false where there is no such entry
abbrev pub followed : List Bool → (Child → Bool) → Option ListingEntry → Bool
followed c go None = false
followed c go (Some e) = if is_on c e.option then go e.on else go e.off

-- what a child reads on a choice, by at most so many entries
abbrev pub reads_from : List ListingEntry → ℕ → Child → List Bool → Bool
reads_from entries steps F c = false
reads_from entries steps T c = true
reads_from entries zero (At i) c = false
reads_from entries (suc steps) (At i) c = followed c (λ x. reads_from entries steps x c) (slice_get entries i)

-- what a listing reads on a choice, false where that way never ends; no way to false or true is longer than there are entries, so the steps bound none
abbrev pub reads : ListingValue → List Bool → Bool
reads l c = reads_from l.entries (CHOICE_WIDTH + length l.entries) l.root c

-- whether each entry has an option below a number
abbrev pub has_options_below : ℕ → ListingValue → Bool
has_options_below most l = list_all (λ e. nat_lt e.option most) l.entries

abbrev pub same_child : Child → Child → Bool
same_child F F = true
same_child T T = true
same_child (At i) (At j) = nat_eq i j
same_child F T = false
same_child F (At j) = false
same_child T F = false
same_child T (At j) = false
same_child (At i) F = false
same_child (At i) T = false

abbrev pub same_entry : ListingEntry → ListingEntry → Bool
same_entry e f = nat_eq e.option f.option && (same_child e.off f.off && same_child e.on f.on)

abbrev pub option_above : ℕ → Option ListingEntry → Bool
option_above o None = false
option_above o (Some e) = nat_lt o e.option

-- whether a child is false, true or an entry in range with a greater option
abbrev pub is_below : List ListingEntry → ℕ → Child → Bool
is_below entries o F = true
is_below entries o T = true
is_below entries o (At i) = option_above o (slice_get entries i)

abbrev pub is_in_range : List ListingEntry → Child → Bool
is_in_range entries F = true
is_in_range entries T = true
is_in_range entries (At i) = nat_lt i (length entries)

-- whether an entry's children are in range, have greater options and differ
abbrev pub is_ordered : List ListingEntry → ListingEntry → Bool
is_ordered entries e = is_below entries e.option e.off && (is_below entries e.option e.on && not (same_child e.off e.on))

abbrev pub are_distinct : List ListingEntry → Bool
are_distinct [] = true
are_distinct (e ∷ es) = not (list_any (same_entry e) es) && are_distinct es

-- the entries met so far and then those below an entry that weren't met: the entry first, then its off side, then its on side
abbrev pub walked_entry : (Child → List ℕ → List ℕ) → ℕ → List ℕ → Option ListingEntry → List ℕ
walked_entry go i met None = met
walked_entry go i met (Some e) = go e.on (go e.off (met ++ i ∷ []))

-- the same below a child, by at most so many entries below one another
abbrev pub walk : List ListingEntry → ℕ → Child → List ℕ → List ℕ
walk entries steps F met = met
walk entries steps T met = met
walk entries zero (At i) met = met
walk entries (suc steps) (At i) met = if list_any (nat_eq i) met then met else walked_entry (walk entries steps) i met (slice_get entries i)

-- whether a walk from the root meets the entries 0, 1, 2 and so on, all of them; where options rise, no more than CHOICE_WIDTH entries are below one another
abbrev pub is_in_walk_order : ListingValue → Bool
is_in_walk_order l = pointwise nat_eq (walk l.entries CHOICE_WIDTH l.root []) (range_with_len 0 (length l.entries))

-- whether a listing is in range and ordered, has no useless or equal entries, and is in the order of a walk
abbrev pub is_reduced : ListingValue → Bool
is_reduced l =
    is_in_range l.entries l.root
    && (list_all (is_ordered l.entries) l.entries
    && (are_distinct l.entries
    && is_in_walk_order l))
