-- What becomes of nodes as changes are installed.
use Rattle.std.specs.Prelude.{◌≡◌, ℕ, ◌<◌, Bool, true, false, nat_eq, List, [], ◌∷◌, ◌++◌, map, length, position, slice_index_or, Option, None, Some}
use Rattle.std.specs.List.{AllByRecursion}
use Rattle.std.specs.Map.{lookup}
use Rattle.cov_base.specs.Rows.{has_node}
use Rattle.cov_dd.specs.declared.triple.Triple.{Triple}
use Rattle.cov_tree.specs.declared.entry.Entry.{Entry}
use Rattle.cov_tree.specs.declared.entry.Place.{Place}
use Rattle.cov_tree.specs.declared.dated.DatedEntry.{DatedEntry}
use Rattle.cov_tree.specs.Dated.{entry_at, newest_entry, planned, AreUntil}
use Rattle.cov_tree.specs.Entries.{rows_in, nodes_of, AllAreWithin, AreWithin}
use Rattle.cov_tree.specs.Noted.{Noted, AreNoted, ArePlanNoted}
use Rattle.cov_tree.specs.Renumbered.{entry_visibilities, AreKeptNodes, AreNodes}

-- a node stands at a place among others, or isn't there
abbrev pub IsPlaceOf : ℕ → List DatedEntry → Option ℕ → Type 0
IsPlaceOf node es None = has_node node (nodes_of (map newest_entry es)) ≡ false
IsPlaceOf node es (Some i) = (i < length es) × ((d : DatedEntry) → nat_eq (slice_index_or es i d).node node ≡ true)

-- an index has the place of each node among others, and no other number
abbrev pub IsIndex : List (ℕ × ℕ) → List DatedEntry → Type 0
IsIndex index es = (n : ℕ) → lookup (nat_eq n) index ≡ position (λ m. nat_eq m n) (nodes_of (map newest_entry es))

-- nodes were noted at each place that they have at any position
abbrev pub AreAllNoted : Noted → List DatedEntry → Type 0
AreAllNoted noted es = AllByRecursion (λ e. (p : ℕ) → AreNoted noted e.node (entry_at p e).places) es

-- a node has these places from a position on, and before it those that it had
pub record IsChanged (at : ℕ) (given : List Place) (old new : DatedEntry) : Type 0 where
  pub node : new.node ≡ old.node
  pub kind : new.kind ≡ old.kind
  pub places : new.places ≡ given
  pub from : new.from ≡ at
  pub before : (p : ℕ) → p < at → (entry_at p new).places ≡ (entry_at p old).places
  pub kept : (table : List Triple) → AreNodes table (entry_visibilities old) → AreWithin table given → AreNodes table (entry_visibilities new)

-- a node is made at a position and stands behind the others
pub record IsPut (at : ℕ) (entry : Entry) (old new : List DatedEntry) : Type 0 where
  pub made : DatedEntry
  pub is : new ≡ old ++ made ∷ []
  pub newest : newest_entry made ≡ entry
  pub from : made.from ≡ at
  pub older : made.older.lists ≡ []

-- nodes have the rows that others have, in each table, and the visibilities of no others
pub record AreAlike (es fs : List Entry) : Type 0 where
  pub rows : (table : List Triple) (c : List Bool) → rows_in table c fs ≡ rows_in table c es
  pub within : (table : List Triple) → AllAreWithin table es → AllAreWithin table fs

-- nodes get those of a plan from a position on, and are as they were before it
pub record AreChanged (at : ℕ) (plan : List Entry) (old new : List DatedEntry) : Type 0 where
  pub newest : map newest_entry new ≡ planned plan (map newest_entry old)
  pub before : (p : ℕ) → p < at → AreAlike (map (entry_at p) old) (map (entry_at p) new)
  pub kept : (table : List Triple) → AreKeptNodes table old → AllAreWithin table plan → AreKeptNodes table new
  pub until : AreUntil at old → AreUntil at new
  pub noted : (all : Noted) → ArePlanNoted all plan → AreAllNoted all old → AreAllNoted all new
