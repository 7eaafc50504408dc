-- The visibilities of nodes at all their positions, and others in their places.
use Rattle.std.specs.Prelude.{◌≡◌, ℕ, ◌<◌, Bool, List, [], ◌∷◌, ◌++◌, length, map, reverse, set, slice_index_or, take}
use Rattle.cov_dd.specs.declared.triple.Triple.{Triple}
use Rattle.std.specs.List.{AllByRecursion}
use Rattle.cov_dd.specs.Diagrams.{diagram_size}
use Rattle.cov_dd.specs.Sweeps.{AreRenumbered}
use Rattle.cov_tree.specs.declared.entry.Place.{Place}
use Rattle.cov_tree.specs.declared.dated.DatedEntry.{DatedEntry}
use Rattle.cov_tree.specs.Carried.{AreNodesAt}
use Rattle.cov_tree.specs.Dated.{Dated, rows_at}

abbrev pub vis_of : Place → ℕ
vis_of p = p.vis

abbrev pub having_vis : ℕ → Place → Place
having_vis n p = record { parent = p.parent; name = p.name; vis = n }

-- the numbers of all items, in order
abbrev pub all_numbers : {X : Type 0} → (X → List ℕ) → List X → List ℕ
all_numbers numbers [] = []
all_numbers numbers (x ∷ xs) = numbers x ++ all_numbers numbers xs

-- the visibilities of places
abbrev pub visibilities_of : List Place → List ℕ
visibilities_of places = map vis_of places

-- places without their visibilities
abbrev pub without_vis : List Place → List Place
without_vis places = map (having_vis 0) places

-- those of whole lists of places with their positions
abbrev pub list_visibilities : ℕ × List Place → List ℕ
list_visibilities l = visibilities_of l.1

abbrev pub list_without_vis : ℕ × List Place → ℕ × List Place
list_without_vis l = (l.0, without_vis l.1)

-- the visibilities of a node since its newest change, and those that it had before, the oldest first
abbrev pub entry_visibilities : DatedEntry → List ℕ
entry_visibilities e = visibilities_of e.places ++ all_numbers list_visibilities (reverse e.older.lists)

abbrev pub entry_without_vis : DatedEntry → DatedEntry
entry_without_vis e = record {
  node = e.node;
  kind = e.kind;
  from = e.from;
  places = without_vis e.places;
  older = record { lists = map list_without_vis e.older.lists; room = e.older.room };
}

-- every visibility that is kept, in one order
abbrev pub visibilities : Dated → List ℕ
visibilities d = all_numbers entry_visibilities d.entries

-- numbers are nodes of a table
abbrev pub AreNodes : List Triple → List ℕ → Type 0
AreNodes table ns = AllByRecursion (λ n. n < diagram_size table) ns

-- every visibility that nodes have or had is a node of a table
abbrev pub AreKeptNodes : List Triple → List DatedEntry → Type 0
AreKeptNodes table es = AreNodes table (all_numbers entry_visibilities es)

-- all but the visibilities
abbrev pub without_visibilities : Dated → Dated
without_visibilities d = record { from = d.from; entries = map entry_without_vis d.entries; room = d.room; noted = d.noted }

-- an item has the first numbers of a list in the places of its own, and all else is as it was
pub record Gets {X Y : Type 0} (numbers : X → List ℕ) (rest : X → Y) (old new : X) (ns : List ℕ) : Type 0 where
  pub got : numbers new ≡ take (length (numbers old)) ns
  pub same : rest new ≡ rest old

-- items have the numbers of a list, one item after another
abbrev pub AllGet : {X Y : Type 0} → (X → List ℕ) → (X → Y) → List X → List X → List ℕ → Type 0
AllGet numbers rest old new ns = Gets (all_numbers numbers) (map rest) old new ns

-- where the visibilities have the same options and values under their new numbers, the rows are the same on each choice at each
-- position, and the visibilities are nodes of the table
pub record HasRowsOf (ts us : List Triple) (old new : Dated) : Type 0 where
  pub rows : (c : List Bool) (p : ℕ) → rows_at us c p new ≡ rows_at ts c p old
  pub within : AreNodesAt us new

abbrev pub KeepsRows : Dated → Dated → Type 0
KeepsRows old new = (ts us : List Triple) → AreRenumbered ts us (visibilities old) (visibilities new) → HasRowsOf ts us old new

-- the visibilities of the list at an index, from 0 for the oldest
abbrev pub visibilities_at : ℕ → List (ℕ × List Place) → List ℕ
visibilities_at index lists = list_visibilities (slice_index_or (reverse lists) index (0, []))

-- the list at an index, from 0 for the oldest, has other visibilities
pub record GetsAt (index : ℕ) (old new : List (ℕ × List Place)) (ns : List ℕ) : Type 0 where
  pub list : ℕ × List Place
  pub gets : Gets list_visibilities list_without_vis (slice_index_or (reverse old) index (0, [])) list ns
  pub is : reverse new ≡ set (reverse old) index list
