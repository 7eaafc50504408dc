-- The nodes of a store at each position, and as a plan has them.
use Rattle.std.specs.Prelude.{◌≡◌, ℕ, ◌<◌, ◌≤◌, true, nat_eq, nat_le, Bool, List, [], ◌∷◌, ◌++◌, map, length, if◌then◌else◌}
use Rattle.std.specs.List.{filter, AllByRecursion}
use Rattle.cov_base.specs.Older.{value_at}
use Rattle.cov_base.specs.Rows.{Row}
use Rattle.cov_base.specs.declared.number.Kind.{Kind}
use Rattle.cov_dd.specs.declared.triple.Triple.{Triple}
use Rattle.cov_tree.specs.declared.entry.Entry.{Entry}
use Rattle.cov_tree.specs.declared.dated.DatedEntry.{DatedEntry}
use Rattle.cov_tree.specs.Entries.{rows_in, nodes_of, kinds_of}
use Rattle.cov_tree.specs.Noted.{Noted, ArePlanNoted}

-- the position of the newest change, each node with its own changes, in the order in which the nodes were made, for how many
-- nodes more there is room, and which nodes were noted under each name in each directory
pub record Dated : Type 0 where
  pub from : ℕ
  pub entries : List DatedEntry
  pub room : ℕ
  pub noted : Noted

-- a node as it is at a position
abbrev pub entry_at : ℕ → DatedEntry → Entry
entry_at p e = record { node = e.node; kind = e.kind; places = value_at [] ((e.from, e.places) ∷ e.older.lists) p }

-- a node since its newest change
abbrev pub newest_entry : DatedEntry → Entry
newest_entry e = record { node = e.node; kind = e.kind; places = e.places }

-- the newest nodes
abbrev pub newest_nodes : Dated → List Entry
newest_nodes d = map newest_entry d.entries

-- the nodes at a position
abbrev pub nodes_at : ℕ → Dated → List Entry
nodes_at p d = if nat_le d.from p then newest_nodes d else map (entry_at p) d.entries

-- the rows on a choice at a position
abbrev pub rows_at : List Triple → List Bool → ℕ → Dated → List Row
rows_at table c p d = rows_in table c (nodes_at p d)

-- the rows of these nodes, in the order of the nodes
abbrev pub among : List ℕ → List Row → List Row
among [] rows = []
among (n ∷ ns) rows = filter (λ r. nat_eq r.node n) rows ++ among ns rows

-- those on a choice at a position
abbrev pub rows_among : List Triple → List Bool → ℕ → List ℕ → Dated → List Row
rows_among table c p ns d = among ns (rows_at table c p d)

-- no node has a change beyond a position
abbrev pub AreUntil : ℕ → List DatedEntry → Type 0
AreUntil p es = AllByRecursion (λ e. e.from ≤ p) es

-- the numbers of all nodes that were ever made, in order, and the same with their kinds
abbrev pub nodes_in : Dated → List ℕ
nodes_in d = nodes_of (newest_nodes d)

abbrev pub kinds_in : Dated → List (ℕ × Kind)
kinds_in d = kinds_of (newest_nodes d)

-- a node with the places of another
abbrev pub with_places_of : Entry → Entry → Entry
with_places_of f e = record { node = e.node; kind = e.kind; places = f.places }

-- the nodes with another one: the node of its number gets its places, or it stands behind the others
abbrev pub with_entry : Entry → List Entry → List Entry
with_entry f [] = f ∷ []
with_entry f (e ∷ es) = if nat_eq e.node f.node then with_places_of f e ∷ es else e ∷ with_entry f es

-- the nodes with those that a plan changes or makes, in order
abbrev pub planned : List Entry → List Entry → List Entry
planned [] es = es
planned (f ∷ plan) es = planned plan (with_entry f es)

-- the rows on a choice as they would be with a plan installed
abbrev pub rows_with : List Triple → List Bool → List Entry → Dated → List Row
rows_with table c plan d = rows_in table c (planned plan (newest_nodes d))

-- the numbers of all nodes with a plan, in order, and the same with their kinds
abbrev pub nodes_with : List Entry → Dated → List ℕ
nodes_with plan d = nodes_of (planned plan (newest_nodes d))

abbrev pub kinds_with : List Entry → Dated → List (ℕ × Kind)
kinds_with plan d = kinds_of (planned plan (newest_nodes d))

-- a node has room for a change, if it has this number
abbrev pub HasRoomFor : ℕ → DatedEntry → Type 0
HasRoomFor node e = nat_eq e.node node ≡ true → 0 < e.older.room

-- each node that a plan changes has room for it
abbrev pub HaveRoomFor : List Entry → List DatedEntry → Type 0
HaveRoomFor plan es = AllByRecursion (λ f. AllByRecursion (HasRoomFor f.node) es) plan

-- there is room to install a plan
pub record HasRoom (plan : List Entry) (d : Dated) : Type 0 where
  pub made : length plan ≤ d.room
  pub changed : HaveRoomFor plan d.entries
  pub noted : ArePlanNoted d.noted plan

-- a node with no room
abbrev pub with_no_room : DatedEntry → DatedEntry
with_no_room e = record { node = e.node; kind = e.kind; from = e.from; places = e.places; older = record { lists = e.older.lists; room = 0 } }

-- all but the room and what is noted
abbrev pub without_room : Dated → Dated
without_room d = record { from = d.from; entries = map with_no_room d.entries; room = 0; noted = [] }
