-- The nodes of a store, each with its places, and the rows that they have on a choice.
pub use Rattle.cov_tree.specs.Places.{row_at, rows_of, is_one_place, has_place, AreApart, AreWithin}
use Rattle.std.specs.Prelude.{ℕ, Bool, List, [], ◌∷◌, ◌++◌, map}
use Rattle.std.specs.List.{AllByRecursion}
use Rattle.cov_base.specs.Rows.{Row}
use Rattle.cov_base.specs.declared.number.Kind.{Kind}
use Rattle.cov_dd.specs.declared.triple.Triple.{Triple}
use Rattle.cov_tree.specs.declared.entry.Entry.{Entry}

-- the rows that nodes have on a choice
abbrev pub rows_in : List Triple → List Bool → List Entry → List Row
rows_in table c [] = []
rows_in table c (e ∷ es) = rows_of table c e.node e.kind e.places ++ rows_in table c es

-- the numbers of the nodes, in order
abbrev pub nodes_of : List Entry → List ℕ
nodes_of es = map (λ e. e.node) es

-- the nodes with their kinds, in order
abbrev pub kinds_of : List Entry → List (ℕ × Kind)
kinds_of es = map (λ e. (e.node, e.kind)) es

-- the visibilities of all places of nodes are nodes of a table
abbrev pub AllAreWithin : List Triple → List Entry → Type 0
AllAreWithin table es = AllByRecursion (λ e. AreWithin table e.places) es
