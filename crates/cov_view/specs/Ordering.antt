-- Rows of a view by their nodes in order, and what is wrong with them.
use Rattle.std.specs.Prelude.{◌≡◌, ℕ, Bool, false, ◌&&◌, not, List, [], ◌∷◌, length, map, Option, None, Some, option_map}
use Rattle.std.specs.List.{find}
use Rattle.std.specs.Map.{lookup}
use Rattle.std.specs.Option.{option_map_or, option_or}
use Rattle.std.specs.Str.{bytes_eq}
use Rattle.cov_base.specs.declared.number.NodeRef.TheVariants as nodes
use Rattle.cov_base.specs.Faults.{in_node_order}
use Rattle.cov_view.specs.Keys.{is_child_key, Places}
use Rattle.cov_view.specs.References.{same_node}
use Rattle.cov_view.specs.Seen.{row_at, is_there, lies_within}
use Rattle.cov_view.specs.Soundness.{old_row}
use Rattle.cov_view.specs.declared.fault.Fault.{Fault}
use Rattle.cov_view.specs.declared.fault.Fault.TheVariants as faults
use Rattle.cov_view.specs.declared.row.ViewRow.{ViewRow}

-- the nodes of rows in rising order
abbrev pub nodes_of : List ViewRow → List ℕ
nodes_of rows = map (λ r. r.node) (in_node_order (map old_row rows))

-- the row of a node that a history has
abbrev pub old_at : List ViewRow → ℕ → Option ViewRow
old_at rows node = row_at rows (nodes.Old node)

-- whether two nodes have one directory and one name
abbrev pub share_place : List ViewRow → ℕ → ℕ → Bool
share_place rows x y = option_map_or (λ r. option_map_or (λ s. same_node r.parent s.parent && bytes_eq r.name s.name) (old_at rows y) false) (old_at rows x) false

-- the first two of these nodes with one directory and one name
abbrev pub clash_among : List ViewRow → List ℕ → Option Fault
clash_among rows [] = None
clash_among rows (x ∷ xs) = option_or (option_map (λ y. faults.Clash x y) (find (share_place rows x) xs)) (clash_among rows xs)

-- whether the directory of a node isn't there
abbrev pub is_orphan : List ViewRow → ℕ → Bool
is_orphan rows node = option_map_or (λ r. not (is_there rows r.parent)) (old_at rows node) false

-- whether the root isn't reached from a node
abbrev pub is_lost : List ViewRow → ℕ → Bool
is_lost rows node = not (lies_within rows (length rows) (nodes.Old 0) (nodes.Old node))

-- the first of these nodes whose directory isn't there
abbrev pub orphan_among : List ViewRow → List ℕ → Option Fault
orphan_among rows order = option_map (λ x. faults.Orphan x) (find (is_orphan rows) order)

-- the first of these nodes from which the root isn't reached
abbrev pub loop_among : List ViewRow → List ℕ → Option Fault
loop_among rows order = option_map (λ x. faults.Loop x) (find (is_lost rows) order)

-- the first fault of rows, whose nodes are given in rising order
abbrev pub fault_among : List ViewRow → List ℕ → Option Fault
fault_among rows order = option_or (clash_among rows order) (option_or (orphan_among rows order) (loop_among rows order))

-- places have the first of these nodes for each directory and name
abbrev pub ArePlaces : List ViewRow → List ℕ → Places → Type 0
ArePlaces rows done places = (x : ℕ) (r : ViewRow) → old_at rows x ≡ Some r → lookup (is_child_key r.parent r.name) places ≡ find (share_place rows x) done
