-- What nodes are found by.
use Rattle.std.specs.Global.{Vec}
use Rattle.std.specs.Prelude.{◌≡◌, Bool, true, false, ◌&&◌, ℕ, List, [], ◌∷◌, ◌++◌, map, Option, Some, None}
use Rattle.std.specs.List.{AllByRecursion}
use Rattle.std.specs.Map.{lookup}
use Rattle.std.specs.Str.{bytes_eq}
use Rattle.cov_base.specs.declared.number.NodeRef.{NodeRef}
use Rattle.cov_view.specs.References.{same_node}
use Rattle.cov_view.specs.Seen.{has_row}
use Rattle.cov_view.specs.declared.children.ChildKey.{ChildKey}
use Rattle.cov_view.specs.declared.node_index.NodeIndex.{NodeIndex}
use Rattle.cov_view.specs.declared.row.ViewRow.{ViewRow}

-- whether a key is that of a name in a directory
abbrev pub is_child_key : NodeRef → List ℕ → ChildKey NodeRef (Vec ℕ) → Bool
is_child_key dir name key = same_node key.dir dir && bytes_eq key.name.items name

-- whether a row is that of a name in a directory
abbrev pub is_child : NodeRef → List ℕ → ViewRow → Bool
is_child dir name r = same_node r.parent dir && bytes_eq r.name name

-- the node of each name in each directory
abbrev pub ChildNodes : Type 0
ChildNodes = List (ChildKey NodeRef (Vec ℕ) × NodeRef)

-- a number for a name in a directory
abbrev pub Places : Type 0
Places = List (ChildKey NodeRef (Vec ℕ) × ℕ)

-- the node that an index has for a name in a directory
abbrev pub indexed : ChildNodes → NodeRef → List ℕ → Option NodeRef
indexed nodes dir name = lookup (is_child_key dir name) nodes

-- whether a row is that of a node, if there is one
abbrev pub is_row_of : Option NodeRef → ViewRow → Bool
is_row_of None r = false
is_row_of (Some node) r = same_node r.node node

-- an index has the node of each name in each directory, and no other node there has that name
abbrev pub AreChildren : List ViewRow → ChildNodes → Type 0
AreChildren rows nodes =
    (dir : NodeRef) (name : List ℕ)
    → AllByRecursion (λ r. is_child dir name r ≡ is_row_of (indexed nodes dir name) r) rows
    × ((node : NodeRef) → indexed nodes dir name ≡ Some node → has_row rows node ≡ true)

-- what an index says of rows, which is nothing once it was given up
abbrev pub IsIndex : Bool → List ViewRow → ChildNodes → Type 0
IsIndex true rows nodes = AreChildren rows nodes
IsIndex false rows nodes = Unit {0}

-- an index no longer has a name in a directory, and has each other as before
abbrev pub RemovesName : NodeRef → List ℕ → ChildNodes → ChildNodes → Type 0
RemovesName dir name old new =
    (indexed new dir name ≡ None)
    × ((other : NodeRef) (text : List ℕ) → (same_node dir other && bytes_eq name text) ≡ false → indexed new other text ≡ indexed old other text)

-- an index of whatever rows that don't have a node is one of these with the node's row, in a directory and under a name
abbrev pub JoinsNames : NodeRef → NodeRef → List ℕ → Bool → ChildNodes → Bool → ChildNodes → Type 0
JoinsNames node dir name kept nodes now_kept now =
    (rows : List ViewRow) (r : ViewRow) → r.node ≡ node → r.parent ≡ dir → r.name ≡ name → has_row rows node ≡ false
    → IsIndex kept rows nodes → IsIndex now_kept (rows ++ r ∷ []) now

-- an index has the place of each row, and the names of all
abbrev pub IsIndexOf : NodeIndex → List ViewRow → Type 0
IsIndexOf index rows = (index.places.keys ≡ map (λ r. r.node) rows) × IsIndex index.children.is_kept rows index.children.nodes.entries

-- an index of whatever rows that don't have a node becomes one of these with the node's row
abbrev pub JoinsIndex : NodeRef → NodeRef → List ℕ → NodeIndex → NodeIndex → Type 0
JoinsIndex node dir name old new =
    (rows : List ViewRow) (r : ViewRow) → r.node ≡ node → r.parent ≡ dir → r.name ≡ name → has_row rows node ≡ false
    → IsIndexOf old rows → IsIndexOf new (rows ++ r ∷ [])
