-- The tree of a view by its references.
use Rattle.std.specs.Prelude.{◌≡◌, true, ℕ, zero, suc, List, [], ◌∷◌, ◌++◌, length, Option, Some, None}
use Rattle.std.specs.Global.{Vec}
use Rattle.std.specs.List.{flat_map, AllByRecursion}
use Rattle.cov_base.specs.declared.number.Kind.{Kind}
use Rattle.cov_base.specs.declared.number.Kind.TheVariants.{File, Dir}
use Rattle.cov_base.specs.declared.number.NodeRef.{NodeRef}
use Rattle.cov_base.specs.Spelling.{is_name}
use Rattle.cov_view.specs.Seen.{row_at}
use Rattle.cov_view.specs.Tree.{joined, with_tree_row}
use Rattle.cov_view.specs.declared.line.ViewLine.{ViewLine}
use Rattle.cov_view.specs.declared.row.ViewRow.{ViewRow}
use Rattle.cov_view.specs.declared.tree.Content.{Content}
use Rattle.cov_view.specs.declared.tree.TreeRow.{TreeRow}

-- goes on from the parent of a row, if there is one, with its name before the path
abbrev pub climbed_by : Option ViewRow → (NodeRef → List ℕ → List ℕ) → List ℕ → List ℕ
climbed_by None go path = path
climbed_by (Some r) go path = go r.parent (joined r.name path)

-- the path from the root to a node, before a path below it, by at most so many steps to the parent; the root has no row
abbrev pub path_by : List ViewRow → ℕ → NodeRef → List ℕ → List ℕ
path_by rows zero node path = path
path_by rows (suc steps) node path = climbed_by (row_at rows node) (path_by rows steps) path

-- lines, each followed by byte 10
abbrev pub ended_lines : List ViewLine → List ℕ
ended_lines lines = flat_map (λ l. l.text ++ 10 ∷ []) lines

-- the bytes of a file; a directory has none
abbrev pub file_bytes : Kind → List ViewLine → List ℕ
file_bytes File lines = ended_lines lines
file_bytes Dir lines = []

-- a node of a view as its tree has it
abbrev pub tree_row : List ViewRow → ViewRow → TreeRow
tree_row rows r = record { path = path_by rows (length rows) r.node []; kind = r.kind; bytes = file_bytes r.kind r.lines }

-- rows of a tree with those of more nodes
abbrev pub with_view_rows : List ViewRow → List ViewRow → List TreeRow → List TreeRow
with_view_rows rows [] done = done
with_view_rows rows (r ∷ rs) done = with_view_rows rows rs (with_tree_row (tree_row rows r) done)

-- the tree of a view
abbrev pub tree_in : List ViewRow → List TreeRow
tree_in rows = with_view_rows rows rows []

-- the names of rows are spelt as names
abbrev pub AreNamed : List ViewRow → Type 0
AreNamed rows = AllByRecursion (λ r. is_name r.name ≡ true) rows

-- what is found at a path
abbrev pub found_row : Vec ℕ × Content → TreeRow
found_row e = record { path = e.0.items; kind = e.1.kind; bytes = e.1.bytes }
