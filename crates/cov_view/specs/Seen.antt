-- What a view keeps, by references, and what edits do to it.
use Rattle.std.specs.Prelude.{◌≡◌, ℕ, zero, suc, ◌+◌, Bool, true, false, ◌&&◌, ◌||◌, not, List, [], ◌∷◌, ◌++◌, length, Option, Some, None, is_some, option_map, if◌then◌else◌}
use Rattle.std.specs.Option.{option_map_or}
use Rattle.std.specs.Str.{bytes_eq}
use Rattle.std.specs.List.{filter, find, list_any}
use Rattle.cov_base.specs.declared.number.Kind.{Kind}
use Rattle.cov_base.specs.declared.number.Kind.TheVariants as kinds
use Rattle.cov_base.specs.declared.number.NodeRef.{NodeRef}
use Rattle.cov_base.specs.declared.number.NodeRef.TheVariants as nodes
use Rattle.cov_base.specs.declared.number.LineRef.{LineRef}
use Rattle.cov_base.specs.declared.number.LineRef.TheVariants as lines
use Rattle.cov_edit.specs.declared.edit.Edit.{Edit}
use Rattle.cov_edit.specs.declared.edit.Edit.TheVariants as edits
use Rattle.cov_base.specs.declared.file_row.FileRow.{FileRow}
use Rattle.cov_view.specs.References.{is_root, is_head, is_dir_kind, same_node, is_new_below}
use Rattle.cov_view.specs.Lines.{is_among, after_ref, without_ref}
pub use Rattle.cov_view.specs.Lines.{old_line}
use Rattle.cov_view.specs.declared.fault.EditFault.{EditFault}
use Rattle.cov_view.specs.declared.fault.EditFault.TheVariants as faults
use Rattle.cov_view.specs.declared.line.ViewLine.{ViewLine}
use Rattle.cov_view.specs.declared.row.ViewRow.{ViewRow}

-- the rows but the root's, each with its lines, and how many nodes and lines the edits applied so far have made
pub record Seen : Type 0 where
  pub rows : List ViewRow
  pub nodes_made : ℕ
  pub lines_made : ℕ

-- the row of a node
abbrev pub row_at : List ViewRow → NodeRef → Option ViewRow
row_at rows node = find (λ r. same_node r.node node) rows

-- whether a node has a row
abbrev pub has_row : List ViewRow → NodeRef → Bool
has_row rows node = list_any (λ r. same_node r.node node) rows

-- the kind of a node, if it is there
abbrev pub kind_in : List ViewRow → NodeRef → Option Kind
kind_in rows node = if is_root node then Some kinds.Dir else option_map (λ r. r.kind) (row_at rows node)

-- whether a directory has a node of that name
abbrev pub has_child : List ViewRow → NodeRef → List ℕ → Bool
has_child rows dir name = list_any (λ r. same_node r.parent dir && bytes_eq r.name name) rows

-- the node of that name in a directory
abbrev pub child_in : List ViewRow → NodeRef → List ℕ → Option NodeRef
child_in rows dir name = option_map (λ r. r.node) (find (λ r. same_node r.parent dir && bytes_eq r.name name) rows)

-- goes on from a node, if there is one
abbrev pub from_node : Option NodeRef → (NodeRef → Option NodeRef) → Option NodeRef
from_node None go = None
from_node (Some node) go = go node

-- the node to which these names lead from a directory
abbrev pub node_at : List ViewRow → NodeRef → List (List ℕ) → Option NodeRef
node_at rows node [] = Some node
node_at rows node (name ∷ names) = from_node (child_in rows node name) (λ child. node_at rows child names)

-- the lines of a row, if there is one and it is a file's
abbrev pub file_lines : Option ViewRow → Option (List ViewLine)
file_lines None = None
file_lines (Some r) = if is_dir_kind r.kind then None else Some r.lines

-- the lines of a file, if it is there
abbrev pub lines_in : List ViewRow → NodeRef → Option (List ViewLine)
lines_in rows file = file_lines (row_at rows file)

-- whether a node has a line
abbrev pub has_line_in : List ViewRow → NodeRef → LineRef → Bool
has_line_in rows file line = option_map_or (λ r. is_among line r.lines) (row_at rows file) false

-- the refusal of a new node in a directory, by the kind of what is to be the directory, and whether the name is taken
abbrev pub new_fault : Option Kind → Bool → Option EditFault
new_fault None taken = Some faults.NoSuchNode
new_fault (Some kinds.File) taken = Some faults.NotDirectory
new_fault (Some kinds.Dir) taken = if taken then Some faults.NameTaken else None

-- the refusal of an edit at a line of a file, by the kind of what is to be the file, and whether the line can be had
abbrev pub line_fault : Option Kind → Bool → Option EditFault
line_fault None had = Some faults.NoSuchNode
line_fault (Some kinds.Dir) had = Some faults.NotFile
line_fault (Some kinds.File) had = if had then None else Some faults.NoSuchLine

-- whether a node is there
abbrev pub is_there : List ViewRow → NodeRef → Bool
is_there rows node = is_some (kind_in rows node)

-- whether a kind is there and is that of directories
abbrev pub kind_is_dir : Option Kind → Bool
kind_is_dir None = false
kind_is_dir (Some k) = is_dir_kind k

-- whether the directory of a row, if there is one, has a node of that name
abbrev pub has_child_beside : List ViewRow → Option ViewRow → List ℕ → Bool
has_child_beside rows o name = option_map_or (λ r. has_child rows r.parent name) o false

-- whether a directory has a node with the name of a row, if there is one
abbrev pub has_child_of : List ViewRow → NodeRef → Option ViewRow → Bool
has_child_of rows dir o = option_map_or (λ r. has_child rows dir r.name) o false

-- whether a node is another, or lies below it by at most so many steps to the parent
abbrev pub lies_within : List ViewRow → ℕ → NodeRef → NodeRef → Bool
lies_within rows zero top node = same_node node top
lies_within rows (suc steps) top node = same_node node top || option_map_or (λ r. lies_within rows steps top r.parent) (row_at rows node) false

-- whether some node has a node as its parent
abbrev pub has_children : List ViewRow → NodeRef → Bool
has_children rows node = list_any (λ r. same_node r.parent node) rows

-- the refusal of another name for a node
abbrev pub rename_fault : List ViewRow → NodeRef → List ℕ → Option EditFault
rename_fault rows node name =
    if is_root node then Some faults.IsRoot
    else if not (is_there rows node) then Some faults.NoSuchNode
    else if has_child_beside rows (row_at rows node) name then Some faults.NameTaken
    else None

-- the refusal of another directory for a node
abbrev pub move_fault : List ViewRow → NodeRef → NodeRef → Option EditFault
move_fault rows node parent =
    if is_root node then Some faults.IsRoot
    else if not (is_there rows node) then Some faults.NoSuchNode
    else if not (is_there rows parent) then Some faults.NoSuchNode
    else if not (kind_is_dir (kind_in rows parent)) then Some faults.NotDirectory
    else if lies_within rows (length rows) node parent then Some faults.IntoItself
    else if has_child_of rows parent (row_at rows node) then Some faults.NameTaken
    else None

-- the refusal of taking a node out
abbrev pub remove_fault : List ViewRow → NodeRef → Option EditFault
remove_fault rows node =
    if is_root node then Some faults.IsRoot
    else if not (is_there rows node) then Some faults.NoSuchNode
    else if has_children rows node then Some faults.NotEmpty
    else None

-- the refusal of an edit by references
abbrev pub seen_fault : List ViewRow → Edit → Option EditFault
seen_fault rows (edits.New kind parent name) = new_fault (kind_in rows parent) (has_child rows parent name)
seen_fault rows (edits.Insert file after text) = line_fault (kind_in rows file) (is_head after || has_line_in rows file after)
seen_fault rows (edits.Delete file line) = line_fault (kind_in rows file) (not (is_head line) && has_line_in rows file line)
seen_fault rows (edits.Rename node name) = rename_fault rows node name
seen_fault rows (edits.Move node parent) = move_fault rows node parent
seen_fault rows (edits.Remove node) = remove_fault rows node

-- a row with other lines
abbrev pub with_lines_by : (List ViewLine → List ViewLine) → ViewRow → ViewRow
with_lines_by f r = record { node = r.node; kind = r.kind; parent = r.parent; name = r.name; lines = f r.lines }

-- a row with another name
abbrev pub with_name_by : List ℕ → ViewRow → ViewRow
with_name_by name r = record { node = r.node; kind = r.kind; parent = r.parent; name = name; lines = r.lines }

-- a row with another parent
abbrev pub with_parent_by : NodeRef → ViewRow → ViewRow
with_parent_by parent r = record { node = r.node; kind = r.kind; parent = parent; name = r.name; lines = r.lines }

-- the rows without that of a node
abbrev pub without_node : NodeRef → List ViewRow → List ViewRow
without_node node rows = filter (λ r. not (same_node r.node node)) rows

-- the rows with that of a node changed
abbrev pub at_row : NodeRef → (ViewRow → ViewRow) → List ViewRow → List ViewRow
at_row node f [] = []
at_row node f (r ∷ rows) = if same_node r.node node then f r ∷ rows else r ∷ at_row node f rows

-- the rows with a line that a history has at the end of a file
abbrev pub with_file_row : ℕ → List ViewRow → FileRow → List ViewRow
with_file_row file rows r = at_row (nodes.Old file) (with_lines_by (λ ls. ls ++ old_line r ∷ [])) rows

-- what is seen after an edit
abbrev pub seen_after : Seen → Edit → Seen
seen_after s (edits.New kind parent name) = record {
  rows = s.rows ++ record { node = nodes.New s.nodes_made; kind = kind; parent = parent; name = name; lines = [] } ∷ [];
  nodes_made = s.nodes_made + 1;
  lines_made = s.lines_made;
}
seen_after s (edits.Insert file after text) = record {
  rows = at_row file (with_lines_by (after_ref after (record { line = lines.New s.lines_made; text = text }))) s.rows;
  nodes_made = s.nodes_made;
  lines_made = s.lines_made + 1;
}
seen_after s (edits.Delete file line) = record {
  rows = at_row file (with_lines_by (without_ref line)) s.rows;
  nodes_made = s.nodes_made;
  lines_made = s.lines_made;
}
seen_after s (edits.Rename node name) = record {
  rows = at_row node (with_name_by name) s.rows;
  nodes_made = s.nodes_made;
  lines_made = s.lines_made;
}
seen_after s (edits.Move node parent) = record {
  rows = at_row node (with_parent_by parent) s.rows;
  nodes_made = s.nodes_made;
  lines_made = s.lines_made;
}
seen_after s (edits.Remove node) = record {
  rows = without_node node s.rows;
  nodes_made = s.nodes_made;
  lines_made = s.lines_made;
}

-- no node has two rows
abbrev pub StandOnce : List ViewRow → Type 0
StandOnce [] = Unit {0}
StandOnce (r ∷ rows) = (has_row rows r.node ≡ false) × StandOnce rows

-- rows of nodes that each stand once, none of them the root, those that edits made being the first so many
abbrev pub AreRows : ℕ → List ViewRow → Type 0
AreRows made [] = Unit {0}
AreRows made (r ∷ rows) = (is_root r.node ≡ false) × (is_new_below made r.node ≡ true) × (has_row rows r.node ≡ false) × AreRows made rows
