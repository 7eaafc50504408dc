-- The numbers of nodes and lines, and the addresses of lines.
use Rattle.std.specs.Prelude.{ℕ, ◌+◌, List, [], ◌∷◌, length, Option, Some, None}
use Rattle.std.specs.List.{filter_map}
use Rattle.cov_base.specs.Addresses.{address_in, with_lines}
use Rattle.cov_base.specs.Rows.{RowChange, Created, Renamed, Moved, Removed}
use Rattle.cov_base.specs.declared.number.NodeRef.{NodeRef}
use Rattle.cov_base.specs.declared.number.NodeRef.TheVariants as nodes
use Rattle.cov_base.specs.declared.number.LineRef.{LineRef}
use Rattle.cov_base.specs.declared.number.LineRef.TheVariants as lines
use Rattle.cov_edit.specs.declared.edit.Edit.{Edit}
use Rattle.cov_edit.specs.declared.edit.Edit.TheVariants as edits
use Rattle.cov_edit.specs.declared.command.Command.{Command}
use Rattle.cov_edit.specs.declared.command.Command.TheVariants as commands
use Rattle.cov_edit.specs.Sides.{unsided}

-- how many nodes a history made, without the root, and the addresses of its lines 1, 2 and so on
pub record Numbers : Type 0 where
  pub nodes : ℕ
  pub addresses : List (List ℕ)

-- the numbers before any history
abbrev pub no_numbers : Numbers
no_numbers = record { nodes = 0; addresses = [] }

-- the number of the node that a reference names, n nodes having been made before
abbrev pub node_number : ℕ → NodeRef → ℕ
node_number n (nodes.Old x) = x
node_number n (nodes.New i) = n + 1 + i

-- the number of the line that a reference names, n lines having been made before
abbrev pub line_number : ℕ → LineRef → ℕ
line_number n (lines.Old x) = x
line_number n (lines.New i) = n + 1 + i

-- how many nodes there are after an edit, of how many there were before it
abbrev pub node_count_after : ℕ → Edit → ℕ
node_count_after node (edits.New kind parent name) = node + 1
node_count_after node (edits.Insert file after text) = node
node_count_after node (edits.Delete file line) = node
node_count_after node (edits.Rename which name) = node
node_count_after node (edits.Move which parent) = node
node_count_after node (edits.Remove which) = node

-- how many lines there are after an edit, of how many there were before it
abbrev pub line_count_after : ℕ → Edit → ℕ
line_count_after line (edits.New kind parent name) = line
line_count_after line (edits.Insert file after text) = line + 1
line_count_after line (edits.Delete file which) = line
line_count_after line (edits.Rename node name) = line
line_count_after line (edits.Move node parent) = line
line_count_after line (edits.Remove node) = line

-- how many nodes edits make
abbrev pub nodes_made : List Edit → ℕ
nodes_made [] = 0
nodes_made (e ∷ es) = node_count_after (nodes_made es) e

-- the anchor of the line that an edit inserts, if it inserts one, n lines having been made before
abbrev pub anchor_of : ℕ → Edit → Option ℕ
anchor_of n (edits.New kind parent name) = None
anchor_of n (edits.Insert file after text) = Some (line_number n after)
anchor_of n (edits.Delete file line) = None
anchor_of n (edits.Rename node name) = None
anchor_of n (edits.Move node parent) = None
anchor_of n (edits.Remove node) = None

-- the anchors of the lines that edits insert, n lines having been made before
abbrev pub anchors_of : ℕ → List Edit → List ℕ
anchors_of n es = filter_map (anchor_of n) es

-- the numbers after edits
abbrev pub numbers_after : Numbers → List Edit → Numbers
numbers_after ns es = record {
  nodes = ns.nodes + nodes_made es;
  addresses = with_lines ns.addresses (anchors_of (length ns.addresses) es);
}

-- the numbers after more of a history
abbrev pub numbers_from : Numbers → List Command → Numbers
numbers_from ns [] = ns
numbers_from ns (commands.Commit base choice ambition ss ∷ history) = numbers_from (numbers_after ns (unsided ss)) history
numbers_from ns (_ ∷ history) = numbers_from ns history

-- the numbers after a history
abbrev pub numbers_of : List Command → Numbers
numbers_of history = numbers_from no_numbers history

-- how many lines a history inserts
abbrev pub line_count : List Command → ℕ
line_count history = length (numbers_of history).addresses

-- how many nodes a history has, the root included
abbrev pub node_count : List Command → ℕ
node_count history = (numbers_of history).nodes + 1

-- an edit by numbers and addresses
pub data NumberedEdit : Type 0 where
  OnRows : (change : RowChange) → NumberedEdit
  Inserted : (file : ℕ) (address text : List ℕ) → NumberedEdit
  Deleted : (file : ℕ) (address : List ℕ) → NumberedEdit

-- an edit by numbers and addresses: ns are the numbers before all edits, table has the addresses of their lines too, and
-- node and line are how many there are before this one
abbrev pub numbered_edit : Numbers → List (List ℕ) → ℕ → ℕ → Edit → NumberedEdit
numbered_edit ns table node line (edits.New kind parent name) = OnRows (Created (node + 1) kind (node_number ns.nodes parent) name)
numbered_edit ns table node line (edits.Insert file after text) = Inserted (node_number ns.nodes file) (address_in table (line + 1)) text
numbered_edit ns table node line (edits.Delete file which) = Deleted (node_number ns.nodes file) (address_in table (line_number (length ns.addresses) which))
numbered_edit ns table node line (edits.Rename which name) = OnRows (Renamed (node_number ns.nodes which) name)
numbered_edit ns table node line (edits.Move which parent) = OnRows (Moved (node_number ns.nodes which) (node_number ns.nodes parent))
numbered_edit ns table node line (edits.Remove which) = OnRows (Removed (node_number ns.nodes which))

-- the edits by numbers and addresses, each by those before it
abbrev pub numbered_from : Numbers → List (List ℕ) → ℕ → ℕ → List Edit → List NumberedEdit
numbered_from ns table node line [] = []
numbered_from ns table node line (e ∷ es) = numbered_edit ns table node line e ∷ numbered_from ns table (node_count_after node e) (line_count_after line e) es

-- the edits by numbers and addresses, drawn after these numbers
abbrev pub numbered : Numbers → List Edit → List NumberedEdit
numbered ns es = numbered_from ns (numbers_after ns es).addresses ns.nodes (length ns.addresses) es
