-- Nodes and lines by reference.
use Rattle.std.specs.Prelude.{ℕ, zero, Bool, true, false, nat_eq, nat_lt, nat_le}
use Rattle.cov_base.specs.declared.number.Kind.{Kind}
use Rattle.cov_base.specs.declared.number.Kind.TheVariants as kinds
use Rattle.cov_base.specs.declared.number.NodeRef.{NodeRef}
use Rattle.cov_base.specs.declared.number.NodeRef.TheVariants as nodes
use Rattle.cov_base.specs.declared.number.LineRef.{LineRef}
use Rattle.cov_base.specs.declared.number.LineRef.TheVariants as lines

-- whether a reference names the root directory
abbrev pub is_root : NodeRef → Bool
is_root (nodes.Old zero) = true
is_root _ = false

-- whether a reference names the head of a file
abbrev pub is_head : LineRef → Bool
is_head (lines.Old zero) = true
is_head _ = false

-- whether a kind is that of directories
abbrev pub is_dir_kind : Kind → Bool
is_dir_kind kinds.File = false
is_dir_kind kinds.Dir = true

-- whether two references to nodes are the same
abbrev pub same_node : NodeRef → NodeRef → Bool
same_node (nodes.Old x) (nodes.Old y) = nat_eq x y
same_node (nodes.Old x) (nodes.New j) = false
same_node (nodes.New i) (nodes.Old y) = false
same_node (nodes.New i) (nodes.New j) = nat_eq i j

-- whether two references to lines are the same
abbrev pub same_line : LineRef → LineRef → Bool
same_line (lines.Old x) (lines.Old y) = nat_eq x y
same_line (lines.Old x) (lines.New j) = false
same_line (lines.New i) (lines.Old y) = false
same_line (lines.New i) (lines.New j) = nat_eq i j

-- whether a reference names a node that a history has, or one of so many that edits made
abbrev pub is_new_below : ℕ → NodeRef → Bool
is_new_below made (nodes.Old x) = true
is_new_below made (nodes.New i) = nat_lt i made

-- whether a reference names no more than the n nodes that a history made, or a node that edits make
abbrev pub is_known_node : ℕ → NodeRef → Bool
is_known_node n (nodes.Old x) = nat_le x n
is_known_node n (nodes.New i) = true

-- whether a reference names no more than the n lines that a history made, or a line that edits make
abbrev pub is_known_line : ℕ → LineRef → Bool
is_known_line n (lines.Old x) = nat_le x n
is_known_line n (lines.New i) = true

-- whether a reference names one of the n nodes that a history made, the root, or one of so many that edits made
abbrev pub is_made_node : ℕ → ℕ → NodeRef → Bool
is_made_node n made (nodes.Old x) = nat_le x n
is_made_node n made (nodes.New i) = nat_lt i made

-- whether a reference names one of the n lines that a history made, the head, or one of so many that edits made
abbrev pub is_made_line : ℕ → ℕ → LineRef → Bool
is_made_line n made (lines.Old x) = nat_le x n
is_made_line n made (lines.New i) = nat_lt i made
