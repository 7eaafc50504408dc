-- Paths, kinds and lines in a variant.
use Rattle.std.specs.Prelude.{◌≡◌, ℕ, true, false, ◌&&◌, nat_eq, List, [], ◌∷◌, length, map, Option, Some, None, option_map, if◌then◌else◌}
use Rattle.std.specs.Str.{bytes_eq}
use Rattle.std.specs.List.{find, AllByRecursion}
use Rattle.cov_base.specs.declared.number.Kind.{Kind}
use Rattle.cov_base.specs.declared.number.Kind.TheVariants as kinds
use Rattle.cov_base.specs.declared.number.NodeRef.{NodeRef}
use Rattle.cov_base.specs.Rows.{Row, row_of}
use Rattle.cov_edit.specs.Numbering.{Numbers, node_number}
use Rattle.cov_edit.specs.Variant.{Variant, lines_of}
use Rattle.cov_view.specs.References.{is_known_node, is_made_line}
use Rattle.cov_view.specs.Refusals.{shows_node, is_dir}
use Rattle.cov_view.specs.Views.{line_by_number, by_number}
use Rattle.cov_view.specs.declared.line.ViewLine.{ViewLine}

-- goes on from a node, if there is one
abbrev pub from_number : Option ℕ → (ℕ → Option ℕ) → Option ℕ
from_number None go = None
from_number (Some node) go = go node

-- the node of that name in a directory
abbrev pub child_node : List Row → ℕ → List ℕ → Option ℕ
child_node rows dir name = option_map (λ r. r.node) (find (λ r. nat_eq r.parent dir && bytes_eq r.name name) rows)

-- the node to which these names lead from a directory
abbrev pub path_node : List Row → ℕ → List (List ℕ) → Option ℕ
path_node rows node [] = Some node
path_node rows node (name ∷ names) = from_number (child_node rows node name) (λ child. path_node rows child names)

-- the kind of a node, if it is present; the root is a directory
abbrev pub kind_of : List Row → ℕ → Option Kind
kind_of rows node = if nat_eq node 0 then Some kinds.Dir else option_map (λ r. r.kind) (row_of rows node)

-- the kind of the node that a reference names, if the variant has it
abbrev pub shown_kind : Numbers → Variant → NodeRef → Option Kind
shown_kind ns v node = if is_known_node ns.nodes node then kind_of v.rows (node_number ns.nodes node) else None

-- lines are those of a file that the variant has, and name none but lines that a history or so many insertions made
pub record AreLinesOf (ns : Numbers) (lines_made : ℕ) (v : Variant) (file : NodeRef) (ls : List ViewLine) : Type 0 where
  pub there : shows_node ns v file ≡ true
  pub is_file : is_dir v.rows (node_number ns.nodes file) ≡ false
  pub lines : map (line_by_number ns) ls ≡ map by_number (lines_of v (node_number ns.nodes file))
  pub made : AllByRecursion (λ l. is_made_line (length ns.addresses) lines_made l.line ≡ true) ls
