-- What an engine shows.
use Rattle.std.specs.Prelude.{◌≡◌, ℕ, ◌<◌, Bool, true, false, List, [], ◌∷◌, map}
use Rattle.std.specs.List.{fold, AllByRecursion}
use Rattle.cov_dd.specs.declared.triple.Triple.{Triple}
use Rattle.cov_dd.specs.Diagrams.{diagram_size}
use Rattle.cov_edit.specs.Touched.{AreRising}
use Rattle.cov_file.specs.Dated.{line_numbers_of, vis_at}
use Rattle.cov_order.specs.Orders.{has_line}
use Rattle.cov_tree.specs.Carried.{AreNodesAt, AreOnceAt}
use Rattle.cov_tree.specs.Dated.{rows_at}
use Rattle.cov_view.specs.Seen.{Seen}
use Rattle.cov_visible.specs.Parts.{part_node, files_in}
use Rattle.cov_visible.specs.Showing.{with_node}
use Rattle.cov_visible.specs.declared.file_part.FilePart.{FilePart}
use Rattle.cov_visible.specs.declared.visible.Visible.{Visible}

-- the visibilities of a file's lines at each position are nodes of a table
abbrev pub AreLineNodes : List Triple → FilePart → Type 0
AreLineNodes ts e = (p : ℕ) → AllByRecursion (λ l. vis_at l.changes p < diagram_size ts) e.lines.lines

-- two files have no common line
abbrev pub HaveNoCommonLine : FilePart → FilePart → Type 0
HaveNoCommonLine e f = (line : ℕ) → has_line line (line_numbers_of e.lines.lines) ≡ true → has_line line (line_numbers_of f.lines.lines) ≡ false

-- no line stands in two files
abbrev pub HaveNoCommonLines : List FilePart → Type 0
HaveNoCommonLines [] = Unit {0}
HaveNoCommonLines (e ∷ es) = AllByRecursion (HaveNoCommonLine e) es × HaveNoCommonLines es

-- all nodes of the entries and files are of the table, the files are those of the entries, each once and by rising node, no line
-- stands in two of them, and at no position on no choice a node has two rows, or the root has one
pub record IsWhole (v : Visible) : Type 0 where
  pub entry_nodes : AreNodesAt v.table v.entries
  pub line_nodes : AllByRecursion (AreLineNodes v.table) v.files
  pub files : map part_node v.files ≡ files_in v.entries
  pub rising : AreRising (map part_node v.files)
  pub apart : HaveNoCommonLines v.files
  pub once : AreOnceAt v.table v.entries

-- what is shown on a choice at a position: the rows of the entries, and of each file among them the lines
abbrev pub shown : Visible → List Bool → ℕ → Seen
shown v c at = record { rows = fold (with_node v.table c at v.files) [] (rows_at v.table c at v.entries); nodes_made = 0; lines_made = 0 }
