-- What is shown of the kept rows and lines.
use Rattle.std.specs.Prelude.{◌≡◌, ℕ, Bool, List, [], ◌∷◌, ◌++◌, Option, Some, None}
use Rattle.std.specs.List.{fold}
use Rattle.cov_base.specs.Rows.{Row}
use Rattle.cov_base.specs.declared.number.Kind.{Kind}
use Rattle.cov_base.specs.declared.number.Kind.TheVariants as kinds
use Rattle.cov_base.specs.declared.number.NodeRef.TheVariants as nodes
use Rattle.cov_dd.specs.declared.triple.Triple.{Triple}
use Rattle.cov_file.specs.Dated.{rows_at}
use Rattle.cov_view.specs.declared.row.ViewRow.{ViewRow}
use Rattle.cov_view.specs.Seen.{kind_in, with_file_row}
pub use Rattle.cov_view.specs.Shown.{bare_row, bare_rows}
use Rattle.cov_visible.specs.Parts.{part_of}
use Rattle.cov_visible.specs.declared.file_part.FilePart.{FilePart}

module _ (ts : List Triple) (c : List Bool) (at : ℕ) where
  -- the rows with the lines of a node that are seen, if it is a file's and they are stored
  abbrev pub with_lines : Kind → ℕ → Option FilePart → List ViewRow → List ViewRow
  with_lines kinds.File node (Some e) rows = fold (with_file_row node) rows (rows_at ts c at e.lines.lines)
  with_lines kinds.File node None rows = rows
  with_lines kinds.Dir node stored rows = rows

  module _ (stored : List FilePart) where
    -- the rows with that of a node more
    abbrev pub with_node : List ViewRow → Row → List ViewRow
    with_node rows r = with_lines r.kind r.node (part_of stored r.node) (rows ++ bare_row r ∷ [])

    -- each row is of a node that isn't shown yet when it is its turn
    abbrev pub AreFresh : List ViewRow → List Row → Type 0
    AreFresh rows [] = Unit {0}
    AreFresh rows (r ∷ rs) = (kind_in rows (nodes.Old r.node) ≡ None) × AreFresh (with_node rows r) rs
