-- What edits are tried on, and the first of them that is refused there.
use Rattle.std.specs.Prelude.{ℕ, ◌+◌, Bool, true, false, not, ◌&&◌, ◌||◌, nat_eq, List, [], ◌∷◌, ◌++◌, map, set, slice_get, Option, Some, None, if◌then◌else◌}
use Rattle.std.specs.List.{list_any}
use Rattle.cov_base.specs.Rows.{Row}
use Rattle.cov_base.specs.declared.number.Kind.{Kind}
use Rattle.cov_base.specs.declared.number.Kind.TheVariants as kinds
use Rattle.cov_base.specs.declared.number.LineRef.{LineRef}
use Rattle.cov_base.specs.declared.number.LineRef.TheVariants as lines
use Rattle.cov_base.specs.declared.number.NodeRef.{NodeRef}
use Rattle.cov_base.specs.declared.number.NodeRef.TheVariants as nodes
use Rattle.cov_dd.specs.declared.triple.Triple.{Triple}
use Rattle.cov_edit.specs.declared.edit.Edit.{Edit}
use Rattle.cov_edit.specs.declared.edit.Edit.TheVariants as edits
use Rattle.cov_edit.specs.Touched.{touched}
use Rattle.cov_history.specs.RowChanges.{changes_rows}
use Rattle.cov_tree.specs.Dated.{rows_among, rows_at}
use Rattle.cov_view.specs.declared.fault.EditFault.{EditFault}
use Rattle.cov_view.specs.declared.line.ViewLine.{ViewLine}
use Rattle.cov_view.specs.declared.row.ViewRow.{ViewRow}
use Rattle.cov_view.specs.References.{is_head, same_node}
use Rattle.cov_view.specs.Seen.{Seen, kind_in, old_line, seen_after, seen_fault}
use Rattle.indexmap.specs.IndexSet.{insert_key}
use Rattle.cov_visible.specs.Parts.{part_of}
use Rattle.cov_visible.specs.Reading.{stored_rows}
use Rattle.cov_visible.specs.declared.file_part.FilePart.{FilePart}
use Rattle.cov_visible.specs.declared.trial.OldLine.{OldLine}
use Rattle.cov_visible.specs.declared.visible.Visible.{Visible}

module _ (ts : List Triple) (c : List Bool) (at : ℕ) (stored : List FilePart) where
  -- whether a file shows a line
  abbrev pub file_shows : ℕ → ℕ → Bool
  file_shows node line = list_any (λ r. nat_eq r.line line) (stored_rows ts c at (part_of stored node))

  -- the lines that a node shows, if it is a file
  abbrev pub row_lines : Kind → ℕ → List ViewLine
  row_lines kinds.File node = map old_line (stored_rows ts c at (part_of stored node))
  row_lines kinds.Dir node = []

  -- a row with its lines
  abbrev pub whole_row : Row → ViewRow
  whole_row r = record { node = nodes.Old r.node; kind = r.kind; parent = nodes.Old r.parent; name = r.name; lines = row_lines r.kind r.node }

-- all rows that a choice shows at a position where edits change rows, and otherwise those of the nodes that they touch
abbrev pub rows_for : Visible → List Bool → ℕ → Bool → List ℕ → List Row
rows_for v c at changes nodes = if changes then rows_at v.table c at v.entries else rows_among v.table c at nodes v.entries

-- the rows that edits are tried on, on a choice at a position: all where one of them changes rows, and else those of the nodes that
-- they touch
abbrev pub rows_tried : Visible → List Bool → ℕ → List Edit → List Row
rows_tried v c at es = rows_for v c at (list_any changes_rows es) (touched es)

-- what edits are tried on: these rows with their lines
abbrev pub seen_tried : Visible → List Bool → ℕ → List Edit → Seen
seen_tried v c at es = record { rows = map (whole_row v.table c at v.files) (rows_tried v c at es); nodes_made = 0; lines_made = 0 }

-- the place of an edit with a fault, or else a later place
abbrev pub place_of : ℕ → Option EditFault → Option ℕ → Option ℕ
place_of i None later = later
place_of i (Some f) later = Some i

-- the place of the first edit that is refused on what is seen, if there is one; the first edit has the place i
abbrev pub place_refused : ℕ → Seen → List Edit → Option ℕ
place_refused i s [] = None
place_refused i s (e ∷ es) = place_of i (seen_fault s.rows e) (place_refused (i + 1) (seen_after s e) es)

-- what a trial keeps: the rows, without lines; of each line that edits made its file, None where it was deleted again; and the lines
-- of before that edits deleted
pub record Trying : Type 0 where
  pub rows : Seen
  pub made : List (Option NodeRef)
  pub deleted : List OldLine

-- two lines of before are one
abbrev pub same_old : OldLine → OldLine → Bool
same_old l m = nat_eq l.file m.file && nat_eq l.line m.line

-- whether edits deleted a line of before
abbrev pub is_deleted : List OldLine → ℕ → ℕ → Bool
is_deleted deleted file line = list_any (same_old (record { file = file; line = line })) deleted

-- whether a line that edits made is in a file, by what is kept of it
abbrev pub is_made_in : NodeRef → Option (Option NodeRef) → Bool
is_made_in file None = false
is_made_in file (Some None) = false
is_made_in file (Some (Some other)) = same_node other file

-- whether a kind is there and is that of files
abbrev pub is_file : Option Kind → Bool
is_file None = false
is_file (Some kinds.File) = true
is_file (Some kinds.Dir) = false

-- the trial once a line of before was deleted
abbrev pub old_deleted : Trying → NodeRef → ℕ → Trying
old_deleted t (nodes.Old file) line = record { rows = t.rows; made = t.made; deleted = insert_key same_old t.deleted (record { file = file; line = line }) }
old_deleted t (nodes.New i) line = t

-- the trial once a line was deleted
abbrev pub deleted_from : Trying → NodeRef → LineRef → Trying
deleted_from t file (lines.Old line) = old_deleted t file line
deleted_from t file (lines.New i) = record { rows = t.rows; made = set t.made i None; deleted = t.deleted }

-- the trial once rows were changed
abbrev pub rows_changed : Trying → Edit → Trying
rows_changed t e = record { rows = seen_after t.rows e; made = t.made; deleted = t.deleted }

-- the trial after an edit
abbrev pub tried_after : Trying → Edit → Trying
tried_after t (edits.New kind parent name) = rows_changed t (edits.New kind parent name)
tried_after t (edits.Insert file after text) = record { rows = t.rows; made = t.made ++ Some file ∷ []; deleted = t.deleted }
tried_after t (edits.Delete file line) = deleted_from t file line
tried_after t (edits.Rename node name) = rows_changed t (edits.Rename node name)
tried_after t (edits.Move node parent) = rows_changed t (edits.Move node parent)
tried_after t (edits.Remove node) = rows_changed t (edits.Remove node)

-- whether a trial takes an edit of rows, by its fault
abbrev pub takes_rows : Option EditFault → Bool
takes_rows None = true
takes_rows (Some f) = false

-- where files show those lines of before that are told
module _ (shows : ℕ → ℕ → Bool) where
  -- whether a file has a line of before after the edits so far
  abbrev pub has_old : Trying → NodeRef → ℕ → Bool
  has_old t (nodes.Old file) line = shows file line && not (is_deleted t.deleted file line)
  has_old t (nodes.New i) line = false

  -- whether a file has a line after the edits so far
  abbrev pub has_tried : Trying → NodeRef → LineRef → Bool
  has_tried t file (lines.Old line) = has_old t file line
  has_tried t file (lines.New i) = is_made_in file (slice_get t.made i)

  -- whether a trial takes an edit
  abbrev pub takes : Trying → Edit → Bool
  takes t (edits.New kind parent name) = takes_rows (seen_fault t.rows.rows (edits.New kind parent name))
  takes t (edits.Insert file after text) = is_file (kind_in t.rows.rows file) && (is_head after || has_tried t file after)
  takes t (edits.Delete file line) = is_file (kind_in t.rows.rows file) && (not (is_head line) && has_tried t file line)
  takes t (edits.Rename node name) = takes_rows (seen_fault t.rows.rows (edits.Rename node name))
  takes t (edits.Move node parent) = takes_rows (seen_fault t.rows.rows (edits.Move node parent))
  takes t (edits.Remove node) = takes_rows (seen_fault t.rows.rows (edits.Remove node))

  -- the place of the first edit that a trial doesn't take, if there is one; the first edit has the place i
  abbrev pub place_tried : ℕ → Trying → List Edit → Option ℕ
  place_tried i t [] = None
  place_tried i t (e ∷ es) = if takes t e then place_tried (i + 1) (tried_after t e) es else Some i
