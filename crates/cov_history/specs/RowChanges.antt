-- Which edits change rows, and how.
use Rattle.std.specs.Prelude.{Bool, true, false, List, Option, Some, None}
use Rattle.std.specs.List.{filter_map}
use Rattle.cov_base.specs.Rows.{RowChange}
use Rattle.cov_edit.specs.declared.edit.Edit.{Edit}
use Rattle.cov_edit.specs.declared.edit.Edit.TheVariants as edits
use Rattle.cov_edit.specs.Numbering.{NumberedEdit, OnRows, Inserted, Deleted}

-- whether an edit changes the rows of a variant
abbrev pub changes_rows : Edit → Bool
changes_rows (edits.New kind parent name) = true
changes_rows (edits.Insert file after text) = false
changes_rows (edits.Delete file line) = false
changes_rows (edits.Rename node name) = true
changes_rows (edits.Move node parent) = true
changes_rows (edits.Remove node) = true

-- the change of rows that an edit makes, if it makes one
abbrev pub row_change : NumberedEdit → Option RowChange
row_change (OnRows change) = Some change
row_change (Inserted file address text) = None
row_change (Deleted file address) = None

-- the changes of rows that edits make, in order
abbrev pub row_changes : List NumberedEdit → List RowChange
row_changes ds = filter_map row_change ds
