-- What is read of one variant: the file at a path, and the lines of a file.
use Rattle.std.specs.Prelude.{◌≡◌, ℕ, Bool, true, false, List, [], Option, Some, None, Result, Ok, Err}
use Rattle.cov_base.specs.Addresses.{line_of}
use Rattle.cov_base.specs.Rows.{Row}
use Rattle.cov_dd.specs.declared.triple.Triple.{Triple}
use Rattle.cov_edit.specs.Variant.{Variant, Line}
use Rattle.cov_file.specs.Dated.{rows_at}
use Rattle.cov_base.specs.declared.file_row.FileRow.{FileRow}
use Rattle.cov_view.specs.Paths.{path_node}
use Rattle.cov_view.specs.Refusals.{is_dir}
use Rattle.cov_visible.specs.declared.file_part.FilePart.{FilePart}
use Rattle.cov_visible.specs.declared.reading.FileFault.{FileFault}
use Rattle.cov_visible.specs.declared.reading.FileFault.TheVariants as faults

-- the file to which a path leads among rows, or why it leads to none
abbrev pub IsFileAmong : List Row → List (List ℕ) → Result ℕ FileFault → Type 0
IsFileAmong rows path (Ok node) = (path_node rows 0 path ≡ Some node) × (is_dir rows node ≡ false)
IsFileAmong rows path (Err faults.NoSuchPath) = path_node rows 0 path ≡ None
IsFileAmong rows path (Err faults.NotFile) = (node : ℕ) × (path_node rows 0 path ≡ Some node) × (is_dir rows node ≡ true)

-- the same in a variant
abbrev pub IsFileAt : Variant → List (List ℕ) → Result ℕ FileFault → Type 0
IsFileAt v path result = IsFileAmong v.rows path result

-- a line of a variant with its number, as a line of its file
abbrev pub line_row : Line → FileRow
line_row l = record { line = line_of l.address; text = l.text }

-- the lines of a stored file, if there is one, that are seen on a choice at a position
abbrev pub stored_rows : List Triple → List Bool → ℕ → Option FilePart → List FileRow
stored_rows ts c at None = []
stored_rows ts c at (Some e) = rows_at ts c at e.lines.lines
