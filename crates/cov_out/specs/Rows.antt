-- Rows of written trees, and what a call adds to them, where they are told.
use Rattle.std.specs.Prelude.{ℕ, Bool, List, [], ◌∷◌, Option, Some, None}
use Rattle.std.specs.List.{list_all}
use Rattle.cov_base.specs.Spelling.{is_name, parts_of}
use Rattle.cov_io.specs.Devices.{AppendsAll}
use Rattle.cov_out.specs.declared.row.OutRow.{OutRow}

-- the row of a path, with the bytes of a file or without
abbrev pub out_row : List ℕ → Option (List ℕ) → OutRow
out_row path bytes = record { path = path; bytes = bytes }

-- the row of a directory
abbrev pub dir_row : List ℕ → OutRow
dir_row path = out_row path None

-- the row of a file
abbrev pub file_row : List ℕ → List ℕ → OutRow
file_row path bytes = out_row path (Some bytes)

-- new is old with this row at its end
abbrev pub AddsRow : OutRow → Option (List OutRow) → Option (List OutRow) → Type 0
AddsRow row old new = AppendsAll (row ∷ []) old new

-- one or more names with a slash between two, so that the path leads nowhere but down
abbrev pub is_below : List ℕ → Bool
is_below path = list_all is_name (parts_of path)
