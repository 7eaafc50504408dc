-- Which commit inserts a line.
use Rattle.std.specs.Prelude.{◌≡◌, ℕ, ◌+◌, Bool, true, false, nat_eq, List, [], ◌∷◌, map, Option, Some, None, is_some, unwrap_or, if◌then◌else◌}
use Rattle.std.specs.List.{list_any}
use Rattle.cov_base.specs.Addresses.{line_of}
use Rattle.cov_base.specs.declared.file_row.FileRow.{FileRow}
use Rattle.cov_edit.specs.declared.command.Command.{Command}
use Rattle.cov_edit.specs.declared.command.Command.TheVariants as commands
use Rattle.cov_edit.specs.Numbering.{Numbers, NumberedEdit, OnRows, Inserted, Deleted, no_numbers, numbered, numbers_after}
use Rattle.cov_edit.specs.Replay.{replay}
use Rattle.cov_edit.specs.Sides.{unsided}
use Rattle.cov_edit.specs.Variant.{lines_of}
use Rattle.cov_visible.specs.Reading.{line_row}
use Rattle.cov_hist.specs.declared.rows.BlameRow.{BlameRow}

-- whether an edit by numbers inserts the line with a number
abbrev pub inserts : ℕ → NumberedEdit → Bool
inserts line (OnRows change) = false
inserts line (Inserted file address text) = nat_eq (line_of address) line
inserts line (Deleted file address) = false

-- the position of the first of these commands whose edits insert a line, so many commands coming before them and their numbers being
-- drawn after these
abbrev pub origin_from : Numbers → ℕ → List Command → ℕ → Option ℕ
origin_from ns p [] line = None
origin_from ns p (commands.Option name ∷ later) line = origin_from ns (p + 1) later line
origin_from ns p (commands.Constraint expr ∷ later) line = origin_from ns (p + 1) later line
origin_from ns p (commands.Prefer expr ∷ later) line = origin_from ns (p + 1) later line
origin_from ns p (commands.Default option on ∷ later) line = origin_from ns (p + 1) later line
origin_from ns p (commands.Commit base choice ambition ss ∷ later) line =
    if list_any (inserts line) (numbered ns (unsided ss)) then Some (p + 1) else origin_from (numbers_after ns (unsided ss)) (p + 1) later line
origin_from ns p (commands.Upgrade ∷ later) line = origin_from ns (p + 1) later line

-- the position of the commit of a history whose edits insert a line, if there is one
abbrev pub origin : List Command → ℕ → Option ℕ
origin history line = origin_from no_numbers 0 history line

-- a commit inserts a line
abbrev pub HasOrigin : List Command → FileRow → Type 0
HasOrigin history row = is_some (origin history row.line) ≡ true

-- a line with its origin
abbrev pub blame_row : List Command → FileRow → BlameRow
blame_row history row = record { position = unwrap_or (origin history row.line) 0; line = row.line; text = row.text }

-- the lines of a file in the variant of a choice, in order, each with its origin
abbrev pub blame : List Command → List Bool → ℕ → List BlameRow
blame history c file = map (blame_row history) (map line_row (lines_of (replay c history) file))
