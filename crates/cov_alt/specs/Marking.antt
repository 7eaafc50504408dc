-- The lines ever inserted into a file, each with the sides on which it is.
use Rattle.std.specs.Prelude.{ℕ, Bool, true, false, ◌&&◌, List, [], ◌∷◌, ◌++◌, Option, Some, None}
use Rattle.cov_base.specs.Rows.{is_present}
use Rattle.cov_edit.specs.declared.command.Command.{Command}
use Rattle.cov_edit.specs.Replay.{replay}
use Rattle.cov_base.specs.declared.file_row.FileRow.{FileRow}
use Rattle.cov_engine.specs.Visibility.{has_line_number}
use Rattle.cov_alt.specs.declared.line.AltLine.{AltLine}
use Rattle.cov_alt.specs.declared.line.Mark.{Mark}
use Rattle.cov_alt.specs.declared.line.Mark.TheVariants as marks
use Rattle.cov_alt.specs.declared.marking.Side.{Side}

-- the side that a choice is for a file
abbrev pub on_choice : List Command → List Bool → ℕ → Side
on_choice history choice file = record { choice = choice; has_file = is_present (replay choice history).rows file }

-- whether a line of the file is on a side
abbrev pub is_on : List Command → Side → ℕ → Bool
is_on history side line = side.has_file && has_line_number line (replay side.choice history)

-- the mark of a line by whether it is on each side, if it is on one
abbrev pub mark_if : Bool → Bool → Option Mark
mark_if true true = Some marks.Both
mark_if true false = Some marks.OnOnly
mark_if false true = Some marks.OffOnly
mark_if false false = None

-- the lines with a row more, if it has a mark
abbrev pub with_mark : List AltLine → FileRow → Option Mark → List AltLine
with_mark ls r None = ls
with_mark ls r (Some mark) = ls ++ record { mark = mark; line = r.line; text = r.text } ∷ []

-- the lines with a row more, if it is on one of the sides
abbrev pub with_marked : List Command → Side → Side → List AltLine → FileRow → List AltLine
with_marked history on off ls r = with_mark ls r (mark_if (is_on history on r.line) (is_on history off r.line))
