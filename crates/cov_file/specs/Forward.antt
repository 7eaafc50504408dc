-- Kept lists after a change of the lines.
use Rattle.std.specs.Prelude.{◌≡◌, ℕ, Bool, false, List, Option}
use Rattle.std.specs.Option.{option_map_or}
use Rattle.cov_order.specs.Orders.{AreLines}
use Rattle.cov_base.specs.declared.file_row.FileRow.{FileRow}
use Rattle.cov_file.specs.Dated.{DatedLine, line_numbers_of, new_line, newest_of, with_change, with_line}
use Rattle.cov_file.specs.Sights.{rows_by}
use Rattle.cov_values.specs.Values.{Agrees}
use Rattle.cov_values.specs.declared.values.Evaluated.{Evaluated}
use Rattle.cov_file.specs.declared.sights.LineChange.{LineChange}
use Rattle.cov_file.specs.declared.sights.LineChange.TheVariants as changes

-- whether values of nodes show a line with a node; with none it isn't shown
abbrev pub is_shown_by : (ℕ → Bool) → Option ℕ → Bool
is_shown_by f node = option_map_or f node false

-- the lines after a change at a position
abbrev pub lines_after : LineChange → ℕ → List DatedLine → List DatedLine
lines_after (changes.Insert anchor beside line text vis) at ls = with_line anchor (new_line line text.now vis at) ls
lines_after (changes.Delete line before vis) at ls = with_change line vis at ls

-- the node that a change names beside its line is that of these lines
abbrev pub IsChangeOf : LineChange → List DatedLine → Type 0
IsChangeOf (changes.Insert anchor beside line text vis) ls = newest_of anchor ls ≡ beside
IsChangeOf (changes.Delete line before vis) ls = (newest_of line ls ≡ before) × AreLines (line_numbers_of ls)

-- a list of rows is right after a change where the one before it was
abbrev pub AreRowsAfter : LineChange → List Evaluated → List FileRow → List FileRow → Type 0
AreRowsAfter change values rows after = (f : ℕ → Bool) (ls : List DatedLine) (at : ℕ)
    → Agrees f values → IsChangeOf change ls → rows_by f ls ≡ rows → rows_by f (lines_after change at ls) ≡ after
