-- A file as the list of its lines in order, each with its visibilities.
use Rattle.std.specs.Prelude.{◌≡◌, ℕ, Bool, nat_eq, List, [], ◌∷◌, map, Option, if◌then◌else◌}
use Rattle.std.specs.List.{filter, find, AllZip}
use Rattle.std.specs.Option.{option_map}
use Rattle.cov_base.specs.Addresses.{after_anchor_by}
use Rattle.cov_base.specs.Older.{value_at}
use Rattle.cov_dd.specs.declared.triple.Triple.{Triple}
use Rattle.cov_dd.specs.Diagrams.{value_in}
use Rattle.cov_base.specs.declared.file_row.FileRow.{FileRow}

-- a line, its text, and the node on whose choices it is visible from each position of a change on, the newest first
pub record DatedLine : Type 0 where
  pub line : ℕ
  pub text : List ℕ
  pub changes : List (ℕ × ℕ)

-- the node at a position: that of the newest change not beyond it, FALSE before the first
abbrev pub vis_at : List (ℕ × ℕ) → ℕ → ℕ
vis_at changes p = value_at 0 changes p

-- the node of the newest change
abbrev pub newest_vis : List (ℕ × ℕ) → ℕ
newest_vis [] = 0
newest_vis (change ∷ changes) = change.1

-- the number of a line
abbrev pub dated_number : DatedLine → ℕ
dated_number l = l.line

-- the numbers of lines, in order
abbrev pub line_numbers_of : List DatedLine → List ℕ
line_numbers_of ls = map dated_number ls

-- a line that is inserted: it has one change
abbrev pub new_line : ℕ → List ℕ → ℕ → ℕ → DatedLine
new_line line text vis at = record { line = line; text = text; changes = (at, vis) ∷ [] }

-- the lines with a new one directly after its anchor, or first where that is the head, 0
abbrev pub with_line : ℕ → DatedLine → List DatedLine → List DatedLine
with_line anchor new ls = after_anchor_by dated_number anchor new ls

-- a line with one more change, if it has the number
abbrev pub changed : ℕ → ℕ → ℕ → DatedLine → DatedLine
changed line vis at l = if nat_eq l.line line then record { line = l.line; text = l.text; changes = (at, vis) ∷ l.changes } else l

-- the lines with one more change of one of them
abbrev pub with_change : ℕ → ℕ → ℕ → List DatedLine → List DatedLine
with_change line vis at ls = map (changed line vis at) ls

-- a line as it is shown
abbrev pub file_row_of : DatedLine → FileRow
file_row_of l = record { line = l.line; text = l.text }

-- whether a line is visible on a choice at a position
abbrev pub is_visible : List Triple → List Bool → ℕ → DatedLine → Bool
is_visible table c p l = value_in table (vis_at l.changes p) c

-- the lines that are visible on a choice at a position
abbrev pub rows_at : List Triple → List Bool → ℕ → List DatedLine → List FileRow
rows_at table c p ls = map file_row_of (filter (is_visible table c p) ls)

-- all lines
abbrev pub all_rows : List DatedLine → List FileRow
all_rows ls = map file_row_of ls

-- the newest node of the line with a number
abbrev pub newest_of : ℕ → List DatedLine → Option ℕ
newest_of line ls = option_map (λ l. newest_vis l.changes) (find (λ l. nat_eq l.line line) ls)

-- the node at a position of the line with a number
abbrev pub vis_of : ℕ → ℕ → List DatedLine → Option ℕ
vis_of line p ls = option_map (λ l. vis_at l.changes p) (find (λ l. nat_eq l.line line) ls)

-- two lines have the same number and text, the same node at each position, and the same newest node
pub record IsAlike (l m : DatedLine) : Type 0 where
  pub line : l.line ≡ m.line
  pub text : l.text ≡ m.text
  pub nodes : (p : ℕ) → vis_at l.changes p ≡ vis_at m.changes p
  pub newest : newest_vis l.changes ≡ newest_vis m.changes

-- the same lines in the same order
abbrev pub AreAlike : List DatedLine → List DatedLine → Type 0
AreAlike ls ms = AllZip IsAlike ls ms
