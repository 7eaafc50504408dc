-- What a file keeps: of each line its changes, in the order in which the lines were inserted.
use Rattle.std.specs.Prelude.{◌≡◌, ℕ, suc, ◌≤◌, Bool, false, not, nat_eq, ◌&&◌, ◌||◌, List, [], ◌∷◌, map, length, reverse, slice_get, Option, None, Some, unwrap_or, if◌then◌else◌}
use Rattle.std.specs.List.{AllByRecursion, filter, list_any}
use Rattle.std.specs.Map.{keys_of, lookup}
use Rattle.cov_order.specs.Orders.{has_line}
use Rattle.cov_base.specs.declared.file_row.FileRow.{FileRow}
use Rattle.cov_file.specs.declared.changes.Change.{Change}
use Rattle.cov_file.specs.Dated.{DatedLine}

-- of each line its changes, the newest first; the position of the newest change; for how many lines more and for how many
-- changes there is room, and whether for those of any position, and not just of the newest; every node, in one order
pub record LineChanges : Type 0 where
  pub lists : List (List (ℕ × ℕ))
  pub newest : ℕ
  pub inserts : ℕ
  pub room : ℕ
  pub is_open : Bool
  pub nodes : List ℕ

-- the changes of a line before one of its changes, the newest first: where that one names a number, the one before it is the
-- last of so many earlier ones of all lines, which stand here in reverse
abbrev pub changes_before : List Change → ℕ → List (ℕ × ℕ)
changes_before [] number = []
changes_before (c ∷ cs) number = if nat_eq number (suc (length cs)) then (c.from, c.node) ∷ changes_before cs c.before else changes_before cs number

-- the changes of a line by its newest
abbrev pub changes_of : List Change → Change → List (ℕ × ℕ)
changes_of earlier c = (c.from, c.node) ∷ changes_before earlier c.before

-- of each line its changes by its newest
abbrev pub lists_of : List Change → List Change → List (List (ℕ × ℕ))
lists_of newest earlier = map (changes_of (reverse earlier)) newest

-- each of the earlier changes leads to one before itself
abbrev pub AreLinked : List Change → Type 0
AreLinked [] = Unit {0}
AreLinked (c ∷ cs) = (c.before ≤ length cs) × AreLinked cs

-- each change leads to an earlier one, and none is later than the newest
pub record AreChanges (from : ℕ) (newest earlier : List Change) : Type 0 where
  pub linked : AreLinked (reverse earlier)
  pub ends : AllByRecursion (λ c. c.before ≤ length earlier) newest
  pub latest : AllByRecursion (λ c. c.from ≤ from) newest

-- the changes of the line at an index, none where there is no such line
abbrev pub changes_at : List (List (ℕ × ℕ)) → ℕ → List (ℕ × ℕ)
changes_at lists index = unwrap_or (slice_get lists index) []

-- whether the newest of changes is at a position
abbrev pub is_at : ℕ → List (ℕ × ℕ) → Bool
is_at at [] = false
is_at at (c ∷ cs) = nat_eq c.0 at

-- the changes once there is one at a position, in the place of the one there
abbrev pub with_node : ℕ → ℕ → List (ℕ × ℕ) → List (ℕ × ℕ)
with_node at node [] = (at, node) ∷ []
with_node at node (c ∷ cs) = if nat_eq c.0 at then (at, node) ∷ cs else (at, node) ∷ c ∷ cs

-- the changes of a line, none where it isn't there
abbrev pub changes_in : List ℕ → List (List (ℕ × ℕ)) → ℕ → List (ℕ × ℕ)
changes_in [] lists line = []
changes_in (key ∷ keys) [] line = []
changes_in (key ∷ keys) (l ∷ ls) line = if nat_eq line key then l else changes_in keys ls line

-- the text of a line
abbrev pub text_in : List (ℕ × List ℕ) → ℕ → List ℕ
text_in texts line = unwrap_or (lookup (nat_eq line) texts) []

-- a line with its text and its changes
abbrev pub dated_in : List (ℕ × List ℕ) → List (List (ℕ × ℕ)) → ℕ → DatedLine
dated_in texts lists line = record { line = line; text = text_in texts line; changes = changes_in (keys_of texts) lists line }

-- lines with their texts and their changes
abbrev pub dated_lines : List (ℕ × List ℕ) → List (List (ℕ × ℕ)) → List ℕ → List DatedLine
dated_lines texts lists lines = map (dated_in texts lists) lines

-- a line as it is shown
abbrev pub row_in : List (ℕ × List ℕ) → ℕ → FileRow
row_in texts line = record { line = line; text = text_in texts line }

-- only one position has room once there was a change at it
abbrev pub position_of : LineChanges → Option ℕ
position_of l = if l.is_open then None else Some l.newest

-- whether a line has a change at the one position that has room
abbrev pub has_changed : LineChanges → List ℕ → ℕ → Bool
has_changed l keys line = not l.is_open && is_at l.newest (changes_in keys l.lists line)

-- how many of the changes that are expected want room
abbrev pub waiting : LineChanges → List ℕ → List ℕ → ℕ
waiting l keys deletes = length (filter (λ n. not (has_changed l keys n)) deletes)

-- the lines that may be changed: those that are expected to, and those that have a change at the position
abbrev pub changeable : LineChanges → List ℕ → List ℕ → List ℕ → List ℕ
changeable l keys deletes lines = filter (λ n. has_line n deletes || has_changed l keys n) lines

-- each line has its text and its changes, and each change that is expected has room
pub record AreKept (lines : List ℕ) (texts : List (ℕ × List ℕ)) (changes : LineChanges) (deletes : List ℕ) : Type 0 where
  pub keys : (line : ℕ) → has_line line lines ≡ list_any (nat_eq line) (keys_of texts)
  pub lists : length changes.lists ≡ length texts
  pub room : waiting changes (keys_of texts) deletes ≤ changes.room
