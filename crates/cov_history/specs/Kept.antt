-- Every row and line that a history ever made, each with the expressions on whose choices it was visible, and since when.
use Rattle.std.specs.Prelude.{ℕ, ◌+◌, ◌≤◌, Bool, ◌||◌, nat_eq, nat_le, List, [], ◌∷◌, ◌++◌, map, if◌then◌else◌}
use Rattle.std.specs.List.{fold, filter, list_any, AllByRecursion}
use Rattle.cov_base.specs.Addresses.{IsLineOf, placed, number_by, AreInOrder}
use Rattle.cov_base.specs.Rows.{Row, RowChange, Created, Renamed, Moved, Removed, with_name, with_parent}
use Rattle.cov_expr.specs.Formula.{Formula, False, Not, And, value}
use Rattle.cov_edit.specs.declared.command.Command.{Command}
use Rattle.cov_edit.specs.declared.command.Command.TheVariants as commands
use Rattle.cov_edit.specs.Numbering.{Numbers, NumberedEdit, OnRows, Inserted, Deleted, no_numbers, numbers_after}
use Rattle.cov_edit.specs.Replay.{Change, commit_changes}
use Rattle.cov_edit.specs.Sides.{unsided}
use Rattle.cov_edit.specs.Variant.{Variant, Line, is_line}

-- a row or a line, and the expression on whose choices it is visible from each position of a change on, the newest first
pub record Kept (X : Type 0) : Type 0 where
  pub item : X
  pub changes : List (ℕ × Formula ℕ)

-- the visibility at a position: that of the newest change not beyond it
abbrev pub seen_at : List (ℕ × Formula ℕ) → ℕ → Formula ℕ
seen_at [] p = False
seen_at (change ∷ changes) p = if nat_le change.0 p then change.1 else seen_at changes p

-- the newest change isn't beyond a position
abbrev pub IsUpTo : ℕ → List (ℕ × Formula ℕ) → Type 0
IsUpTo p [] = Unit {0}
IsUpTo p (change ∷ changes) = change.0 ≤ p

module _ {X : Type 0} where
  -- whether an item is seen on a choice at a position
  abbrev pub is_seen : List Bool → ℕ → Kept X → Bool
  is_seen c p k = value (seen_at k.changes p) c

  -- what is kept, without its changes
  abbrev pub the_item : Kept X → X
  the_item k = k.item

  -- the items seen on a choice at a position
  abbrev pub items_seen : List Bool → ℕ → List (Kept X) → List X
  items_seen c p ks = map the_item (filter (is_seen c p) ks)

  -- a new item, seen within an expression from a position on
  abbrev pub new_item : ℕ → Formula ℕ → X → Kept X
  new_item q within x = record { item = x; changes = (q, within) ∷ [] }

  -- an item no longer seen within an expression from a position on
  abbrev pub hidden : ℕ → Formula ℕ → Kept X → Kept X
  hidden q within k = record { item = k.item; changes = (q, And (seen_at k.changes q) (Not within)) ∷ k.changes }

  -- another item, seen from a position on where this one was seen within an expression
  abbrev pub taken_up : ℕ → Formula ℕ → (X → X) → Kept X → Kept X
  taken_up q within other k = record { item = other k.item; changes = (q, And (seen_at k.changes q) within) ∷ [] }

  -- an item no longer seen within an expression from a position on, if it passes a test
  abbrev pub hidden_where : (X → Bool) → ℕ → Formula ℕ → Kept X → Kept X
  hidden_where test q within k = if test k.item then hidden q within k else k

  -- the items, each that passes a test with another in its place within an expression from a position on
  abbrev pub replaced_where : (X → Bool) → (X → X) → ℕ → Formula ℕ → List (Kept X) → List (Kept X)
  replaced_where test other q within [] = []
  replaced_where test other q within (k ∷ ks) =
      if test k.item
      then hidden q within k ∷ taken_up q within other k ∷ replaced_where test other q within ks
      else k ∷ replaced_where test other q within ks

-- where a kept line stands
abbrev pub kept_address : Kept Line → List ℕ
kept_address k = k.item.address

-- the number of a kept line
abbrev pub kept_number : Kept Line → ℕ
kept_number k = number_by kept_address k

-- a new line
abbrev pub new_line : ℕ → Formula ℕ → ℕ → List ℕ → List ℕ → Kept Line
new_line q within file address text = new_item q within (record { file = file; address = address; text = text })

-- the lines after an edit that applies within an expression from position q on
abbrev pub kept_after : ℕ → Formula ℕ → List (Kept Line) → NumberedEdit → List (Kept Line)
kept_after q within ks (OnRows change) = ks
kept_after q within ks (Inserted file address text) = placed kept_address (new_line q within file address text) ks
kept_after q within ks (Deleted file address) = map (hidden_where (is_line file address) q within) ks

-- whether a row is a node's
abbrev pub is_row : ℕ → Row → Bool
is_row node r = nat_eq r.node node

-- the rows after a change that applies within an expression from position q on
abbrev pub rows_kept_after : ℕ → Formula ℕ → List (Kept Row) → RowChange → List (Kept Row)
rows_kept_after q within ks (Created node kind parent name) = ks ++ new_item q within (record { node = node; kind = kind; parent = parent; name = name }) ∷ []
rows_kept_after q within ks (Renamed node name) = replaced_where (is_row node) (with_name node name) q within ks
rows_kept_after q within ks (Moved node parent) = replaced_where (is_row node) (with_parent node parent) q within ks
rows_kept_after q within ks (Removed node) = map (hidden_where (is_row node) q within) ks

-- the rows after an edit that applies within an expression from position q on
abbrev pub entries_after : ℕ → Formula ℕ → List (Kept Row) → NumberedEdit → List (Kept Row)
entries_after q within ks (OnRows change) = rows_kept_after q within ks change
entries_after q within ks (Inserted file address text) = ks
entries_after q within ks (Deleted file address) = ks

-- the rows ever made, and the lines ever inserted in address order
pub record Holding : Type 0 where
  pub rows : List (Kept Row)
  pub lines : List (Kept Line)

-- no rows and no lines
abbrev pub nothing_held : Holding
nothing_held = record { rows = []; lines = [] }

-- what is held after an edit that applies within an expression from position q on
abbrev pub held_after : ℕ → Formula ℕ → Holding → NumberedEdit → Holding
held_after q within held d = record { rows = entries_after q within held.rows d; lines = kept_after q within held.lines d }

-- what is held after an edit, from position q on
abbrev pub held_with : ℕ → Holding → Change → Holding
held_with q held change = held_after q change.within held change.edit

-- the lines after an edit, from position q on
abbrev pub kept_with : ℕ → List (Kept Line) → Change → List (Kept Line)
kept_with q ks change = kept_after q change.within ks change.edit

-- the rows after an edit, from position q on
abbrev pub entries_with : ℕ → List (Kept Row) → Change → List (Kept Row)
entries_with q ks change = entries_after q change.within ks change.edit

-- what is held after more of a history, of which q commands stand before
abbrev pub held_from : ℕ → Holding → Numbers → List Command → Holding
held_from q held ns [] = held
held_from q held ns (commands.Commit base choice ambition ss ∷ history) =
    held_from (q + 1) (fold (held_with (q + 1)) held (commit_changes ns ambition ss)) (numbers_after ns (unsided ss)) history
held_from q held ns (_ ∷ history) = held_from (q + 1) held ns history

-- what a history holds
abbrev pub held_by : List Command → Holding
held_by history = held_from 0 nothing_held no_numbers history

-- the lines that a history holds
abbrev pub kept_of : List Command → List (Kept Line)
kept_of history = (held_by history).lines

-- the rows that a history holds
abbrev pub entries_of : List Command → List (Kept Row)
entries_of history = (held_by history).rows

-- the lines seen on a choice at a position
abbrev pub lines_seen : List Bool → ℕ → List (Kept Line) → List Line
lines_seen c p ks = items_seen c p ks

-- the rows seen on a choice at a position
abbrev pub rows_seen : List Bool → ℕ → List (Kept Row) → List Row
rows_seen c p ks = items_seen c p ks

-- the variant seen on a choice at a position
abbrev pub variant_seen : List Bool → ℕ → Holding → Variant
variant_seen c p held = record { rows = rows_seen c p held.rows; lines = lines_seen c p held.lines }

-- the kept lines of a file
abbrev pub file_kept : ℕ → List (Kept Line) → List (Kept Line)
file_kept file ks = filter (λ k. nat_eq k.item.file file) ks

-- whether a number is a kept line's of a file, or 0 for the head
abbrev pub is_kept_anchor : ℕ → ℕ → List (Kept Line) → Bool
is_kept_anchor file anchor ks = nat_eq anchor 0 || list_any (λ k. nat_eq (kept_number k) anchor) (file_kept file ks)

-- what is held stands in order, has the first lines of a table, and no change beyond a position
pub record IsHolding (table : List (List ℕ)) (count p : ℕ) (held : Holding) : Type 0 where
  pub in_order : AreInOrder kept_address held.lines
  pub numbered_lines : AllByRecursion (λ k. IsLineOf table count (kept_address k)) held.lines
  pub dated_rows : AllByRecursion (λ k. IsUpTo p k.changes) held.rows
  pub dated_lines : AllByRecursion (λ k. IsUpTo p k.changes) held.lines
