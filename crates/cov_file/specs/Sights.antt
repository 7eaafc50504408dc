-- What a file shows, by the values of the nodes of its lines.
use Rattle.std.specs.Prelude.{◌≡◌, ℕ, ◌≤◌, Bool, List, map}
use Rattle.std.specs.List.{AllByRecursion, filter}
use Rattle.cov_base.specs.declared.file_row.FileRow.{FileRow}
use Rattle.cov_dd.specs.declared.triple.Triple.{Triple}
use Rattle.cov_file.specs.Dated.{DatedLine, newest_vis, file_row_of, is_visible, rows_at}
use Rattle.cov_values.specs.Sights.{IsRight}
use Rattle.cov_values.specs.Values.{on_choice, Agrees}
use Rattle.cov_values.specs.declared.sights.Sight.{Sight}
use Rattle.cov_values.specs.declared.values.Evaluated.{Evaluated}

-- two choices, or two positions, on which each line's node has the same value show the same lines
abbrev pub ShownByValues : Type 0
ShownByValues = (table before : List Triple) (c d : List Bool) (p q : ℕ) (ls : List DatedLine)
    → AllByRecursion (λ l. is_visible table c p l ≡ is_visible before d q l) ls → rows_at table c p ls ≡ rows_at before d q ls

-- the lines that are shown by values of their newest nodes
abbrev pub rows_by : (ℕ → Bool) → List DatedLine → List FileRow
rows_by f ls = map file_row_of (filter (λ l. f (newest_vis l.changes)) ls)

-- what lines show, by values of their newest nodes
abbrev pub shown_by : List DatedLine → (ℕ → Bool) → List FileRow
shown_by ls f = rows_by f ls

-- a kept list, if it wasn't let go, is what is shown by any values of nodes in which its nodes have theirs
abbrev pub IsSight : List DatedLine → Sight (List FileRow) → Type 0
IsSight ls k = IsRight (shown_by ls) k

-- each kept list is
abbrev pub AreSights : List DatedLine → List (Sight (List FileRow)) → Type 0
AreSights ls ks = AllByRecursion (IsSight ls) ks

-- in any values of nodes in which these have theirs, the newest node of each line's changes has the value that it has on a choice
abbrev pub AreNewestValues : List Triple → List Bool → List (List (ℕ × ℕ)) → List Evaluated → Type 0
AreNewestValues table c lists values = (f : ℕ → Bool) → Agrees f values → AllByRecursion (λ cs. f (newest_vis cs) ≡ on_choice table c (newest_vis cs)) lists

-- from the newest change on, each line has its newest node
abbrev pub AreNewest : ℕ → List DatedLine → Type 0
AreNewest newest ls = (table : List Triple) (c : List Bool) (p : ℕ) → newest ≤ p → rows_at table c p ls ≡ rows_by (on_choice table c) ls
