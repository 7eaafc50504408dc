-- What a change of a file changes of what is shown.
use Rattle.std.specs.Prelude.{◌≡◌, ℕ, ◌<◌, ◌≤◌, Bool, false, nat_eq, List, map, if◌then◌else◌}
use Rattle.std.specs.List.{filter}
use Rattle.cov_dd.specs.declared.triple.Triple.{Triple}
use Rattle.cov_dd.specs.Diagrams.{value_in}
use Rattle.cov_file.specs.Dated.{DatedLine, new_line, with_line, with_change, file_row_of, is_visible, rows_at, AreAlike}

-- lines that are alike show the same on each choice at each position
abbrev pub AlikeShowTheSame : Type 0
AlikeShowTheSame = (table : List Triple) (c : List Bool) (p : ℕ) (ls ms : List DatedLine) → AreAlike ls ms → rows_at table c p ls ≡ rows_at table c p ms

-- before its position an insert changes nothing, and from there on nothing on a choice on which the line isn't visible
pub record InsertIsLater : Type 0 where
  pub before : (table : List Triple) (c : List Bool) (p anchor line : ℕ) (text : List ℕ) (vis at : ℕ) (ls : List DatedLine)
      → p < at → rows_at table c p (with_line anchor (new_line line text vis at) ls) ≡ rows_at table c p ls
  pub elsewhere : (table : List Triple) (c : List Bool) (p anchor line : ℕ) (text : List ℕ) (vis at : ℕ) (ls : List DatedLine)
      → value_in table vis c ≡ false → rows_at table c p (with_line anchor (new_line line text vis at) ls) ≡ rows_at table c p ls

-- before its position a change of a line changes nothing, and from there on the line is shown where its new node is true
pub record ChangeIsLater : Type 0 where
  pub before : (table : List Triple) (c : List Bool) (p line vis at : ℕ) (ls : List DatedLine)
      → p < at → rows_at table c p (with_change line vis at ls) ≡ rows_at table c p ls
  pub after : (table : List Triple) (c : List Bool) (p line vis at : ℕ) (ls : List DatedLine)
      → at ≤ p → rows_at table c p (with_change line vis at ls) ≡ map file_row_of (filter (λ l. if nat_eq l.line line then value_in table vis c else is_visible table c p l) ls)
