-- What is kept of the lines of a source, and why it isn't read to its end.
use Rattle.std.specs.Prelude.{◌≡◌, ℕ, ◌+◌, ◌≤◌, nat_lt, Bool, true, false, List, [], ◌∷◌, ◌++◌, length, Option, Some, None, Result, Ok, Err, if◌then◌else◌}
use Rattle.std.specs.List.{list_any}
use Rattle.cov_base.specs.Causes.{Rose}
use Rattle.cov_base.specs.Lines.{lines_of}
use Rattle.cov_base.specs.declared.limits.TheConstants.{MOST_SCRIPT_LINE_BYTES, TOO_MANY_SCRIPT_BYTES}
use Rattle.cov_io.specs.Progress.{Progress, IsTooMuch}
use Rattle.cov_io.specs.declared.reading.LineFault.{LineFault}
use Rattle.cov_io.specs.declared.reading.LineFault.TheVariants as faults
use Rattle.cov_loop.specs.Counts.{Counts, counts}

-- whether a line has more bytes than a line of the program's input may have
abbrev pub is_long : List ℕ → Bool
is_long line = nat_lt MOST_SCRIPT_LINE_BYTES (length line)

-- the lines that are kept: none where one is too long
abbrev pub kept_lines : List (List ℕ) → Option (List (List ℕ))
kept_lines lines = if list_any is_long lines then None else Some lines

-- the lines that are kept with one more
abbrev pub kept_with : Option (List (List ℕ)) → List ℕ → Option (List (List ℕ))
kept_with None line = None
kept_with (Some lines) line = if is_long line then None else Some (lines ++ line ∷ [])

-- the first line of a text is kept, and the others are ahead
pub record TakesFirst (text : List ℕ) (old new : Option (List (List ℕ))) (ahead : Option (List ℕ)) : Type 0 where
  pub line : List ℕ
  pub rest : List ℕ
  pub lines : lines_of text ≡ line ∷ lines_of rest
  pub ahead_is : ahead ≡ Some rest
  pub kept : new ≡ kept_with old line

-- the text has no line
pub record TakesNone (text : List ℕ) (old new : Option (List (List ℕ))) (ahead : Option (List ℕ)) : Type 0 where
  pub text_is : text ≡ []
  pub ahead_is : ahead ≡ Some []
  pub kept : new ≡ old

-- the next line of a text is kept, by whether there is one
abbrev pub TakesNext : List ℕ → Option (List (List ℕ)) → Option (List (List ℕ)) → Option (List ℕ) → Bool → Type 0
TakesNext text old new ahead true = TakesFirst text old new ahead
TakesNext text old new ahead false = TakesNone text old new ahead

-- what a source counts: its faults, its bytes and its ends
abbrev pub source_counts : ℕ → ℕ → ℕ → Counts
source_counts faults given ends = counts faults 0 0 0 given ends

-- why no line is given
abbrev pub StopsAt : LineFault → Progress → Counts → Counts → Type 0
StopsAt faults.ReadFault progress old new = Rose old.source new.source
StopsAt faults.TooMuch progress old new = IsTooMuch progress
StopsAt faults.Memory progress old new = Unit {0}

-- why a source isn't read to its end
abbrev pub StopsReading : LineFault → Counts → Counts → Type 0
StopsReading faults.ReadFault old new = Rose old.source new.source
StopsReading faults.TooMuch old new = (old.given + TOO_MANY_SCRIPT_BYTES ≤ new.given) × (new.ends ≡ old.ends)
StopsReading faults.Memory old new = Unit {0}

-- what was kept, if all was read
abbrev pub read_of : {X : Type 0} → Option (List (List ℕ)) → Result X LineFault → Result (Option (List (List ℕ))) LineFault
read_of kept (Ok x) = Ok kept
read_of kept (Err fault) = Err fault
