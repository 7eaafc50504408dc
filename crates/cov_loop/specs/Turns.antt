-- What is done in one turn, and in several.
use Rattle.std.specs.Prelude.{◌≡◌, ℕ, ◌+◌, ◌<◌, ◌≤◌, Bool, true, false, List, [], ◌∷◌, ◌++◌, length, Option, Some, IfSome, Result, Ok, Err}
use Rattle.std.specs.Option.{option_map}
use Rattle.cov_base.specs.Causes.{Rose}
use Rattle.cov_base.specs.Lines.{lines_of}
use Rattle.cov_base.specs.declared.limits.TheConstants.{TOO_MANY_SCRIPT_BYTES}
use Rattle.cov_io.specs.Devices.{AppendsAll, AppendsSome}
use Rattle.cov_io.specs.Progress.{Progress, IsTooMuch, potential}
use Rattle.cov_io.specs.declared.reading.LineFault.{LineFault}
use Rattle.cov_io.specs.declared.reading.LineFault.TheVariants as faults
use Rattle.cov_loop.specs.Answers.{IsServed}
use Rattle.cov_loop.specs.Counts.{Counts}
use Rattle.cov_loop.specs.Outcome.{Outcome, answers}
use Rattle.cov_loop.specs.declared.answer.Answer.{Answer}
use Rattle.cov_loop.specs.declared.ending.Ending.{Ending}
use Rattle.cov_loop.specs.declared.ending.Ending.TheVariants as endings
use Rattle.cov_loop.specs.declared.turn.Turn.{Turn}
use Rattle.cov_loop.specs.declared.turn.Turn.TheVariants.{Ended, Served}
use Rattle.cov_out.specs.declared.row.OutRow.{OutRow}

-- what was written before has the first few of these after it
pub record WritesFront {X : Type 0} (before all : List X) (written : Option (List X)) : Type 0 where
  pub first : List X
  pub rest : List X
  pub front : all ≡ first ++ rest
  pub is : written ≡ Some (before ++ first)

-- so many bytes and rows were written that wherever the replies to the first few lines are among the bytes, the rows of these lines are among the rows
pub record RowsComeFirst {S : Type 0} (step : S → List ℕ → Outcome S) (start : S) (lines : List (List ℕ)) (bytes_before : List ℕ) (rows_before : List OutRow) (written : Option (List ℕ)) (grown : Option (List OutRow)) : Type 0 where
  pub bytes : List ℕ
  pub rows : List OutRow
  pub bytes_are : written ≡ Some (bytes_before ++ bytes)
  pub rows_are : grown ≡ Some (rows_before ++ rows)
  pub first : (ls ms : List (List ℕ)) → lines ≡ ls ++ ms
      → length (answers step start ls).reply ≤ length bytes → length (answers step start ls).rows ≤ length rows

-- the bytes that are ahead of a reader of lines, if they are told
abbrev pub ahead_of : Progress → Option (List ℕ) → Option (List ℕ)
ahead_of progress left = option_map (λ bytes. progress.ahead ++ bytes) left

-- a line that was served, or how it ends the run, as a turn
abbrev pub turn_of : Result Answer Ending → Result Turn Ending
turn_of (Ok answer) = Ok (Served answer)
turn_of (Err ending) = Err ending

-- how each fault ends the run
abbrev pub ending_of : LineFault → Ending
ending_of faults.ReadFault = endings.ReadFault
ending_of faults.TooMuch = endings.TooMuch
ending_of faults.Memory = endings.NoMemory

-- how a script ends
abbrev pub ending_at_end : Bool → Ending
ending_at_end true = endings.SomeRefused
ending_at_end false = endings.Done

-- what was written of bytes and of rows, each if it is told
pub record Output : Type 0 where
  pub bytes : Option (List ℕ)
  pub rows : Option (List OutRow)

-- an output of these parts
abbrev pub output : Option (List ℕ) → Option (List OutRow) → Output
output bytes rows = record { bytes = bytes; rows = rows }

-- the reply and the rows of an outcome were written
pub record WritesAll {S : Type 0} (outcome : Outcome S) (old new : Output) : Type 0 where
  pub bytes : AppendsAll outcome.reply old.bytes new.bytes
  pub rows : AppendsAll outcome.rows old.rows new.rows

-- no line of a text was served
pub record ServesNone {S : Type 0} (state : S) (text : List ℕ) (next : S) (ahead : Option (List ℕ)) (old new : Output) : Type 0 where
  pub text_is : text ≡ []
  pub next_is : next ≡ state
  pub ahead_is : ahead ≡ Some []
  pub same : new ≡ old

-- the first line of a text was served
pub record ServesFirst {S : Type 0} (step : S → List ℕ → Outcome S) (state : S) (text : List ℕ) (next : S) (answer : Answer) (ahead : Option (List ℕ)) (old new : Output) : Type 0 where
  pub line : List ℕ
  pub rest : List ℕ
  pub lines : lines_of text ≡ line ∷ lines_of rest
  pub ahead_is : ahead ≡ Some rest
  pub served : IsServed (step state line) next answer
  pub written : WritesAll (step state line) old new

-- the run stopped, the first few bytes and rows of the lines of a text having been written, the rows first
pub record StopsAmid {S : Type 0} (step : S → List ℕ → Outcome S) (state : S) (text : List ℕ) (old new : Output) : Type 0 where
  pub bytes : AppendsSome (answers step state (lines_of text)).reply old.bytes new.bytes
  pub rows : AppendsSome (answers step state (lines_of text)).rows old.rows new.rows
  pub first : (bytes : List ℕ) (rows : List OutRow) → old.bytes ≡ Some bytes → old.rows ≡ Some rows
      → RowsComeFirst step state (lines_of text) bytes rows new.bytes new.rows

-- what one turn does with a text that is ahead, and the state after it
abbrev pub Turned : {S : Type 0} → (S → List ℕ → Outcome S) → S → List ℕ → S → Option (List ℕ) → Output → Output → Turn → Type 0
Turned step state text next ahead old new Ended = ServesNone state text next ahead old new
Turned step state text next ahead old new (Served answer) = ServesFirst step state text next answer ahead old new

-- what one turn does with a text that is ahead, and the state after it, or a stop within it
abbrev pub Turns : {S : Type 0} → (S → List ℕ → Outcome S) → S → List ℕ → S → Option (List ℕ) → Output → Output → Result Turn Ending → Type 0
Turns step state text next ahead old new (Ok turn) = Turned step state text next ahead old new turn
Turns step state text next ahead old new (Err ending) = StopsAmid step state text old new

-- why a turn ends the run
abbrev pub StopsTurn : Ending → Progress → Counts → Counts → Type 0
StopsTurn endings.NoMemory progress old new = Unit {0}
StopsTurn endings.ReadFault progress old new = Rose old.source new.source
StopsTurn endings.WriteFault progress old new = Rose old.sink new.sink
StopsTurn endings.DiskFault progress old new = Rose old.disk new.disk
StopsTurn endings.TreesFault progress old new = Rose old.trees new.trees
StopsTurn endings.TooMuch progress old new = IsTooMuch progress
StopsTurn _ progress old new = ⊥

-- fewer turns can follow
abbrev pub Falls : Progress → Progress → Turn → Type 0
Falls old new Ended = Unit {0}
Falls old new (Served answer) = potential new < potential old

-- so far into a script: its first lines were served, what they give was written, and the others are ahead
pub record GoesOn {S : Type 0} (step : S → List ℕ → Outcome S) (start : S) (text : List ℕ) (state : S) (refused : Bool) (ahead : Option (List ℕ)) (old new : Output) : Type 0 where
  pub served : List (List ℕ)
  pub rest : List ℕ
  pub lines : lines_of text ≡ served ++ lines_of rest
  pub ahead_is : ahead ≡ Some rest
  pub state_is : state ≡ (answers step start served).state
  pub refused_is : refused ≡ (answers step start served).is_refused
  pub written : WritesAll (answers step start served) old new

-- the whole of an outcome is written, the text is read to its end, and the ending says whether a line was refused
abbrev pub EndsWith : {S : Type 0} → Bool → Outcome S → List ℕ → Option (List ℕ) → Option (List ℕ) → Type 0
EndsWith refused outcome before left written = (outcome.is_refused ≡ refused) × (left ≡ Some []) × (written ≡ Some (before ++ outcome.reply))

-- a run that comes to the end has served its whole script
abbrev pub IsWhole : {S : Type 0} → Ending → Outcome S → List ℕ → Option (List ℕ) → Option (List ℕ) → Type 0
IsWhole endings.Done outcome before left written = EndsWith false outcome before left written
IsWhole endings.SomeRefused outcome before left written = EndsWith true outcome before left written
IsWhole _ outcome before left written = Unit {0}

-- a run that comes to the end has read its script to the end, and its ending says whether a line was refused
abbrev pub ReadsOut : {S : Type 0} → Ending → Outcome S → Option (List ℕ) → Type 0
ReadsOut endings.Done outcome left = (outcome.is_refused ≡ false) × (left ≡ Some [])
ReadsOut endings.SomeRefused outcome left = (outcome.is_refused ≡ true) × (left ≡ Some [])
ReadsOut _ outcome left = Unit {0}

-- a run that comes to the end has written all rows of its script
abbrev pub HasRows : {S : Type 0} → Ending → Outcome S → List OutRow → Option (List OutRow) → Type 0
HasRows endings.Done outcome before grown = grown ≡ Some (before ++ outcome.rows)
HasRows endings.SomeRefused outcome before grown = grown ≡ Some (before ++ outcome.rows)
HasRows _ outcome before grown = Unit {0}

-- what holds where a run comes to the end
abbrev pub AtEnd : Ending → Type 0 → Type 0
AtEnd endings.Done P = P
AtEnd endings.SomeRefused P = P
AtEnd _ P = Unit {0}

-- where a run comes to the end, bytes that are told are stored for the state that its whole script gives
abbrev pub HasStored : {S : Type 0} → Ending → (S → List ℕ → Type 0) → Outcome S → Option (List ℕ) → Type 0
HasStored endings.Done stored outcome contents = IfSome contents (stored outcome.state)
HasStored endings.SomeRefused stored outcome contents = IfSome contents (stored outcome.state)
HasStored _ stored outcome contents = Unit {0}

-- too many bytes were taken since the start and no read answered 0
abbrev pub TooMuchSince : Progress → Counts → Counts → Type 0
TooMuchSince start old new = (TOO_MANY_SCRIPT_BYTES + old.given ≤ start.taken + new.given) × (start.ended ≡ false) × (new.ends ≡ old.ends)

-- why the serving of a script ends as it does
abbrev pub StopsScript : Ending → Progress → Counts → Counts → Type 0
StopsScript endings.Done start old new = Unit {0}
StopsScript endings.SomeRefused start old new = Unit {0}
StopsScript endings.NoMemory start old new = Unit {0}
StopsScript endings.ReadFault start old new = Rose old.source new.source
StopsScript endings.WriteFault start old new = Rose old.sink new.sink
StopsScript endings.DiskFault start old new = Rose old.disk new.disk
StopsScript endings.TreesFault start old new = Rose old.trees new.trees
StopsScript endings.TooMuch start old new = TooMuchSince start old new
