-- What a run of the program promises.
use Rattle.std.specs.Prelude.{◌≡◌, ℕ, zero, suc, Bool, true, false, List, [], ◌∷◌, ◌++◌, length, Option, Some, None, codes, if◌then◌else◌}
use Rattle.std.specs.Fmt.{decimal}
use Rattle.std.specs.Str.{bytes_eq}
use Rattle.cov_base.specs.Causes.{Rose}
use Rattle.cov_edit.specs.declared.command.Command.{Command}
use Rattle.cov_io.specs.Devices.{AppendsAll, AppendsSome}
use Rattle.cov_io.specs.Progress.{Progress}
use Rattle.cov_loop.specs.Counts.{Counts}
use Rattle.cov_loop.specs.Turns.{TooMuchSince}
use Rattle.cov_script.specs.Fields.{long_number_of, new_path_of}
use Rattle.cov_script.specs.Readers.{reads_variant}
use Rattle.cov_script.specs.Replies.{code_text, refused_reply, IsCodeOf}
use Rattle.cov_codes.specs.Codes.{refusal_code}
use Rattle.cov_codes.specs.declared.stop.Stop.{Stop}
use Rattle.cov_codes.specs.declared.stop.Stop.TheVariants as stops
use Rattle.cov_serve.specs.declared.status.Status.{Status}
use Rattle.cov_serve.specs.declared.status.Status.TheVariants as statuses
use Rattle.cov_store.specs.Stands.{StandsFor}
use Rattle.cov_store.specs.declared.damage.StoreDamage.{StoreDamage}
use Rattle.cov_store.specs.declared.damage.StoreDamage.TheVariants as damages
use Rattle.cov_store.specs.declared.damage.StoreFault.{StoreFault}
use Rattle.cov_store.specs.declared.damage.StoreFault.TheVariants as faults

-- whether words are one alone, and which
abbrev pub is_lone : List ℕ → List (List ℕ) → Bool
is_lone wanted (word ∷ []) = bytes_eq word wanted
is_lone wanted words = false

-- what is written where the words are of no form
abbrev pub usage_line : List ℕ
usage_line = codes "usage: covstore run | check | demo N | import PATH | replica LINE\n"

-- what is written where a store is whole
abbrev pub check_line : List Command → List ℕ
check_line history = codes "ok " ++ (decimal (length history) ++ codes " records\n")

-- the number behind the word demo, if the words are these two
abbrev pub demo_number : List (List ℕ) → Option ℕ
demo_number (word ∷ number ∷ []) = if bytes_eq word (codes "demo") then long_number_of number else None
demo_number words = None

-- the path behind the word import, if the words are these two; it isn't that of the root
abbrev pub import_path : List (List ℕ) → Option (List (List ℕ))
import_path (word ∷ path ∷ []) = if bytes_eq word (codes "import") then new_path_of path else None
import_path words = None

-- words with a space before each
abbrev pub spaced : List (List ℕ) → List ℕ
spaced [] = []
spaced (word ∷ words) = codes " " ++ (word ++ spaced words)

-- a line, if it reads a variant
abbrev pub if_reader : List ℕ → Option (List ℕ)
if_reader line = if reads_variant line then Some line else None

-- the line that the words behind the word replica are, joined by spaces, if there is a word and the line reads a variant
abbrev pub replica_line : List (List ℕ) → Option (List ℕ)
replica_line (word ∷ first ∷ others) = if bytes_eq word (codes "replica") then if_reader (first ++ spaced others) else None
replica_line words = None

-- what is written where a journal's bytes were taken, of this history
abbrev pub taken_line : List Command → List ℕ
taken_line history = codes "ok replica " ++ (decimal (length history) ++ codes "\n")

-- what is written where the script that a number stands for was served
abbrev pub demo_line : ℕ → List ℕ
demo_line number = codes "ok demo " ++ (decimal number ++ codes "\n")

-- the words that tell what is wrong with a record
abbrev pub cause_text : List (List ℕ) → StoreDamage → List ℕ
cause_text names damages.Cut = codes "cut"
cause_text names damages.Digest = codes "digest"
cause_text names damages.NotARecord = codes "record"
cause_text names (damages.Refused refusal) = codes "refused " ++ code_text names (refusal_code refusal)

-- what is written where a disk holds no store
abbrev pub not_a_store_line : List ℕ
not_a_store_line = codes "not-a-store\n"

-- what is written where the record with a number is damaged, these options being declared before it
abbrev pub damaged_line : List (List ℕ) → ℕ → StoreDamage → List ℕ
damaged_line names number cause = codes "damaged " ++ (decimal number ++ (codes " " ++ (cause_text names cause ++ codes "\n")))

-- a read of the disk gives an image that stands for a history
abbrev pub ReadsAs : Option (List ℕ) → List Command → Type 0
ReadsAs None history = ⊥
ReadsAs (Some image) history = StandsFor image history

-- a reader of lines that has taken nothing
abbrev pub at_first : Progress
at_first = record { ahead = []; taken = 0; ended = false }

-- a run that served its whole script
abbrev pub EndsServed : Status → Type 0
EndsServed statuses.Done = Unit {0}
EndsServed statuses.SomeRefused = Unit {0}
EndsServed status = ⊥

-- what holds with the status of a run that served its whole script, by whether a line was refused
abbrev pub OnServed : Status → (Bool → Type 0) → Type 0
OnServed statuses.Done P = P false
OnServed statuses.SomeRefused P = P true
OnServed status P = Unit {0}

-- a run ends with the status that its last line has, unless the sink fails or memory is wanting
abbrev pub EndsWithLine : Status → ℕ → ℕ → Status → Type 0
EndsWithLine wanted sink sink' statuses.NoMemory = Unit {0}
EndsWithLine wanted sink sink' statuses.WriteFault = Rose sink sink'
EndsWithLine wanted sink sink' status = status ≡ wanted

-- the last line of a run is put, whole where the run ends with its status
pub record PutsLast (wanted : Status) (line : List ℕ) (old new : Option (List ℕ)) (sink sink' : ℕ) (status : Status) : Type 0 where
  pub front : AppendsSome line old new
  pub whole : status ≡ wanted → AppendsAll line old new
  pub ends : EndsWithLine wanted sink sink' status

-- nothing is put
pub record PutsNone (wanted : Status) (old new : Option (List ℕ)) (status : Status) : Type 0 where
  pub is : status ≡ wanted
  pub same : new ≡ old

-- it is told why a store isn't opened
abbrev pub TellsFault : StoreFault → Option (List ℕ) → Option (List ℕ) → ℕ → ℕ → Status → Type 0
TellsFault faults.NotAStore old new sink sink' status = PutsLast statuses.NotAStore not_a_store_line old new sink sink' status
TellsFault (faults.Damaged number cause options) old new sink sink' status =
    PutsLast (statuses.Damaged number cause) (damaged_line options.names number cause) old new sink sink' status
TellsFault faults.DiskFault old new sink sink' status = PutsNone statuses.DiskFault old new status
TellsFault faults.Memory old new sink sink' status = PutsNone statuses.NoMemory old new status

-- a refusal can be told with so many options
abbrev pub IsCauseOf : ℕ → StoreDamage → Type 0
IsCauseOf count (damages.Refused refusal) = IsCodeOf count (refusal_code refusal)
IsCauseOf count cause = Unit {0}

-- what is to be told can be told
abbrev pub DamageCanBeTold : StoreFault → Type 0
DamageCanBeTold (faults.Damaged number cause options) = IsCauseOf (length options.names) cause
DamageCanBeTold fault = Unit {0}

-- why the run of a script over a disk that stands for a history ends as it does
abbrev pub StopsServing : Counts → Counts → Status → Type 0
StopsServing old new statuses.Done = Unit {0}
StopsServing old new statuses.SomeRefused = Unit {0}
StopsServing old new statuses.NoMemory = Unit {0}
StopsServing old new statuses.ReadFault = Rose old.source new.source
StopsServing old new statuses.WriteFault = Rose old.sink new.sink
StopsServing old new statuses.DiskFault = Rose old.disk new.disk
StopsServing old new statuses.TreesFault = Rose old.trees new.trees
StopsServing old new statuses.TooMuch = TooMuchSince at_first old new
StopsServing old new status = ⊥

-- why the run of the script that a number stands for ends as it does
abbrev pub StopsDemo : Status → ℕ → ℕ → ℕ → ℕ → ℕ → ℕ → Type 0
StopsDemo statuses.Done sink sink' disk disk' trees trees' = Unit {0}
StopsDemo statuses.NoMemory sink sink' disk disk' trees trees' = Unit {0}
StopsDemo statuses.WriteFault sink sink' disk disk' trees trees' = Rose sink sink'
StopsDemo statuses.DiskFault sink sink' disk disk' trees trees' = Rose disk disk'
StopsDemo statuses.TreesFault sink sink' disk disk' trees trees' = Rose trees trees'
StopsDemo status sink sink' disk disk' trees trees' = ⊥

-- why the adding of commits ends as it does
abbrev pub StopsAdding : Status → ℕ → ℕ → ℕ → ℕ → Type 0
StopsAdding statuses.Done sink sink' disk disk' = Unit {0}
StopsAdding statuses.NoMemory sink sink' disk disk' = Unit {0}
StopsAdding statuses.WriteFault sink sink' disk disk' = Rose sink sink'
StopsAdding statuses.DiskFault sink sink' disk disk' = Rose disk disk'
StopsAdding status sink sink' disk disk' = ⊥

-- it is told why a text isn't taken in, these options being declared
abbrev pub TellsStop : List (List ℕ) → Stop → Option (List ℕ) → Option (List ℕ) → ℕ → ℕ → Status → Type 0
TellsStop names stops.Memory old new sink sink' status = PutsNone statuses.NoMemory old new status
TellsStop names (stops.Refused code) old new sink sink' status = PutsLast statuses.SomeRefused (refused_reply names code) old new sink sink' status

-- a line tells a refusal; there is none where memory is wanting
abbrev pub IsLineOf : List (List ℕ) → Stop → List ℕ → Type 0
IsLineOf names stops.Memory line = ⊥
IsLineOf names (stops.Refused code) line = line ≡ refused_reply names code

-- the code of a refusal names only options among so many
abbrev pub StopCanBeTold : ℕ → Stop → Type 0
StopCanBeTold count stops.Memory = Unit {0}
StopCanBeTold count (stops.Refused code) = IsCodeOf count code

-- a text of so many lines, each of which asks for a commit
abbrev pub commit_text : ℕ → List ℕ
commit_text zero = []
commit_text (suc n) = 120 ∷ 10 ∷ commit_text n
