-- What the words of the program come to.
use Rattle.std.specs.Prelude.{◌≡◌, ◌⊎◌, ℕ, ◌+◌, ◌<◌, ◌≤◌, Bool, true, false, List, [], ◌∷◌, ◌++◌, length, take, Option, Some, None, IfSome, Ok, Err, codes, if◌then◌else◌}
use Rattle.std.specs.List.{list_all}
use Rattle.cov_base.specs.Causes.{Rose}
use Rattle.cov_base.specs.Lines.{lines_of}
use Rattle.cov_base.specs.Spelling.{is_name}
use Rattle.cov_base.specs.declared.limits.TheConstants.{TOO_MANY_SCRIPT_BYTES}
use Rattle.cov_edit.specs.History.{options_of}
use Rattle.cov_edit.specs.declared.command.Command.{Command}
use Rattle.cov_import.specs.Taking.{taken_in}
use Rattle.cov_journal.specs.Reading.{IsNoStore}
use Rattle.cov_loop.specs.Counts.{Counts}
use Rattle.cov_loop.specs.Outcome.{Outcome, answers}
use Rattle.cov_out.specs.declared.row.OutRow.{OutRow}
use Rattle.cov_replica.specs.Laws.{as_store_damage}
use Rattle.cov_replica.specs.Taken.{taken}
use Rattle.cov_replica.specs.declared.fault.ReplicaDamage.{ReplicaDamage}
use Rattle.cov_replica.specs.declared.fault.ReplicaFault.{ReplicaFault}
use Rattle.cov_replica.specs.declared.fault.ReplicaFault.TheVariants as faults
use Rattle.cov_script.specs.Demonstration.{checkout_lines, made_lines}
use Rattle.cov_script.specs.Readers.{reads_variant}
use Rattle.cov_script.specs.Replies.{commit_reply, refused_reply}
use Rattle.cov_serve.specs.Program.{EndsServed, ReadsAs, check_line, damaged_line, demo_line, demo_number, import_path, is_lone, not_a_store_line, replica_line, taken_line, usage_line}
use Rattle.cov_lines.specs.Finding.{Found}
use Rattle.cov_lines.specs.States.{State, starting}
use Rattle.cov_lines.specs.Step.{model, step}
use Rattle.cov_serve.specs.declared.job.Job.{Job}
use Rattle.cov_serve.specs.declared.job.Job.TheVariants.{OnStore, Replica, Unknown}
use Rattle.cov_serve.specs.declared.job.StoreJob.TheVariants.{Run, Check, Demo, Import}
use Rattle.cov_serve.specs.declared.status.Status.{Status}
use Rattle.cov_serve.specs.declared.status.Status.TheVariants as statuses
use Rattle.cov_store.specs.Damages.{HasDamage, IsUnopened}
use Rattle.cov_store.specs.Stands.{StandsFor}
use Rattle.cov_store.specs.declared.damage.StoreDamage.{StoreDamage}

-- a path has a name, and each of its names is spelt as one
abbrev pub IsNewPath : List (List ℕ) → Type 0
IsNewPath path = (0 < length path) × (list_all is_name path ≡ true)

-- the job of the word import, by the path behind it
abbrev pub import_job : Option (List (List ℕ)) → Job
import_job None = Unknown
import_job (Some path) = OnStore (Import path)

-- the job of the word demo, by the number behind it, or another one
abbrev pub demo_job : Option ℕ → Job → Job
demo_job None other = other
demo_job (Some number) other = OnStore (Demo number)

-- the job that words are of, if they aren't those of a replica
abbrev pub store_job : List (List ℕ) → Job
store_job words =
    if is_lone (codes "run") words then OnStore Run
    else (if is_lone (codes "check") words then OnStore Check else demo_job (demo_number words) (import_job (import_path words)))

-- the job of the word replica, by the line behind it, or another one
abbrev pub replica_job : Option (List ℕ) → Job → Job
replica_job None other = other
replica_job (Some line) other = Replica line

-- the job that words are of
abbrev pub job_of : List (List ℕ) → Job
job_of words = replica_job (replica_line words) (store_job words)

-- the path of an import has a last name, and each is spelt as one; the line of a replica reads a variant
abbrev pub IsNamed : Job → Type 0
IsNamed (OnStore Run) = Unit {0}
IsNamed (OnStore Check) = Unit {0}
IsNamed (OnStore (Demo number)) = Unit {0}
IsNamed (OnStore (Import path)) = IsNewPath path
IsNamed (Replica line) = reads_variant line ≡ true
IsNamed Unknown = Unit {0}

-- whether a job opens the disk
abbrev pub opens_disk : Job → Bool
opens_disk (OnStore job) = true
opens_disk (Replica line) = false
opens_disk Unknown = false

-- whether it reads the source
abbrev pub reads_source : Job → Bool
reads_source (OnStore Run) = true
reads_source (OnStore Check) = false
reads_source (OnStore (Demo number)) = false
reads_source (OnStore (Import path)) = true
reads_source (Replica line) = true
reads_source Unknown = false

-- whether it writes rows of trees
abbrev pub writes_trees : Job → Bool
writes_trees (OnStore Run) = true
writes_trees (OnStore Check) = false
writes_trees (OnStore (Demo number)) = true
writes_trees (OnStore (Import path)) = false
writes_trees (Replica line) = true
writes_trees Unknown = false

-- whether a part of its work can be refused
abbrev pub can_refuse : Job → Bool
can_refuse (OnStore Run) = true
can_refuse (OnStore Check) = false
can_refuse (OnStore (Demo number)) = false
can_refuse (OnStore (Import path)) = true
can_refuse (Replica line) = true
can_refuse Unknown = false

-- whether all that it adds is stored before the first byte is written
abbrev pub stores_first : Job → Bool
stores_first (OnStore Run) = false
stores_first (OnStore Check) = true
stores_first (OnStore (Demo number)) = true
stores_first (OnStore (Import path)) = false
stores_first (Replica line) = true
stores_first Unknown = true

-- one reply of a run, the rows of trees that are written before it, and the history that is stored by then
pub record Turn : Type 0 where
  pub reply : List ℕ
  pub rows : List OutRow
  pub history : List Command

-- all replies in order
abbrev pub replies : List Turn → List ℕ
replies [] = []
replies (t ∷ ts) = t.reply ++ replies ts

-- all rows in order
abbrev pub rows_of : List Turn → List OutRow
rows_of [] = []
rows_of (t ∷ ts) = t.rows ++ rows_of ts

-- the history after some turns
abbrev pub history_after : List Command → List Turn → List Command
history_after history [] = history
history_after history (t ∷ ts) = history_after t.history ts

-- all that a run does where nothing fails: its turns, the status that ends it, whether it reads the source to its end, and whether
-- it writes to the trees
pub record JobOutcome : Type 0 where
  pub turns : List Turn
  pub status : Status
  pub reads : Bool
  pub writes : Bool

-- a line of a script as a turn
abbrev pub line_turn : Outcome State → Turn
line_turn line = record { reply = line.reply; rows = line.rows; history = line.state.history }

-- the lines of a script, one after another
abbrev pub line_turns : State → List (List ℕ) → List Turn
line_turns st [] = []
line_turns st (line ∷ lines) = line_turn (step st line) ∷ line_turns (step st line).state lines

-- the status that ends a script, by whether a line was refused
abbrev pub served_status : Bool → Status
served_status true = statuses.SomeRefused
served_status false = statuses.Done

-- a script is served
abbrev pub served_script : List Command → List ℕ → JobOutcome
served_script history text = record {
  turns = line_turns (starting history) (lines_of text);
  status = served_status (model history text).is_refused;
  reads = true;
  writes = true;
}

-- turns before whose first reply these rows are written too
abbrev pub behind_rows : List OutRow → List Turn → List Turn
behind_rows rows [] = []
behind_rows rows (t ∷ ts) = record { reply = t.reply; rows = rows ++ t.rows; history = t.history } ∷ ts

-- lines behind others whose replies aren't told, and a last line
abbrev pub turns_after : List Command → List ℕ → List ℕ → List ℕ → List Turn
turns_after history made told line =
    let before = model history made in
    behind_rows before.rows (line_turns before.state (lines_of told)
    ++ record { reply = line; rows = []; history = (answers step before.state (lines_of told)).state.history } ∷ [])

-- the script that a number stands for is served, and what its checkouts are replied is told, whatever that is
abbrev pub served_demo : List Command → ℕ → JobOutcome
served_demo history number = record {
  turns = turns_after history (made_lines number) checkout_lines (demo_line number);
  status = statuses.Done;
  reads = false;
  writes = true;
}

-- one line is told, and the history stays as it is
abbrev pub told_line : Status → List ℕ → List Command → JobOutcome
told_line status line history = record {
  turns = record { reply = line; rows = []; history = history } ∷ [];
  status = status;
  reads = false;
  writes = false;
}

-- one line is told of a disk that holds no history: there is none that its turn could leave
abbrev pub told_of_none : Status → List ℕ → JobOutcome
told_of_none status line = told_line status line []

-- commits that are added, one turn each
abbrev pub commit_turns : List Command → List Command → List Turn
commit_turns history [] = []
commit_turns history (command ∷ commands) =
    record { reply = commit_reply (length history + 1); rows = []; history = history ++ command ∷ [] } ∷ commit_turns (history ++ command ∷ []) commands

-- commits are added, or one line tells the code that refuses them, and the history stays as it is
abbrev pub imported_by : List Command → Found (List Command) → JobOutcome
imported_by history (Ok commits) = record { turns = commit_turns history commits; status = statuses.Done; reads = true; writes = false }
imported_by history (Err code) = record {
  turns = record { reply = refused_reply (options_of history) code; rows = []; history = history } ∷ [];
  status = statuses.SomeRefused;
  reads = true;
  writes = false;
}

-- a conditional text is added as a new file at a path
abbrev pub served_import : List Command → List (List ℕ) → List ℕ → JobOutcome
served_import history path text = imported_by history (taken_in history path text)

-- how many records were taken is told, and then the reply of a line over their history; the history of the disk, if it has one, stays
abbrev pub answered_replica : List ℕ → List Command → List Command → JobOutcome
answered_replica line taken history =
    let answered = step (starting taken) line in
    record {
      turns = record { reply = taken_line taken; rows = []; history = history } ∷ record { reply = answered.reply; rows = answered.rows; history = history } ∷ [];
      status = served_status answered.is_refused;
      reads = true;
      writes = true;
    }

-- one line is told of bytes that were read to their end
abbrev pub read_line : Status → List ℕ → List Command → JobOutcome
read_line status line history = record {
  turns = record { reply = line; rows = []; history = history } ∷ [];
  status = status;
  reads = true;
  writes = false;
}

-- the fault of the bytes is told; want of memory is none
abbrev pub faulty_replica : List Command → ReplicaFault → List Command → JobOutcome
faulty_replica taken faults.NotAStore history = read_line statuses.NotAStore not_a_store_line history
faulty_replica taken (faults.Damaged number cause) history =
    read_line (statuses.Damaged number (as_store_damage cause)) (damaged_line (options_of taken) number (as_store_damage cause)) history
faulty_replica taken (faults.Memory count) history = read_line statuses.NoMemory [] history

abbrev pub replica_by : List ℕ → List Command → Option ReplicaFault → List Command → JobOutcome
replica_by line taken None history = answered_replica line taken history
replica_by line taken (Some fault) history = faulty_replica taken fault history

-- a line is served over what is taken of bytes, or their fault is told
abbrev pub served_replica : List ℕ → List ℕ → List Command → JobOutcome
served_replica line text history = replica_by line (taken text).history (taken text).fault history

-- what a job comes to over a history and the text of the source
abbrev pub outcome : Job → List Command → List ℕ → JobOutcome
outcome (OnStore Run) history text = served_script history text
outcome (OnStore Check) history text = told_line statuses.Done (check_line history) history
outcome (OnStore (Demo number)) history text = served_demo history number
outcome (OnStore (Import path)) history text = served_import history path text
outcome (Replica line) history text = served_replica line text history
outcome Unknown history text = told_line statuses.Usage usage_line history

-- a job begins with this history, if it opens the disk, and with this text, if it reads the source; what it doesn't touch may be any
abbrev pub StartsFrom : Job → Option (List ℕ) → Option (List ℕ) → List Command → List ℕ → Type 0
StartsFrom (OnStore Run) contents left history text = ReadsAs contents history × (left ≡ Some text)
StartsFrom (OnStore Check) contents left history text = ReadsAs contents history
StartsFrom (OnStore (Demo number)) contents left history text = ReadsAs contents history
StartsFrom (OnStore (Import path)) contents left history text = ReadsAs contents history × (left ≡ Some text)
StartsFrom (Replica line) contents left history text = left ≡ Some text
StartsFrom Unknown contents left history text = Unit {0}

-- an image is no store, or damaged, and this is told
abbrev pub TellsImage : List ℕ → JobOutcome → Type 0
TellsImage image all =
    (IsNoStore image × (all ≡ told_of_none statuses.NotAStore not_a_store_line))
    ⊎ ((number : ℕ) × (cause : StoreDamage) × (damage : HasDamage image number cause)
    × (all ≡ told_of_none (statuses.Damaged number cause) (damaged_line (options_of damage.history) number cause)))

-- the same of what a read of the disk gives
abbrev pub TellsUnopened : Option (List ℕ) → JobOutcome → Type 0
TellsUnopened None all = ⊥
TellsUnopened (Some image) all = TellsImage image all

-- a job leaves a disk as it is: the disk can't be opened, or it has over 13 bytes, so that it isn't made anew, and the job adds no
-- command to its history
abbrev pub LeavesDisk : Job → Option (List ℕ) → Option (List ℕ) → Type 0
LeavesDisk job None left = ⊥
LeavesDisk job (Some image) left =
    IsUnopened image
    ⊎ ((history : List Command) × (text : List ℕ) × StartsFrom job (Some image) left history text
    × (13 < length image) × (length (history_after history (outcome job history text).turns) ≤ length history))

-- what a job comes to over its devices
abbrev pub ComesTo : Job → Option (List ℕ) → Option (List ℕ) → JobOutcome → Type 0
ComesTo job contents left all =
    ((history : List Command) × (text : List ℕ) × StartsFrom job contents left history text × (all ≡ outcome job history text))
    ⊎ ((opens_disk job ≡ true) × TellsUnopened contents all)

-- what holds of a run that came to its end
abbrev pub OnEnd : Status → Type 0 → Type 0
OnEnd statuses.Done P = P
OnEnd statuses.SomeRefused P = P
OnEnd statuses.Usage P = P
OnEnd statuses.NotAStore P = P
OnEnd (statuses.Damaged number cause) P = P
OnEnd statuses.NoMemory P = Unit {0}
OnEnd statuses.ReadFault P = Unit {0}
OnEnd statuses.WriteFault P = Unit {0}
OnEnd statuses.DiskFault P = Unit {0}
OnEnd statuses.TreesFault P = Unit {0}
OnEnd statuses.TooMuch P = Unit {0}

-- the source is read to its end, if it is to be
abbrev pub IsReadOut : Bool → Option (List ℕ) → Type 0
IsReadOut true left = left ≡ Some []
IsReadOut false left = Unit {0}

-- a run ended with the status of its outcome, the source being read as that says
pub record EndsAs (all : JobOutcome) (status : Status) (left : Option (List ℕ)) : Type 0 where
  pub status_is : status ≡ all.status
  pub read : IsReadOut all.reads left

-- wherever the replies of the first few turns are among the bytes written, their rows are among the rows written
pub record RowsPrecede (turns : List Turn) (bytes_before : List ℕ) (rows_before : List OutRow)
    (written : Option (List ℕ)) (grown : Option (List OutRow)) : Type 0 where
  pub bytes : List ℕ
  pub rows : List OutRow
  pub bytes_are : written ≡ Some (bytes_before ++ bytes)
  pub rows_are : grown ≡ Some (rows_before ++ rows)
  pub first : (ts us : List Turn) → turns ≡ ts ++ us
      → length (replies ts) ≤ length bytes → length (rows_of ts) ≤ length rows

-- a status with which the disk is known to have the whole history that a job leaves: that of a run that came to its end, and any of a
-- job that adds nothing
abbrev pub IsSettled : Job → Status → Type 0
IsSettled (OnStore Run) status = EndsServed status
IsSettled (OnStore Check) status = Unit {0}
IsSettled (OnStore (Demo number)) status = EndsServed status
IsSettled (OnStore (Import path)) status = EndsServed status
IsSettled (Replica line) status = Unit {0}
IsSettled Unknown status = Unit {0}

-- an image stands for the history with the first few of the commands that the turns add
pub record StandsForFront (history : List Command) (turns : List Turn) (image : List ℕ) : Type 0 where
  pub count : ℕ
  pub least : length history ≤ count
  pub most : count ≤ length (history_after history turns)
  pub stands : StandsFor image (take count (history_after history turns))

-- and at least with the commands of the first few turns, wherever the whole replies of these are among so many bytes
pub record StandsForTold (history : List Command) (turns : List Turn) (bytes image : List ℕ) : Type 0 where
  pub front : StandsForFront history turns image
  pub told : (ts us : List Turn) → turns ≡ ts ++ us
      → length (replies ts) ≤ length bytes → length (history_after history ts) ≤ front.count

-- an image is that of a store: it stands for a history
abbrev pub IsStore : List ℕ → Type 0
IsStore image = (history : List Command) × StandsFor image history

-- bytes have this fault, where it is one of theirs
abbrev pub IsFaultTaken : Option ReplicaFault → List ℕ → Type 0
IsFaultTaken fault bytes = (taken bytes).fault ≡ fault

-- bytes have the damage that is told
abbrev pub IsDamageTaken : ℕ → StoreDamage → List ℕ → Type 0
IsDamageTaken number cause bytes = (own : ReplicaDamage) × (cause ≡ as_store_damage own) × IsFaultTaken (Some (faults.Damaged number own)) bytes

-- what a job works on is whole: the store of the disk, or what the source holds
abbrev pub IsWhole : Job → Option (List ℕ) → Option (List ℕ) → Type 0
IsWhole (OnStore job) contents left = IfSome contents IsStore
IsWhole (Replica line) contents left = IfSome left (IsFaultTaken None)
IsWhole Unknown contents left = ⊥

-- it is no store
abbrev pub IsNone : Job → Option (List ℕ) → Option (List ℕ) → Type 0
IsNone (OnStore job) contents left = IfSome contents IsNoStore
IsNone (Replica line) contents left = IfSome left (IsFaultTaken (Some faults.NotAStore))
IsNone Unknown contents left = ⊥

-- a record of it is the first that is damaged
abbrev pub IsBroken : Job → ℕ → StoreDamage → Option (List ℕ) → Option (List ℕ) → Type 0
IsBroken (OnStore job) number cause contents left = IfSome contents (λ image. HasDamage image number cause)
IsBroken (Replica line) number cause contents left = IfSome left (IsDamageTaken number cause)
IsBroken Unknown number cause contents left = ⊥

-- the cause of each status, whatever the disk and the source hold
abbrev pub IsCaused : Job → Option (List ℕ) → Option (List ℕ) → Counts → Counts → Status → Type 0
IsCaused job contents left old new statuses.Done = IsWhole job contents left
IsCaused job contents left old new statuses.SomeRefused = (can_refuse job ≡ true) × IsWhole job contents left
IsCaused job contents left old new statuses.Usage = job ≡ Unknown
IsCaused job contents left old new statuses.NoMemory = Unit {0}
IsCaused job contents left old new statuses.ReadFault = (reads_source job ≡ true) × Rose old.source new.source
IsCaused job contents left old new statuses.WriteFault = Rose old.sink new.sink
IsCaused job contents left old new statuses.DiskFault = (opens_disk job ≡ true) × Rose old.disk new.disk
IsCaused job contents left old new statuses.TreesFault = (writes_trees job ≡ true) × Rose old.trees new.trees
IsCaused job contents left old new statuses.NotAStore = IsNone job contents left
IsCaused job contents left old new (statuses.Damaged number cause) = IsBroken job number cause contents left
IsCaused job contents left old new statuses.TooMuch =
    (reads_source job ≡ true) × (old.given + TOO_MANY_SCRIPT_BYTES ≤ new.given) × (new.ends ≡ old.ends)

-- no count of faults rose, of the devices that the outcome has to do with
pub record NoneRose (job : Job) (all : JobOutcome) (old new : Counts) : Type 0 where
  pub source : all.reads ≡ true → Rose old.source new.source → ⊥
  pub sink : Rose old.sink new.sink → ⊥
  pub disk : opens_disk job ≡ true → Rose old.disk new.disk → ⊥
  pub trees : all.writes ≡ true → Rose old.trees new.trees → ⊥

-- the source isn't too long, if it is to be read
abbrev pub IsShort : Bool → Option (List ℕ) → Type 0
IsShort true left = IfSome left (λ text. length text < TOO_MANY_SCRIPT_BYTES)
IsShort false left = Unit {0}
