-- How the program ends.
use Rattle.std.specs.Prelude.{ℕ}
use Rattle.cov_base.specs.Causes.{Rose}
use Rattle.cov_io.specs.declared.reading.LineFault.{LineFault}
use Rattle.cov_io.specs.declared.reading.LineFault.TheVariants as faults
use Rattle.cov_loop.specs.declared.answer.Answer.{Answer}
use Rattle.cov_loop.specs.declared.answer.Answer.TheVariants as answers
use Rattle.cov_loop.specs.declared.ending.Ending.{Ending}
use Rattle.cov_loop.specs.declared.ending.Ending.TheVariants as endings
use Rattle.cov_serve.specs.declared.status.Status.{Status}
use Rattle.cov_serve.specs.declared.status.Status.TheVariants.{Done, SomeRefused, Usage, NoMemory, ReadFault, WriteFault, DiskFault, TreesFault, NotAStore, Damaged, TooMuch}

-- the exit status of each ending
abbrev pub code_of : Status → ℕ
code_of Done = 0
code_of SomeRefused = 1
code_of Usage = 2
code_of NoMemory = 3
code_of ReadFault = 4
code_of WriteFault = 5
code_of DiskFault = 6
code_of TreesFault = 7
code_of NotAStore = 8
code_of (Damaged number cause) = 9
code_of TooMuch = 10

-- how a run ends whose lines were served to such an ending
abbrev pub status_of : Ending → Status
status_of endings.Done = Done
status_of endings.SomeRefused = SomeRefused
status_of endings.NoMemory = NoMemory
status_of endings.ReadFault = ReadFault
status_of endings.WriteFault = WriteFault
status_of endings.DiskFault = DiskFault
status_of endings.TreesFault = TreesFault
status_of endings.TooMuch = TooMuch

-- how a run ends whose source can't be read to its end
abbrev pub fault_status : LineFault → Status
fault_status faults.ReadFault = ReadFault
fault_status faults.TooMuch = TooMuch
fault_status faults.Memory = NoMemory

-- how a run ends whose commits were added to such an ending
abbrev pub added_status : Ending → Status
added_status endings.Done = Done
added_status endings.SomeRefused = Done
added_status endings.NoMemory = NoMemory
added_status endings.ReadFault = ReadFault
added_status endings.WriteFault = WriteFault
added_status endings.DiskFault = DiskFault
added_status endings.TreesFault = TreesFault
added_status endings.TooMuch = TooMuch

-- how a run ends whose line was answered so
abbrev pub answered_status : Answer → Status
answered_status answers.Accepted = Done
answered_status answers.Refused = SomeRefused
answered_status answers.Nothing = Done

-- why a line ends the run, the counts of faults of the sink, the disk and the trees being known before and after
abbrev pub StopsWithStatus : Status → ℕ → ℕ → ℕ → ℕ → ℕ → ℕ → Type 0
StopsWithStatus NoMemory sink sink' disk disk' trees trees' = Unit {0}
StopsWithStatus WriteFault sink sink' disk disk' trees trees' = Rose sink sink'
StopsWithStatus DiskFault sink sink' disk disk' trees trees' = Rose disk disk'
StopsWithStatus TreesFault sink sink' disk disk' trees trees' = Rose trees trees'
StopsWithStatus _ sink sink' disk disk' trees trees' = ⊥
