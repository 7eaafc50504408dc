-- Which history an image stands for.
use Rattle.std.specs.Prelude.{ℕ, List, map}
use Rattle.std.specs.List.{AllByRecursion}
use Rattle.cov_edit.specs.declared.command.Command.{Command}
use Rattle.cov_history.specs.Verdict.{IsLegal}
use Rattle.cov_journal.specs.Journal.{State, FitsState, Holds, IsWritten, gate_place}
use Rattle.cov_record.specs.FitsRecord.{FitsRecord}
use Rattle.cov_record.specs.Payload.{payload}

-- the payloads of a history's commands
abbrev pub payloads : List Command → List (List ℕ)
payloads history = map payload history

-- the image holds the payloads of a legal history, each command of which has a record
pub record StandsFor (image : List ℕ) (history : List Command) : Type 0 where
  pub legal : IsLegal history
  pub fits : AllByRecursion FitsRecord history
  pub holds : Holds image (payloads history)

-- the same of an image that has its header
pub record IsStored (image : List ℕ) (history : List Command) : Type 0 where
  pub legal : IsLegal history
  pub fits : AllByRecursion FitsRecord history
  pub written : IsWritten image (payloads history)

-- the journal goes on behind the records of a history
pub record IsJournalOf (journal : State) (history : List Command) : Type 0 where
  pub fits : FitsState journal (payloads history)
  pub records : AllByRecursion FitsRecord history

-- where the next gate stands behind a history
abbrev pub gate_of : List Command → ℕ
gate_of history = gate_place (payloads history)
