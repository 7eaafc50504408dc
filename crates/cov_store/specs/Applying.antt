-- How the application of a command ends where it isn't accepted.
use Rattle.std.specs.Prelude.{◌≡◌, ℕ, List, Option, None}
use Rattle.cov_dd.specs.Diagrams.{Extends}
use Rattle.cov_edit.specs.declared.command.Command.{Command}
use Rattle.cov_engine.specs.States.{EngineValue}
use Rattle.cov_history.specs.Verdict.{IsLegal, RefusedBy, verdict}
use Rattle.cov_history.specs.declared.refusal.Refusal.{Refusal}
use Rattle.cov_record.specs.Laws.{IsRecordOf}
use Rattle.cov_store.specs.declared.store.ApplyFault.{ApplyFault}
use Rattle.cov_store.specs.declared.store.ApplyFault.TheVariants as faults

-- a refusal is the verdict's; the disk fails only where the command is accepted
abbrev pub IsRefusedBy : Option Refusal → ApplyFault → Type 0
IsRefusedBy told (faults.Refused store refusal) = RefusedBy refusal told
IsRefusedBy told faults.DiskFault = told ≡ None

-- a refusal hands back a store of the same history, in which every node keeps its value
abbrev pub HandsBack : EngineValue → ApplyFault → Type 0
HandsBack before (faults.Refused store refusal) = (store.history ≡ before.history) × Extends before.table store.table
HandsBack before faults.DiskFault = Unit {0}

-- what holds where the command is refused
abbrev pub OnCommandRefused : ApplyFault → Type 0 → Type 0
OnCommandRefused (faults.Refused store refusal) P = P
OnCommandRefused faults.DiskFault P = Unit {0}

-- what holds where the disk fails
abbrev pub OnDiskFault : ApplyFault → Type 0 → Type 0
OnDiskFault (faults.Refused store refusal) P = Unit {0}
OnDiskFault faults.DiskFault P = P

-- a command that a legal history accepts, and its record
pub record IsAccepted (history : List Command) (command : Command) (payload : List ℕ) : Type 0 where
  pub legal : IsLegal history
  pub accepted : verdict history command ≡ None
  pub record_is : IsRecordOf payload command
