-- How the appending of a command to a history that is lent ends.
use Rattle.std.specs.Prelude.{◌≡◌, List, [], ◌∷◌, ◌++◌, Option, None, Result, Ok, Err}
use Rattle.cov_edit.specs.declared.command.Command.{Command}
use Rattle.cov_history.specs.Verdict.{RefusedBy}
use Rattle.cov_history.specs.declared.refusal.Refusal.{Refusal}
use Rattle.cov_store.specs.declared.appending.AppendFault.{AppendFault}
use Rattle.cov_store.specs.declared.appending.AppendFault.TheVariants as faults

-- a refusal is the verdict's; the disk fails only where the command is accepted
abbrev pub IsAppendFaultOf : Option Refusal → AppendFault → Type 0
IsAppendFaultOf told (faults.Refused refusal) = RefusedBy refusal told
IsAppendFaultOf told faults.DiskFault = told ≡ None

-- what holds where the command is refused
abbrev pub OnRefusal : AppendFault → Type 0 → Type 0
OnRefusal (faults.Refused refusal) P = P
OnRefusal faults.DiskFault P = Unit {0}

-- what holds where the disk fails
abbrev pub OnWriteFault : AppendFault → Type 0 → Type 0
OnWriteFault (faults.Refused refusal) P = Unit {0}
OnWriteFault faults.DiskFault P = P

-- the history has the command, but where it is refused
abbrev pub LeavesHistory : {X : Type 0} → List Command → Command → List Command → Result X AppendFault → Type 0
LeavesHistory before command now (Ok receipt) = now ≡ before ++ command ∷ []
LeavesHistory before command now (Err faults.DiskFault) = now ≡ before ++ command ∷ []
LeavesHistory before command now (Err (faults.Refused refusal)) = now ≡ before

-- those who are to let go have done so, but where the command is refused
abbrev pub LeavesHolders : {H X : Type 0} → (H → H → Type 0) → H → H → Result X AppendFault → Type 0
LeavesHolders released before now (Ok receipt) = released before now
LeavesHolders released before now (Err faults.DiskFault) = released before now
LeavesHolders released before now (Err (faults.Refused refusal)) = now ≡ before
