-- Faults of sessions that come from others.
use Rattle.std.specs.Prelude.{ℕ, Option, Some, None, Result, Ok, Err}
use Rattle.cov_rules.specs.declared.completing.CompleteFault.{CompleteFault}
use Rattle.cov_rules.specs.declared.completing.CompleteFault.TheVariants as completions
use Rattle.cov_view.specs.declared.fault.EditFault.{EditFault}
use Rattle.cov_view.specs.declared.fault.EditFault.TheVariants as edit_faults
use Rattle.cov_session.specs.declared.fault.SessionFault.{SessionFault}
use Rattle.cov_session.specs.declared.fault.SessionFault.TheVariants as faults

-- the fault of a session whose edit its view refuses
abbrev pub by_edit : EditFault → SessionFault
by_edit edit_faults.NoSuchNode = faults.Edit edit_faults.NoSuchNode
by_edit edit_faults.NotFile = faults.Edit edit_faults.NotFile
by_edit edit_faults.NotDirectory = faults.Edit edit_faults.NotDirectory
by_edit edit_faults.NameTaken = faults.Edit edit_faults.NameTaken
by_edit edit_faults.NotEmpty = faults.Edit edit_faults.NotEmpty
by_edit edit_faults.IntoItself = faults.Edit edit_faults.IntoItself
by_edit edit_faults.IsRoot = faults.Edit edit_faults.IsRoot
by_edit edit_faults.NoSuchLine = faults.Edit edit_faults.NoSuchLine
by_edit edit_faults.Memory = faults.Memory

-- the fault of a session whose edit is lost as its view refuses it, by its place among the edits
abbrev pub by_loss : ℕ → EditFault → SessionFault
by_loss index edit_faults.Memory = faults.Memory
by_loss index fault = faults.EditLost index

-- the fault of a session whose choice the rules don't complete
abbrev pub by_completion : CompleteFault → SessionFault
by_completion completions.Memory = faults.Memory
by_completion (completions.Invalid rule) = faults.Invalid rule
by_completion (completions.Incomplete option) = faults.Incomplete option

-- what comes, unless a fault or a code refuses it
abbrev pub unless : {X E : Type 0} → Option E → X → Result X E
unless None x = Ok x
unless (Some refused) x = Err refused
