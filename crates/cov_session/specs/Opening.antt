-- How a session is opened.
use Rattle.std.specs.Prelude.{◌≡◌, ◌<◌, ℕ, Bool, List, [], length, Result, Ok, Err, unwrap_or, if◌then◌else◌}
use Rattle.cov_expr.specs.Formula.{Formula, value}
use Rattle.cov_rules.specs.Completion.{Completion, Complete, Invalid, Incomplete}
use Rattle.cov_edit.specs.declared.command.Command.{Command}
use Rattle.cov_history.specs.Completing.{completed_in}
use Rattle.cov_history.specs.Sessions.{Session}
use Rattle.cov_session.specs.declared.fault.SessionFault.{SessionFault}
use Rattle.cov_session.specs.declared.fault.SessionFault.TheVariants as faults

-- a session on a choice now, without edits
abbrev pub new_session : List Command → Formula ℕ → List Bool → Session
new_session history ambition choice = record { base = length history; choice = choice; ambition = ambition; edits = [] }

-- the session that is opened on a completion within an ambition, or why none is; an incomplete one has an open option
abbrev pub opened_on : List Command → Formula ℕ → Completion → Result Session SessionFault
opened_on history ambition (Complete choice) = if value ambition choice then Ok (new_session history ambition choice) else Err faults.OutsideAmbition
opened_on history ambition (Invalid rule) = Err (faults.Invalid rule)
opened_on history ambition (Incomplete option) = Err (faults.Incomplete (unwrap_or option 0))

-- the session that is opened within an ambition on the choice to which the rules complete a partial one, or why none is
abbrev pub opened : List Command → List (ℕ × Bool) → Formula ℕ → Result Session SessionFault
opened history partial ambition = opened_on history ambition (completed_in history partial)

-- a fault is why no session is opened, unless memory is wanting
abbrev pub IsOpeningFault : SessionFault → Result Session SessionFault → Type 0
IsOpeningFault faults.Memory wanted = Unit {0}
IsOpeningFault fault wanted = wanted ≡ Err fault

-- the option that a fault names, if it names one, is one of so many
abbrev pub NamesDeclared : ℕ → SessionFault → Type 0
NamesDeclared count (faults.Incomplete option) = option < count
NamesDeclared count (faults.LateOption option) = option < count
NamesDeclared count _ = Unit {0}
