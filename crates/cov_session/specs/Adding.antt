-- Edits that a session takes.
use Rattle.std.specs.Prelude.{◌≡◌, ℕ, nat_lt, List, [], ◌∷◌, ◌++◌, length, map, take, Option, Some, None}
use Rattle.cov_expr.specs.Formula.{Formula}
use Rattle.cov_edit.specs.declared.edit.Edit.{Edit}
use Rattle.cov_edit.specs.declared.sided.Sided.{Sided}
use Rattle.cov_edit.specs.declared.command.Command.{Command}
use Rattle.cov_edit.specs.History.{text_bytes}
use Rattle.cov_edit.specs.Limits.{limits_of}
use Rattle.cov_edit.specs.Numbering.{numbers_of}
use Rattle.cov_edit.specs.Replay.{replay}
use Rattle.cov_edit.specs.Sides.{sided}
use Rattle.cov_view.specs.Refusals.{when, first_of, first_refused}
use Rattle.cov_view.specs.declared.fault.EditFault.{EditFault}
use Rattle.cov_view.specs.declared.fault.EditFault.TheVariants as edit_faults
use Rattle.cov_history.specs.Sessions.{Session, edits_of}
use Rattle.cov_session.specs.Open.{NamedSession}
use Rattle.cov_session.specs.declared.fault.SessionFault.{SessionFault}
use Rattle.cov_session.specs.declared.fault.SessionFault.TheVariants as faults

-- edits with one side
abbrev pub on_side : Formula ℕ → List Edit → List Sided
on_side side es = map (sided side) es

-- the session with more edits
abbrev pub with_edits : Session → List Sided → Session
with_edits s ss = record { base = s.base; choice = s.choice; ambition = s.ambition; edits = s.edits ++ ss }

-- the session with more edits, each of which has the current side
abbrev pub grown : NamedSession → List Edit → NamedSession
grown s es = record { name = s.name; side = s.side; session = with_edits s.session (on_side s.side es) }

-- the fault of the first edit that is refused, if one is
abbrev pub as_fault : Option (ℕ × EditFault) → Option SessionFault
as_fault None = None
as_fault (Some refused) = Some (faults.Edit refused.1)

-- why a session doesn't take more edits, all or none of them: by the limits on a commit, and then by what the session sees
abbrev pub addition_fault : List Command → Session → List Edit → Option SessionFault
addition_fault history s es =
    let all = edits_of s ++ es in
    let before = take s.base history in
    first_of (when (nat_lt (limits_of history).edits (length all)) faults.TooManyEdits
    ∷ when (nat_lt (limits_of history).commit_bytes (text_bytes all)) faults.TooManyBytes
    ∷ as_fault (first_refused (numbers_of before) (replay s.choice before) all)
    ∷ [])

-- a fault is the one that is wanted, unless memory is wanting; an edit's fault is a refusal
abbrev pub IsAdditionFault : SessionFault → Option SessionFault → Type 0
IsAdditionFault faults.Memory wanted = Unit {0}
IsAdditionFault (faults.Edit edit_faults.Memory) wanted = ⊥
IsAdditionFault fault wanted = wanted ≡ Some fault
