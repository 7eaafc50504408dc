-- The sides that a session takes for the edits that follow.
use Rattle.std.specs.Prelude.{ℕ, not, nat_le, [], ◌∷◌, length, Option, Some, None}
use Rattle.std.specs.List.{find}
use Rattle.cov_expr.specs.Formula.{Formula, names_in, value}
use Rattle.cov_view.specs.Refusals.{when, first_of}
use Rattle.cov_history.specs.Sessions.{Session}
use Rattle.cov_session.specs.Open.{NamedSession}
use Rattle.cov_session.specs.declared.fault.SessionFault.{SessionFault}
use Rattle.cov_session.specs.declared.fault.SessionFault.TheVariants as faults

-- the first option of an expression, from the left, that isn't below a count
abbrev pub first_late : ℕ → Formula ℕ → Option ℕ
first_late count e = find (λ o. nat_le count o) (names_in e)

-- the fault of a side with an option that isn't below the count of its session's choice, if it has one
abbrev pub as_late : Option ℕ → Option SessionFault
as_late None = None
as_late (Some option) = Some (faults.LateOption option)

-- why a session doesn't take a side: it has an option that isn't one of its choice, or else it is false there
abbrev pub side_fault : Session → Formula ℕ → Option SessionFault
side_fault s side = first_of (as_late (first_late (length s.choice) side) ∷ when (not (value side s.choice)) faults.OutsideSide ∷ [])

-- a session with another current side
abbrev pub with_side : NamedSession → Formula ℕ → NamedSession
with_side s side = record { name = s.name; side = side; session = s.session }
