-- How a session is refreshed: its base is now, on the choice to which the rules of now complete its own.
use Rattle.std.specs.Prelude.{◌≡◌, ℕ, ◌≤◌, Bool, true, List, length, take, Option, Some, None, Result, Err, unwrap_or}
use Rattle.std.specs.List.{AllByRecursion, enumerate_from}
use Rattle.cov_expr.specs.Formula.{True, reach, value}
use Rattle.cov_rules.specs.Completion.{Completion, Complete, Invalid, Incomplete}
use Rattle.cov_edit.specs.declared.command.Command.{Command}
use Rattle.cov_edit.specs.declared.edit.Edit.{Edit}
use Rattle.cov_edit.specs.Numbering.{numbers_of}
use Rattle.cov_edit.specs.Replay.{replay}
use Rattle.cov_edit.specs.Sides.{reach_within}
use Rattle.cov_view.specs.Refusals.{first_refused}
use Rattle.cov_view.specs.Seen.{Seen}
use Rattle.cov_view.specs.declared.fault.EditFault.{EditFault}
use Rattle.cov_history.specs.Completing.{completed_in}
use Rattle.cov_history.specs.Sessions.{Session, edits_of}
use Rattle.cov_session.specs.Adding.{on_side}
use Rattle.cov_session.specs.Faults.{unless}
use Rattle.cov_session.specs.Open.{SessionValue, numbers_at_base}
use Rattle.cov_session.specs.declared.fault.SessionFault.{SessionFault}
use Rattle.cov_session.specs.declared.fault.SessionFault.TheVariants as faults

-- the session at another base and on another choice, with its edits and their sides
abbrev pub rebased : Session → ℕ → List Bool → Session
rebased s base choice = record { base = base; choice = choice; ambition = s.ambition; edits = s.edits }

-- the fault of an edit that is lost, if one is
abbrev pub as_lost : Option (ℕ × EditFault) → Option SessionFault
as_lost None = None
as_lost (Some refused) = Some (faults.EditLost refused.0)

-- the session on a completion now, or why it isn't refreshed: the first edit that is refused there is lost
abbrev pub refreshed_on : List Command → Session → Completion → Result Session SessionFault
refreshed_on history s (Complete choice) = unless (as_lost (first_refused (numbers_of history) (replay choice history) (edits_of s))) (rebased s (length history) choice)
refreshed_on history s (Invalid rule) = Err (faults.Invalid rule)
refreshed_on history s (Incomplete option) = Err (faults.Incomplete (unwrap_or option 0))

-- the session now, on the choice to which the rules complete its own as a partial choice, or why it isn't refreshed
abbrev pub refreshed : List Command → Session → Result Session SessionFault
refreshed history s = refreshed_on history s (completed_in history (enumerate_from 0 s.choice))

-- a choice is within the ambition of a session, the side of each of its edits and its current side
pub record IsInside (s : SessionValue) (choice : List Bool) : Type 0 where
  pub in_ambition : value s.session.ambition choice ≡ true
  pub in_sides : AllByRecursion (λ e. value e.side choice ≡ true) s.session.edits
  pub in_side : value s.side choice ≡ true

-- the ambition of a session, the sides of its edits and its current side name no more than so many options
pub record IsInReach (count : ℕ) (s : SessionValue) : Type 0 where
  pub in_reach : reach_within s.session.ambition s.session.edits ≤ count
  pub side_in_reach : reach s.side ≤ count

-- a session with other edits, on no side, and the view that they make
abbrev pub with_work : SessionValue → List Edit → Seen → SessionValue
with_work s es view = record {
  name = s.name;
  side = s.side;
  session = record { base = s.session.base; choice = s.session.choice; ambition = s.session.ambition; edits = on_side True es };
  view = view;
}

-- the fault of the first of edits that is lost at the base of a session, if one is
abbrev pub first_lost : List Command → Session → List Edit → Option SessionFault
first_lost history s es = as_lost (first_refused (numbers_at_base history s) (replay s.choice (take s.base history)) es)
