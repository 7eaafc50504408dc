-- What the calls on open sessions come to.
use Rattle.std.specs.Prelude.{◌≡◌, ℕ, nat_le, Bool, List, length, map, is_some, Option, Some, None, Result, Ok, Err, if◌then◌else◌}
use Rattle.std.specs.List.{find, AllByRecursion}
use Rattle.std.specs.Str.{bytes_eq}
use Rattle.cov_expr.specs.Formula.{Formula}
use Rattle.cov_edit.specs.declared.edit.Edit.{Edit}
use Rattle.cov_edit.specs.declared.command.Command.{Command}
use Rattle.cov_view.specs.declared.fault.EditFault.TheVariants as edit_faults
use Rattle.cov_history.specs.Sessions.{Session}
use Rattle.cov_session.specs.Adding.{addition_fault, grown}
use Rattle.cov_session.specs.Faults.{unless}
use Rattle.cov_session.specs.Named.{named, left_by, with_session}
use Rattle.cov_session.specs.Open.{NamedSession, SessionValue, IsOpen, as_named}
use Rattle.cov_session.specs.Opening.{opened}
use Rattle.cov_session.specs.Refreshing.{refreshed}
use Rattle.cov_session.specs.Siding.{side_fault, with_side}
use Rattle.cov_session.specs.declared.fault.SessionFault.{SessionFault}
use Rattle.cov_session.specs.declared.fault.SessionFault.TheVariants as faults
use Rattle.cov_session.specs.declared.opened.Opened.{Opened}
use Rattle.cov_session.specs.declared.sessions.TheConstants.{MOST_SESSIONS}

-- each session is open
abbrev pub AreOpen : List Command → List SessionValue → Type 0
AreOpen history ss = AllByRecursion (IsOpen history) ss

-- a session is the one of a name
abbrev pub IsOfName : List SessionValue → List ℕ → SessionValue → Type 0
IsOfName ss name s = find (λ t. bytes_eq t.name name) ss ≡ Some s

-- the session that is opened by a name that no open one has, while fewer than the most are open, or why none is
abbrev pub opened_among : List Command → List NamedSession → List ℕ → List (ℕ × Bool) → Formula ℕ → Result Session SessionFault
opened_among history ss name partial ambition =
    if is_some (named ss name) then Err faults.SessionExists
    else if nat_le MOST_SESSIONS (length ss) then Err faults.TooManySessions
    else opened history partial ambition

-- the sessions with edits more in one that is open, each of which has its current side
abbrev pub taken_by : List Command → List NamedSession → List Edit → Option NamedSession → Result (List NamedSession) SessionFault
taken_by history ss es None = Err faults.NoSession
taken_by history ss es (Some s) = unless (addition_fault history s.session es) (with_session ss (grown s es))

-- the sessions with edits more in that of a name, all or none of them, or why it doesn't take them
abbrev pub taken : List Command → List NamedSession → List ℕ → List Edit → Result (List NamedSession) SessionFault
taken history ss name es = taken_by history ss es (named ss name)

-- the sessions with another current side in one that is open
abbrev pub side_set_by : List NamedSession → Formula ℕ → Option NamedSession → Result (List NamedSession) SessionFault
side_set_by ss side None = Err faults.NoSession
side_set_by ss side (Some s) = unless (side_fault s.session side) (with_session ss (with_side s side))

-- the sessions with another current side in that of a name, or why it doesn't take it
abbrev pub side_set : List NamedSession → List ℕ → Formula ℕ → Result (List NamedSession) SessionFault
side_set ss name side = side_set_by ss side (named ss name)

-- one that is open, refreshed
abbrev pub refreshed_by : List Command → Option NamedSession → Result Session SessionFault
refreshed_by history None = Err faults.NoSession
refreshed_by history (Some s) = refreshed history s.session

-- the session of a name, refreshed, or why it isn't
abbrev pub refreshed_among : List Command → List NamedSession → List ℕ → Result Session SessionFault
refreshed_among history ss name = refreshed_by history (named ss name)

-- a fault is why nothing comes, unless memory is wanting; an edit's fault is a refusal
abbrev pub IsSessionFaultOf : {X : Type 0} → Result X SessionFault → SessionFault → Type 0
IsSessionFaultOf wanted faults.Memory = Unit {0}
IsSessionFaultOf wanted (faults.Edit edit_faults.Memory) = ⊥
IsSessionFaultOf wanted fault = wanted ≡ Err fault

-- a session comes of a call, which answers with its base and choice and leaves these sessions open
pub record Makes (wanted : Result Session SessionFault) (open_with : Session → List NamedSession) (answer : Opened) (new : List NamedSession) : Type 0 where
  pub session : Session
  pub made : wanted ≡ Ok session
  pub left : new ≡ open_with session
  pub base : answer.base ≡ session.base
  pub choice : answer.choice ≡ session.choice

-- the session of a name has ended, if there is a name and an open session has it; those that are left are open where they were
pub record HasEnded (name : Option (List ℕ)) (before after : List SessionValue) : Type 0 where
  pub left : map as_named after ≡ left_by (map as_named before) name
  pub stays : (history : List Command) → AreOpen history before → AreOpen history after
