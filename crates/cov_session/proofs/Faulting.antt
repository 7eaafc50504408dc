-- Why a call on open sessions is refused.
use Rattle.std.proofs.Common.{◌≡◌, ◌∙◌, sym, ap, subst, ℕ, Bool, true, false, not, List, [], ◌∷◌, length, nat_le, Option, Some, None, is_some, Result, Ok, Err, IfErr, OnOk, if◌then◌else◌}
use Rattle.std.specs.Result.{IsErrAnd}
use Rattle.cov_expr.specs.Formula.{Formula, value}
use Rattle.cov_rules.specs.Completion.{Completion, Complete, Invalid, Incomplete}
use Rattle.cov_edit.specs.declared.command.Command.{Command}
use Rattle.cov_edit.specs.declared.edit.Edit.{Edit}
use Rattle.cov_view.specs.Refusals.{when, first_of}
use Rattle.cov_view.specs.declared.fault.EditFault.{EditFault}
use Rattle.cov_view.specs.declared.fault.EditFault.TheVariants as edit_faults
use Rattle.cov_history.specs.Completing.{completed_in}
use Rattle.cov_history.specs.Sessions.{Session}
use Rattle.cov_session.specs.Adding.{addition_fault, grown, IsAdditionFault}
use Rattle.cov_session.specs.Calls.{opened_among, side_set, side_set_by, taken, taken_by, refreshed_among, refreshed_by, IsSessionFaultOf}
use Rattle.cov_session.specs.Faults.{unless}
use Rattle.cov_session.specs.Named.{named, with_session}
use Rattle.cov_session.specs.Open.{NamedSession}
use Rattle.cov_session.specs.Opening.{new_session, opened, opened_on, IsOpeningFault}
use Rattle.cov_session.specs.Refreshing.{refreshed}
use Rattle.cov_session.specs.Siding.{first_late, as_late, side_fault, with_side}
use Rattle.cov_session.specs.declared.fault.SessionFault.{SessionFault}
use Rattle.cov_session.specs.declared.fault.SessionFault.TheVariants as faults
use Rattle.cov_session.specs.declared.sessions.TheConstants.{MOST_SESSIONS}

-- a fault that is passed on
pub passed-on : {X : Type 0} (P : SessionFault → Type 0) (fault : SessionFault) (result : Result X SessionFault) → IsErrAnd result (λ e. e ≡ fault) → P fault → IfErr result P
passed-on P fault (Ok x) is h = tt
passed-on P fault (Err e) is h = subst P (sym is) h

-- what follows from two things that hold unless there is a fault
pub both-done : {X E P Q R : Type 0} (result : Result X E) → (P → Q → R) → OnOk result P → OnOk result Q → OnOk result R
both-done (Ok x) f p q = f p q
both-done (Err e) f p q = tt

-- edits that are refused in the session of a name are refused among all
pub fault-taken : (history : List Command) (ss : List NamedSession) (name : List ℕ) (es : List Edit) (s : NamedSession) (fault : SessionFault)
    → named ss name ≡ Some s → IsAdditionFault fault (addition_fault history s.session es) → IsSessionFaultOf (taken history ss name es) fault
fault-taken history ss name es s fault is h = subst (λ o. IsSessionFaultOf (taken_by history ss es o) fault) (sym is) (at fault (addition_fault history s.session es) h)
  where
    after : List NamedSession
    after = with_session ss (grown s es)

    at : (f : SessionFault) (o : Option SessionFault) → IsAdditionFault f o → IsSessionFaultOf (unless o after) f
    at faults.Memory o k = tt
    at (faults.Edit edit_faults.Memory) o k = k
    at f o k = ap (λ p. unless p after) k

-- edits that are taken in the session of a name are taken among all
pub taken-is : (history : List Command) (ss : List NamedSession) (name : List ℕ) (es : List Edit) (s : NamedSession)
    → named ss name ≡ Some s → addition_fault history s.session es ≡ None → taken history ss name es ≡ Ok (with_session ss (grown s es))
taken-is history ss name es s is h =
    ap (taken_by history ss es) is ∙ ap (λ o. unless o (with_session ss (grown s es))) h

-- no session of the name takes edits
pub none-taken : (history : List Command) (ss : List NamedSession) (name : List ℕ) (es : List Edit) → named ss name ≡ None → taken history ss name es ≡ Err faults.NoSession
none-taken history ss name es is = ap (taken_by history ss es) is

-- a side that the session of a name takes, or refuses, is taken or refused among all
module _ (ss : List NamedSession) (name : List ℕ) (side : Formula ℕ) where
  pub set-is : (s : NamedSession) → named ss name ≡ Some s → side_fault s.session side ≡ None → side_set ss name side ≡ Ok (with_session ss (with_side s side))
  set-is s is h = ap (side_set_by ss side) is ∙ ap (λ o. unless o (with_session ss (with_side s side))) h

  pub set-refused : (s : NamedSession) (fault : SessionFault) → named ss name ≡ Some s → side_fault s.session side ≡ Some fault → side_set ss name side ≡ Err fault
  set-refused s fault is h = ap (side_set_by ss side) is ∙ ap (λ o. unless o (with_session ss (with_side s side))) h

  pub none-set : named ss name ≡ None → side_set ss name side ≡ Err faults.NoSession
  none-set is = ap (side_set_by ss side) is

  -- no side is refused for an edit's fault
  never-edit : (f : EditFault) (o : Option NamedSession) → side_set_by ss side o ≡ Err (faults.Edit f) → ⊥
  never-edit f None h = absurd (cc)
  never-edit f (Some s) h = at (first_late (length s.session.choice) side) (not (value side s.session.choice)) h
    where
      at : (late : Option ℕ) (outside : Bool) → unless (first_of (as_late late ∷ when outside faults.OutsideSide ∷ [])) (with_session ss (with_side s side)) ≡ Err (faults.Edit f) → ⊥
      at (Some option) outside k = absurd (cc)
      at None true k = absurd (cc)
      at None false k = absurd (cc)

  -- why a side isn't taken, as the fault of a call
  pub set-fault : (fault : SessionFault) → side_set ss name side ≡ Err fault → IsSessionFaultOf (side_set ss name side) fault
  set-fault faults.Memory h = tt
  set-fault (faults.Edit edit_faults.Memory) h = never-edit edit_faults.Memory (named ss name) h
  set-fault fault h = h

module _ (history : List Command) (ss : List NamedSession) (name : List ℕ) (partial : List (ℕ × Bool)) (ambition : Formula ℕ) where
  pub among-exists : is_some (named ss name) ≡ true → opened_among history ss name partial ambition ≡ Err faults.SessionExists
  among-exists h =
      ap (λ b. if b then Err faults.SessionExists else if nat_le MOST_SESSIONS (length ss) then Err faults.TooManySessions else opened history partial ambition) h

  pub among-many : is_some (named ss name) ≡ false → nat_le MOST_SESSIONS (length ss) ≡ true → opened_among history ss name partial ambition ≡ Err faults.TooManySessions
  among-many h many =
      ap (λ b. if b then Err faults.SessionExists else if nat_le MOST_SESSIONS (length ss) then Err faults.TooManySessions else opened history partial ambition) h
      ∙ ap (λ b. if b then Err faults.TooManySessions else opened history partial ambition) many

  pub among-opened : is_some (named ss name) ≡ false → nat_le MOST_SESSIONS (length ss) ≡ false → opened_among history ss name partial ambition ≡ opened history partial ambition
  among-opened h few =
      ap (λ b. if b then Err faults.SessionExists else if nat_le MOST_SESSIONS (length ss) then Err faults.TooManySessions else opened history partial ambition) h
      ∙ ap (λ b. if b then Err faults.TooManySessions else opened history partial ambition) few

-- a session isn't opened for an edit's fault
no-edit : (history : List Command) (partial : List (ℕ × Bool)) (ambition : Formula ℕ) (f : EditFault) → opened history partial ambition ≡ Err (faults.Edit f) → ⊥
no-edit history partial ambition f h = at (completed_in history partial) h
  where
    inside : (s : Session) (b : Bool) → (if b then Ok s else Err faults.OutsideAmbition) ≡ Err (faults.Edit f) → ⊥
    inside s true k = absurd (cc)
    inside s false k = absurd (cc)

    at : (c : Completion) → opened_on history ambition c ≡ Err (faults.Edit f) → ⊥
    at (Complete choice) k = inside (new_session history ambition choice) (value ambition choice) k
    at (Invalid rule) k = absurd (cc)
    at (Incomplete option) k = absurd (cc)

-- why a session isn't opened among others, where neither its name nor their number forbids it
pub fault-opened : (history : List Command) (ss : List NamedSession) (name : List ℕ) (partial : List (ℕ × Bool)) (ambition : Formula ℕ) (fault : SessionFault)
    → opened_among history ss name partial ambition ≡ opened history partial ambition → IsOpeningFault fault (opened history partial ambition)
    → IsSessionFaultOf (opened_among history ss name partial ambition) fault
fault-opened history ss name partial ambition fault is h = subst (λ r. IsSessionFaultOf r fault) (sym is) (at fault h)
  where
    at : (f : SessionFault) → IsOpeningFault f (opened history partial ambition) → IsSessionFaultOf (opened history partial ambition) f
    at faults.Memory k = tt
    at (faults.Edit edit_faults.Memory) k = no-edit history partial ambition edit_faults.Memory k
    at f k = k

-- the session of a name that isn't refreshed
pub fault-refreshed : (history : List Command) (ss : List NamedSession) (name : List ℕ) (s : NamedSession) (fault : SessionFault)
    → named ss name ≡ Some s → IsSessionFaultOf (refreshed history s.session) fault → IsSessionFaultOf (refreshed_among history ss name) fault
fault-refreshed history ss name s fault is h = subst (λ o. IsSessionFaultOf (refreshed_by history o) fault) (sym is) h

pub refreshed-is : (history : List Command) (ss : List NamedSession) (name : List ℕ) (s : NamedSession) → named ss name ≡ Some s → refreshed_among history ss name ≡ refreshed history s.session
refreshed-is history ss name s is = ap (refreshed_by history) is

pub none-refreshed : (history : List Command) (ss : List NamedSession) (name : List ℕ) → named ss name ≡ None → refreshed_among history ss name ≡ Err faults.NoSession
none-refreshed history ss name is = ap (refreshed_by history) is
