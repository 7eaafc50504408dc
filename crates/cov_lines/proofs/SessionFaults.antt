-- How faults of sessions are told.
use Rattle.std.proofs.Common.{◌≡◌, ap, subst, ℕ, Bool, true, false, List, [], ◌∷◌, map, Option, Some, None, Result, Ok, Err}
use Rattle.cov_edit.specs.History.{option_count}
use Rattle.cov_edit.specs.declared.command.Command.{Command}
use Rattle.cov_edit.specs.declared.edit.Edit.{Edit}
use Rattle.cov_view.specs.Refusals.{when, first_of}
use Rattle.cov_view.specs.declared.fault.EditFault.{EditFault}
use Rattle.cov_view.specs.declared.fault.EditFault.TheVariants as edit_faults
use Rattle.cov_session.specs.Adding.{addition_fault, as_fault}
use Rattle.cov_session.specs.Calls.{AreOpen, IsSessionFaultOf, taken, taken_by}
use Rattle.cov_session.specs.Faults.{unless}
use Rattle.cov_session.specs.Named.{named}
use Rattle.cov_session.specs.Open.{NamedSession, SessionValue, as_named}
use Rattle.cov_session.specs.Opening.{NamesDeclared}
use Rattle.cov_session.specs.declared.fault.SessionFault.{SessionFault}
use Rattle.cov_session.specs.declared.fault.SessionFault.TheVariants as faults
use Rattle.cov_lines.specs.Acting.{Stops}
use Rattle.cov_codes.specs.Codes.{session_code}
use Rattle.cov_lines.specs.Finding.{by_code}
use Rattle.cov_lines.specs.States.{State, with_sessions}
use Rattle.cov_lines.specs.Step.{added}
use Rattle.cov_codes.specs.Stops.{session_stop}
use Rattle.cov_lines.proofs.Acted.{stops-later}

-- a session's refusal is the line's
pub fault-stops : {X : Type 0} (wanted : Result X SessionFault) (old new : State) (fault : SessionFault) → new ≡ old
    → IsSessionFaultOf wanted fault → NamesDeclared (option_count old.history) fault → Stops (by_code session_code wanted) old new (session_stop fault)
fault-stops wanted old new faults.Memory same h d = ap (λ (t : State). t.history) same
fault-stops wanted old new (faults.Edit edit_faults.Memory) same h d = absurd h
fault-stops wanted old new (faults.Incomplete option) same h d = record { is = ap (by_code session_code) h; same = same; told = d }
fault-stops wanted old new (faults.LateOption option) same h d = record { is = ap (by_code session_code) h; same = same; told = d }
fault-stops wanted old new fault same h d = record { is = ap (by_code session_code) h; same = same; told = tt }

-- edits are never refused for an option
no-option : (n : ℕ) (fault : SessionFault) (b c : Bool) (o : Option (ℕ × EditFault))
    → first_of (when b faults.TooManyEdits ∷ when c faults.TooManyBytes ∷ as_fault o ∷ []) ≡ Some fault → NamesDeclared n fault
no-option n fault true c o h = subst (NamesDeclared n) (let same : faults.TooManyEdits ≡ fault = cc in same) tt
no-option n fault false true o h = subst (NamesDeclared n) (let same : faults.TooManyBytes ≡ fault = cc in same) tt
no-option n fault false false None h = absurd (cc)
no-option n fault false false (Some refused) h = subst (NamesDeclared n) (let same : faults.Edit refused.1 ≡ fault = cc in same) tt

-- nor are those of a session by its name
taken-no_option : (n : ℕ) (history : List Command) (ss : List NamedSession) (name : List ℕ) (es : List Edit) (fault : SessionFault) → taken history ss name es ≡ Err fault → NamesDeclared n fault
taken-no_option n history ss name es fault h = at (named ss name) h
  where
    refused : (o : Option SessionFault) (left : List NamedSession) → unless o left ≡ Err fault → o ≡ Some fault
    refused None left k = absurd (cc)
    refused (Some own) left k = cc

    at : (o : Option NamedSession) → taken_by history ss es o ≡ Err fault → NamesDeclared n fault
    at None k = subst (NamesDeclared n) (let same : faults.NoSession ≡ fault = cc in same) tt
    at (Some s) k = no-option n fault _ _ _ (refused (addition_fault history s.session es) _ k)

taken-declared : (n : ℕ) (history : List Command) (ss : List NamedSession) (name : List ℕ) (es : List Edit) (fault : SessionFault) → IsSessionFaultOf (taken history ss name es) fault → NamesDeclared n fault
taken-declared n history ss name es (faults.Incomplete option) h = taken-no_option n history ss name es (faults.Incomplete option) h
taken-declared n history ss name es (faults.LateOption option) h = taken-no_option n history ss name es (faults.LateOption option) h
taken-declared n history ss name es fault h = tt

-- where the session of a name doesn't take edits, nothing changes
pub edit-stops : (st new : State) (history : List Command) (ss : List SessionValue) (trees : List (List ℕ)) (name : List ℕ) (es : List Edit) (fault : SessionFault)
    → (let kept : State = record { history = history; sessions = map as_named ss; trees = trees } in kept) ≡ st → new ≡ st → AreOpen history ss
    → ((h : List Command) → AreOpen h ss → IsSessionFaultOf (taken h (map as_named ss) name es) fault)
    → Stops (added st name es) st new (session_stop fault)
edit-stops st new history ss trees name es fault is same opens refused =
    let own : IsSessionFaultOf (taken st.history st.sessions name es) fault = subst (λ (t : State). IsSessionFaultOf (taken t.history t.sessions name es) fault) is (refused history opens) in
    stops-later (by_code session_code (taken st.history st.sessions name es)) (λ left. Ok (with_sessions st left)) st new (session_stop fault)
    (fault-stops (taken st.history st.sessions name es) st new fault same own (taken-declared (option_count st.history) st.history st.sessions name es fault own))
