-- A session that is opened or refreshed is there, with the whole history before its base.
use Rattle.std.proofs.Common.{◌≡◌, ◌∙◌, refl, sym, ap, subst, ℕ, Bool, true, false, nat_le, nat_lt, List, [], ◌∷◌, ◌++◌, length, take, Option, Some, None, Result, Ok, Err, is_some, option_map, arith}
use Rattle.std.specs.Prelude.{if◌then◌else◌}
use Rattle.std.specs.List.{enumerate_from}
use Rattle.std.specs.Option.{option_or}
use Rattle.std.specs.Str.{bytes_eq}
use Rattle.std.proofs.Math.Seq.{take-length}
use Rattle.std.proofs.lemmas.List.Folds.{find-append}
use Rattle.cov_base.specs.declared.limits.TheConstants.{MOST_SCRIPT_LINE_BYTES}
use Rattle.cov_expr.specs.Formula.{Formula, True, value}
use Rattle.cov_rules.specs.Completion.{Completion, Complete, Invalid, Incomplete}
use Rattle.cov_script.specs.Lines.{form_of}
use Rattle.cov_script.specs.Replies.{open_reply, refresh_reply}
use Rattle.cov_script.specs.declared.code.Code.TheVariants.{Long}
use Rattle.cov_script.specs.Grouping.{grouped}
use Rattle.cov_script.specs.declared.grouped.GroupedLine.{GroupedLine}
use Rattle.cov_script.specs.declared.grouped.GroupedLine.TheVariants as groups
use Rattle.cov_script.specs.declared.grouped.SessionLine.{SessionLine}
use Rattle.cov_script.specs.declared.grouped.SessionLine.TheVariants as session_lines
use Rattle.cov_script.specs.declared.line.Line.{Line}
use Rattle.cov_script.specs.declared.line.LineSyntax.{LineSyntax}
use Rattle.cov_edit.specs.History.{options_of}
use Rattle.cov_edit.specs.Numbering.{numbers_of}
use Rattle.cov_edit.specs.Replay.{replay}
use Rattle.cov_view.specs.Refusals.{first_refused}
use Rattle.cov_view.specs.declared.fault.EditFault.{EditFault}
use Rattle.cov_history.specs.Completing.{completed_in}
use Rattle.cov_history.specs.Sessions.{Session, edits_of}
use Rattle.cov_session.specs.Calls.{refreshed_by}
use Rattle.cov_session.specs.Faults.{unless}
use Rattle.cov_session.specs.Named.{named, side_of, with_session}
use Rattle.cov_session.specs.Open.{NamedSession}
use Rattle.cov_session.specs.Opening.{opened_on}
use Rattle.cov_session.specs.Refreshing.{as_lost, rebased, refreshed_on}
use Rattle.cov_session.specs.declared.fault.SessionFault.TheVariants as faults
use Rattle.cov_session.specs.declared.sessions.TheConstants.{MOST_SESSIONS}
use Rattle.cov_codes.specs.Codes.{session_code, syntax_code}
use Rattle.cov_lines.specs.Finding.{Found, ◌>>=◌, by_code, found_expression, found_partial}
use Rattle.cov_lines.specs.Isolation.{HasSession, SessionsBeginNow, UnsidedSession, begins, has_form, is_start, without_sides}
use Rattle.cov_lines.specs.States.{State, with_sessions}
use Rattle.cov_lines.specs.Step.{Act, Done, acted, as_outcome, opened, plainly, refreshed, served, served_session, step}
use Rattle.cov_lines.proofs.NamedSessions.{itself, named-changed, same-name}

module _ (name : List ℕ) (st : State) where
  -- a session with its base now, and its side
  abbrev AsOfNow : Formula ℕ → Session → NamedSession
  AsOfNow side session = record { name = name; side = side; session = session }

  -- what is done has the session, with the whole history before its base
  abbrev Begins : Act → Type 0
  Begins (Ok done) = (s : UnsidedSession) × HasSession name s done.0.history done.0
  Begins (Err code) = Unit {0}

  -- the same of a line that may write rows
  abbrev BeginsDone : Found Done → Type 0
  BeginsDone (Ok done) = (s : UnsidedSession) × HasSession name s done.state.history done.state
  BeginsDone (Err code) = Unit {0}

  on-found : {X : Type 0} (found : Found X) (later : X → Act) → ((x : X) → Begins (later x)) → Begins (found >>= later)
  on-found (Ok x) later h = h x
  on-found (Err code) later h = tt

  has-now : (ss : List NamedSession) (side : Formula ℕ) (session : Session) → session.base ≡ length st.history → named ss name ≡ Some (AsOfNow side session)
      → (s : UnsidedSession) × HasSession name s st.history (with_sessions st ss)
  has-now ss side session now found =
      (without_sides (AsOfNow side session), record { there = ap (option_map without_sides) found; within = omega (arith, now); same = ap (λ n. take n st.history) now ∙ take-length st.history })

  -- a session with the name, behind those that don't have it
  last-named : (new : NamedSession) → new.name ≡ name → named st.sessions name ≡ None → named (st.sessions ++ new ∷ []) name ≡ Some new
  last-named new is none =
      find-append (λ t. bytes_eq t.name name) st.sessions (new ∷ [])
      ∙ ap (λ o. option_or o (named (new ∷ []) name)) none
      ∙ ap (λ b. if b then Some new else None) (ap (λ n. bytes_eq n name) is ∙ itself name)

  opened-now : (bindings : List (List ℕ × Bool)) (ambition : Formula (List ℕ)) → Begins (opened st name bindings ambition)
  unfolding opened
  opened-now bindings ambition =
      on-found (found_partial st.history bindings) _ (λ partial. on-found (found_expression st.history ambition) _ (λ within.
      at (named st.sessions name) refl (nat_le MOST_SESSIONS (length st.sessions)) within (completed_in st.history partial)))
    where
      told : Session → Act
      told session = Ok (with_sessions st (st.sessions ++ AsOfNow True session ∷ []), open_reply session.base (options_of st.history) session.choice)

      on : named st.sessions name ≡ None → (within : Formula ℕ) (choice : List Bool) (b : Bool)
          → Begins (by_code session_code (if b then Ok (record { base = length st.history; choice = choice; ambition = within; edits = [] }) else Err faults.OutsideAmbition) >>= told)
      on none within choice true = has-now _ _ _ refl (last-named _ refl none)
      on none within choice false = tt

      at : (o : Option NamedSession) → named st.sessions name ≡ o → (full : Bool) (within : Formula ℕ) (completion : Completion)
          → Begins (by_code session_code (if is_some o then Err faults.SessionExists else if full then Err faults.TooManySessions else opened_on st.history within completion) >>= told)
      at (Some t) e full within completion = tt
      at None e true within completion = tt
      at None e false within (Complete choice) = on e within choice (value within choice)
      at None e false within (Invalid rule) = tt
      at None e false within (Incomplete option) = tt

  refreshed-now : Begins (refreshed st name)
  unfolding refreshed
  refreshed-now = at (named st.sessions name) refl
    where
      told : Session → Act
      told session = Ok (with_sessions st (with_session st.sessions (AsOfNow (side_of st.sessions name) session)), refresh_reply session.base (options_of st.history) session.choice)

      on : (t : NamedSession) → named st.sessions name ≡ Some t → (choice : List Bool) (refused : Option (ℕ × EditFault))
          → Begins (by_code session_code (unless (as_lost refused) (rebased t.session (length st.history) choice)) >>= told)
      on t e choice None = has-now _ _ _ refl (named-changed st.sessions name t _ refl e)
      on t e choice (Some refused) = tt

      by : (t : NamedSession) → named st.sessions name ≡ Some t → (completion : Completion) → Begins (by_code session_code (refreshed_on st.history t.session completion) >>= told)
      by t e (Complete choice) = on t e choice (first_refused (numbers_of st.history) (replay choice st.history) (edits_of t.session))
      by t e (Invalid rule) = tt
      by t e (Incomplete option) = tt

      at : (o : Option NamedSession) → named st.sessions name ≡ o → Begins (by_code session_code (refreshed_by st.history o) >>= told)
      at None e = tt
      at (Some t) e = by t e (completed_in st.history (enumerate_from 0 t.session.choice))

  session-now : (line : SessionLine) → is_start name line ≡ true → Begins (served_session st line)
  unfolding served_session
  session-now (session_lines.Open n bindings ambition) own = subst (λ m. Begins (opened st m bindings ambition)) (sym (same-name n name own)) (opened-now bindings ambition)
  session-now (session_lines.Refresh n) own = subst (λ m. Begins (refreshed st m)) (sym (same-name n name own)) refreshed-now
  session-now _ own = absurd (cc)

  plainly-now : (act : Act) → Begins act → BeginsDone (plainly act)
  plainly-now (Ok act) h = h
  plainly-now (Err code) h = tt

  served-now : (line : GroupedLine) → begins name line ≡ true → BeginsDone (served st line)
  unfolding served
  served-now (groups.Session line) own = plainly-now (served_session st line) (session-now line own)
  served-now _ own = absurd (cc)

  acted-now : (line : List ℕ) → has_form (begins name) (form_of line) ≡ true → BeginsDone (acted st line)
  unfolding acted
  acted-now line own = at (nat_lt MOST_SCRIPT_LINE_BYTES (length line))
    where
      of : (form : Result Line LineSyntax) → has_form (begins name) form ≡ true → BeginsDone (by_code syntax_code form >>= (λ f. served st (grouped f)))
      of (Ok form) h = served-now (grouped form) h
      of (Err fault) h = tt

      at : (long : Bool) → BeginsDone ((if long then Err Long else Ok line) >>= (λ short. by_code syntax_code (form_of short) >>= (λ form. served st (grouped form))))
      at true = tt
      at false = of (form_of line) own

pub begin-now : SessionsBeginNow
unfolding step
begin-now name st line own accepted = at (acted st line) (acted-now name st line own) accepted
  where
    at : (act : Found Done) → BeginsDone name st act → (as_outcome st act).is_refused ≡ false → (s : UnsidedSession) × HasSession name s (as_outcome st act).state.history (as_outcome st act).state
    at (Ok done) h k = h
    at (Err code) h k = absurd (cc)
