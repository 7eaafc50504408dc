-- Sessions that are opened, and refreshed.
use Rattle.std.proofs.Common.{◌≡◌, ◌∙◌, refl, sym, ap, ℕ, Bool, true, false, nat_le, List, [], ◌∷◌, ◌++◌, length, Option, Some, None, is_some, Ok, Err}
use Rattle.std.specs.Prelude.{if◌then◌else◌}
use Rattle.std.specs.List.{enumerate_from}
use Rattle.cov_expr.specs.Formula.{Formula, True, value}
use Rattle.cov_rules.proofs.CallerLemmas.{completed_is_valid}
use Rattle.cov_rules.specs.Completion.{Completion, Complete, Invalid, Incomplete, literals}
use Rattle.cov_script.specs.Replies.{open_reply}
use Rattle.cov_edit.specs.History.{options_of, option_count, constraints_of, preferences_of, defaults_of}
use Rattle.cov_edit.specs.declared.command.Command.{Command}
use Rattle.cov_history.specs.Completing.{completed_in}
use Rattle.cov_history.specs.Sessions.{Session}
use Rattle.cov_session.specs.Calls.{opened_among, refreshed_among, refreshed_by}
use Rattle.cov_session.specs.Faults.{unless}
use Rattle.cov_session.specs.Named.{named}
use Rattle.cov_session.specs.Open.{NamedSession}
use Rattle.cov_session.specs.Opening.{new_session, opened, opened_on}
use Rattle.cov_session.specs.Refreshing.{rebased, refreshed_on}
use Rattle.cov_session.specs.declared.fault.SessionFault.{SessionFault}
use Rattle.cov_session.specs.declared.fault.SessionFault.TheVariants as faults
use Rattle.cov_session.specs.declared.sessions.TheConstants.{MOST_SESSIONS}
use Rattle.cov_codes.specs.Codes.{session_code}
use Rattle.cov_lines.specs.Finding.{by_code, ◌>>=◌, found_partial, found_expression}
use Rattle.cov_lines.specs.States.{State, with_sessions}
use Rattle.cov_lines.specs.Step.{Act, opened as opened_by_line}

module _ (st : State) (name : List ℕ) (bindings : List (List ℕ × Bool)) (ambition : Formula (List ℕ)) (partial : List (ℕ × Bool)) (within : Formula ℕ)
    (bound : found_partial st.history bindings ≡ Ok partial) (expr : found_expression st.history ambition ≡ Ok within) where
  abbrev pub with_opened : Session → Act
  with_opened s = Ok (with_sessions st (st.sessions ++ record { name = name; side = True; session = s } ∷ []), open_reply s.base (options_of st.history) s.choice)

  -- a session is opened among those that are open, once what the line names is found
  pub opened-as : opened_by_line st name bindings ambition ≡ (by_code session_code (opened_among st.history st.sessions name partial within) >>= with_opened)
  unfolding opened_by_line
  opened-as =
      ap (λ r. r >>= (λ p. found_expression st.history ambition >>= (λ w. by_code session_code (opened_among st.history st.sessions name p w) >>= with_opened))) bound
      ∙ ap (λ r. r >>= (λ w. by_code session_code (opened_among st.history st.sessions name partial w) >>= with_opened)) expr

-- a choice that is completed has all options
completed-whole : (history : List Command) (partial : List (ℕ × Bool)) (choice : List Bool) → completed_in history partial ≡ Complete choice → length choice ≡ option_count history
completed-whole history partial choice e =
    (completed_is_valid (option_count history) (constraints_of history) (preferences_of history) (literals (defaults_of history)) partial choice e).whole

module _ (history : List Command) (s : Session) where
  opened-whole : (partial : List (ℕ × Bool)) (within : Formula ℕ) → opened history partial within ≡ Ok s → length s.choice ≡ option_count history
  opened-whole partial within h = at (completed_in history partial) refl h
    where
      inside : (choice : List Bool) (b : Bool) → (if b then Ok (new_session history within choice) else Err faults.OutsideAmbition) ≡ Ok s → choice ≡ s.choice
      inside choice true k = let same : new_session history within choice ≡ s = cc in ap (λ (r : Session). r.choice) same
      inside choice false k = absurd (cc)

      at : (c : Completion) → completed_in history partial ≡ c → opened_on history within c ≡ Ok s → length s.choice ≡ option_count history
      at (Complete choice) e k = ap length (sym (inside choice (value within choice) k)) ∙ completed-whole history partial choice e
      at (Invalid rule) e k = absurd (cc)
      at (Incomplete option) e k = absurd (cc)

  -- the choice of a session that is opened has all options
  pub among-whole : (ss : List NamedSession) (name : List ℕ) (partial : List (ℕ × Bool)) (within : Formula ℕ) → opened_among history ss name partial within ≡ Ok s → length s.choice ≡ option_count history
  among-whole ss name partial within h = at (is_some (named ss name)) (nat_le MOST_SESSIONS (length ss)) h
    where
      at : (known full : Bool) → (if known then Err faults.SessionExists else if full then Err faults.TooManySessions else opened history partial within) ≡ Ok s → length s.choice ≡ option_count history
      at true full k = absurd (cc)
      at false true k = absurd (cc)
      at false false k = opened-whole partial within k

  -- so has that of a session that is refreshed
  pub refreshed-whole : (ss : List NamedSession) (name : List ℕ) → refreshed_among history ss name ≡ Ok s → length s.choice ≡ option_count history
  refreshed-whole ss name h = by_name (named ss name) h
    where
      kept : (before : Session) (choice : List Bool) (o : Option SessionFault) → unless o (rebased before (length history) choice) ≡ Ok s → choice ≡ s.choice
      kept before choice None k = let same : rebased before (length history) choice ≡ s = cc in ap (λ (r : Session). r.choice) same
      kept before choice (Some fault) k = absurd (cc)

      at : (before : Session) (c : Completion) → completed_in history (enumerate_from 0 before.choice) ≡ c → refreshed_on history before c ≡ Ok s → length s.choice ≡ option_count history
      at before (Complete choice) e k = ap length (sym (kept before choice _ k)) ∙ completed-whole history (enumerate_from 0 before.choice) choice e
      at before (Invalid rule) e k = absurd (cc)
      at before (Incomplete option) e k = absurd (cc)

      by_name : (o : Option NamedSession) → refreshed_by history o ≡ Ok s → length s.choice ≡ option_count history
      by_name None k = absurd (cc)
      by_name (Some t) k = at t.session (completed_in history (enumerate_from 0 t.session.choice)) refl k
