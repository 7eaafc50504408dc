-- What a command that is added comes to.
use Rattle.std.proofs.Common.{◌≡◌, ◌∙◌, refl, sym, ap, subst, ℕ, ◌+◌, false, List, [], ◌∷◌, ◌++◌, length, Option, Some, None, option_map, Result, Ok, Err}
use Rattle.std.specs.Prelude.{IfOk, OnOk}
use Rattle.cov_edit.specs.declared.command.Command.{Command}
use Rattle.cov_edit.specs.History.{option_count}
use Rattle.cov_engine.specs.States.{receipt_number}
use Rattle.cov_engine.specs.declared.prepared.Receipt.{Receipt}
use Rattle.cov_history.specs.Verdict.{verdict}
use Rattle.cov_history.specs.declared.refusal.Refusal.{Refusal}
use Rattle.cov_loop.specs.Answers.{Gives, kind_of}
use Rattle.cov_loop.specs.declared.answer.Reply.{Reply}
use Rattle.cov_loop.specs.declared.ending.Ending.{Ending}
use Rattle.cov_script.specs.Replies.{IsCodeOf}
use Rattle.cov_script.specs.declared.code.Code.{Code}
use Rattle.cov_lines.specs.Acting.{CanBeTold, IsDone, IsPlain, Refuses, Stops}
use Rattle.cov_lines.specs.Adding.{HasReceipt, appended_ending, command_added, ended_by, confirmed}
use Rattle.cov_codes.specs.Codes.{refusal_code}
use Rattle.cov_lines.specs.Finding.{Found, ◌>>=◌}
use Rattle.cov_session.specs.Faults.{unless}
use Rattle.cov_lines.specs.States.{State, with_command}
use Rattle.cov_lines.specs.Step.{Act, acted, appended, as_outcome, plainly, refused, step}
use Rattle.cov_lines.specs.Storing.{grown, unless_refused}
use Rattle.cov_lines.specs.declared.handled.Addition.{Addition}
use Rattle.cov_codes.specs.declared.stop.Stop.{Stop}
use Rattle.cov_codes.specs.declared.stop.Stop.TheVariants as stops

module _ (st : State) (k : Command) where
  -- a command that is accepted is appended
  pub appended-as : (next : State) → verdict st.history k ≡ None → next ≡ with_command st k → appended st k ≡ Ok next
  appended-as next accepted is = ap (λ o. unless (option_map refusal_code o) (with_command st k)) accepted ∙ ap (λ t. Ok t) (sym is)

  -- then the history has it
  pub history-more : (ends : Option (List ℕ)) (next : State) → appended_ending st k ends ≡ Ok next → next.history ≡ st.history ++ k ∷ []
  history-more ends next h = at (verdict st.history k) h
    where
      at : (o : Option Refusal) → (unless (option_map refusal_code o) (with_command st k) >>= (λ t. Ok (ended_by t ends))) ≡ Ok next → next.history ≡ st.history ++ k ∷ []
      at None e = let same : ended_by (with_command st k) ends ≡ next = cc in ap (λ (t : State). t.history) (sym same)
      at (Some refusal) e = absurd (cc)

module _ (st : State) (a : Addition) where
  -- its reply
  abbrev text : List ℕ
  text = confirmed a.confirmation (receipt_number st.history a.command) (length st.history + 1)

  -- the session that ends has ended, and the reply is told
  abbrev ends_told : State → Act
  ends_told next = Ok (ended_by next a.ends, text)

  -- it has ended before the reply is told
  in-turn : command_added st a ≡ (appended_ending st a.command a.ends >>= (λ next. Ok (next, text)))
  in-turn = at (appended st a.command)
    where
      at : (found : Found State) → (found >>= ends_told) ≡ ((found >>= (λ next. Ok (ended_by next a.ends))) >>= (λ next. Ok (next, text)))
      at (Ok next) = refl
      at (Err code) = refl

  -- what it comes to, by what comes before the reply
  comes : (found : Found State) → appended_ending st a.command a.ends ≡ found → as_outcome st (plainly (command_added st a)) ≡ as_outcome st (plainly (found >>= (λ next. Ok (next, text))))
  comes found h = ap (λ act. as_outcome st (plainly act)) in-turn ∙ ap (λ (f : Found State). as_outcome st (plainly (f >>= (λ next. Ok (next, text))))) h

  added-grown : (as_outcome st (plainly (command_added st a))).state.history ≡ grown st.history a.command
  added-grown = at (verdict st.history a.command)
    where
      at : (o : Option Refusal) → (as_outcome st (plainly (unless (option_map refusal_code o) (with_command st a.command) >>= ends_told))).state.history ≡ unless_refused o st.history a.command
      at None = refl
      at (Some refusal) = refl

  -- a line that adds a command leaves the history with it, or as it was
  pub step-grown : (line : List ℕ) → acted st line ≡ plainly (command_added st a) → (step st line).state.history ≡ grown st.history a.command
  unfolding step
  step-grown line h = ap (λ act. (as_outcome st act).state.history) h ∙ added-grown

  -- the command was appended, and the reply is told by its receipt
  pub added-gives : (server next : State) (receipt : Receipt) (reply : Reply) → appended_ending st a.command a.ends ≡ Ok server → next ≡ server
      → HasReceipt st.history a.command receipt → IsPlain (confirmed a.confirmation receipt.number receipt.position) reply
      → Gives (as_outcome st (plainly (command_added st a))) next reply
  added-gives server next receipt reply h is numbers plain =
      subst (λ o. Gives o next reply) (sym (comes (Ok server) h)) (record {
        state_is = is;
        text = plain.text_is ∙ told;
        rows = plain.rows;
        answer = plain.answer ∙ ap (λ bytes. kind_of bytes false) told;
      })
    where
      told : confirmed a.confirmation receipt.number receipt.position ≡ text
      told = ap (λ n. confirmed a.confirmation n receipt.position) numbers.number ∙ ap (confirmed a.confirmation (receipt_number st.history a.command)) numbers.position

  -- the history refuses it
  pub refused-gives : (server next : State) (code : Code) (reply : Reply) → appended_ending st a.command a.ends ≡ Err code → server ≡ st
      → Gives (refused server code) next reply → Gives (as_outcome st (plainly (command_added st a))) next reply
  refused-gives server next code reply h same given =
      subst (λ o. Gives o next reply) (ap (λ t. refused t code) same ∙ sym (comes (Err code) h)) given

-- what a line comes to is what its addition comes to
pub step-added : (st : State) (line : List ℕ) (a : Addition) → acted st line ≡ plainly (command_added st a) → as_outcome st (plainly (command_added st a)) ≡ step st line
unfolding step
step-added st line a h = ap (as_outcome st) (sym h)

-- what holds, where a reply was made
pub replied : {X : Type 0} (result : Result X Ending) {P : Type 0} → P → OnOk result P
replied (Ok x) p = p
replied (Err ending) p = tt

-- what comes to a stop after a command that isn't added
module _ (st server : State) where
  pub stop-told : (wanted : Found State) (stop : Stop) → Stops wanted st server stop → CanBeTold server stop
  stop-told wanted stops.Memory h = tt
  stop-told wanted (stops.Refused code) h = subst (λ (t : State). IsCodeOf (option_count t.history) code) (sym h.same) h.told

  pub stop-gives : (a : Addition) (stop : Stop) (result : Result Reply Ending) → Stops (appended_ending st a.command a.ends) st server stop → Refuses server stop result
      → IfOk result (Gives (as_outcome st (plainly (command_added st a))) server)
  stop-gives a stops.Memory (Ok reply) h r = absurd r
  stop-gives a stops.Memory (Err ending) h r = tt
  stop-gives a (stops.Refused code) (Ok reply) h r = refused-gives st a server server code reply h.is h.same r
  stop-gives a (stops.Refused code) (Err ending) h r = tt

-- what comes of a command that was appended
module _ (st server next : State) (a : Addition) (receipt : Receipt) where
  pub finish-gives : (result : Result Reply Ending) → appended_ending st a.command a.ends ≡ Ok server → next ≡ server → HasReceipt st.history a.command receipt
      → IfOk result (IsPlain (confirmed a.confirmation receipt.number receipt.position)) → IfOk result (Gives (as_outcome st (plainly (command_added st a))) next)
  finish-gives (Ok reply) h same numbers plain = added-gives st a server next receipt reply h same numbers plain
  finish-gives (Err ending) h same numbers plain = tt

-- a line that is done
pub done-gives : (st new : State) (line : List ℕ) (reply : Reply) → IsDone (acted st line) new reply → Gives (step st line) new reply
unfolding step
done-gives st new line reply h = subst (λ act. Gives (as_outcome st act) new reply) (sym h.is) (record { state_is = refl; text = refl; rows = refl; answer = h.answer })

-- and one that is refused
pub refused-step : (st : State) (line : List ℕ) (code : Code) → acted st line ≡ Err code → refused st code ≡ step st line
unfolding step
refused-step st line code h = ap (as_outcome st) (sym h)
