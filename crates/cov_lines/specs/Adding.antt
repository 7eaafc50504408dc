-- What a command that a line adds comes to.
use Rattle.std.specs.Prelude.{◌≡◌, ℕ, ◌+◌, List, length, Option, Some, option_map, Result, Ok, Err}
use Rattle.cov_edit.specs.declared.command.Command.{Command}
use Rattle.cov_edit.specs.History.{option_count}
use Rattle.cov_engine.specs.States.{receipt_number}
use Rattle.cov_engine.specs.declared.prepared.Receipt.{Receipt}
use Rattle.cov_history.specs.Verdict.{verdict}
use Rattle.cov_loop.specs.declared.ending.Ending.{Ending}
use Rattle.cov_loop.specs.declared.ending.Ending.TheVariants as endings
use Rattle.cov_script.specs.Replies.{constraint_reply, prefer_reply, default_reply, upgrade_reply, commit_reply, IsCodeOf}
use Rattle.cov_store.specs.declared.appending.AppendFault.{AppendFault}
use Rattle.cov_store.specs.declared.appending.AppendFault.TheVariants as faults
use Rattle.cov_lines.specs.Finding.{Found, ◌>>=◌}
use Rattle.cov_session.specs.Named.{left_by}
use Rattle.cov_lines.specs.States.{State, with_sessions}
use Rattle.cov_lines.specs.Step.{Act, appended}
use Rattle.cov_codes.specs.Codes.{refusal_code}
use Rattle.cov_codes.specs.Stops.{refusal_stop}
use Rattle.cov_codes.specs.declared.stop.Stop.{Stop}
use Rattle.cov_codes.specs.declared.stop.Stop.TheVariants as stops
use Rattle.cov_lines.specs.declared.handled.Addition.{Addition}
use Rattle.cov_lines.specs.declared.handled.Confirmation.{Confirmation}
use Rattle.cov_lines.specs.declared.handled.Confirmation.TheVariants as confirmations

-- the reply to a command that was added, by its number among those of its kind and by the position that the history then has
abbrev pub confirmed : Confirmation → ℕ → ℕ → List ℕ
confirmed (confirmations.Known text) number position = text
confirmed confirmations.Constraint number position = constraint_reply number
confirmed confirmations.Prefer number position = prefer_reply number
confirmed confirmations.Default number position = default_reply number
confirmed confirmations.Upgrade number position = upgrade_reply number
confirmed confirmations.Commit number position = commit_reply position

-- the session of a name has ended, if there is a name
abbrev pub ended_by : State → Option (List ℕ) → State
ended_by st ends = with_sessions st (left_by st.sessions ends)

-- a command is appended, and the session that ends with it has ended
abbrev pub appended_ending : State → Command → Option (List ℕ) → Found State
appended_ending st command ends = appended st command >>= (λ next. Ok (ended_by next ends))

-- a command is added: it is appended, the session that ends with it has ended, and the reply is told with its numbers
abbrev pub command_added : State → Addition → Act
command_added st a = appended st a.command >>= (λ next. Ok (ended_by next a.ends, confirmed a.confirmation (receipt_number st.history a.command) (length st.history + 1)))

-- a receipt is that of a command
pub record HasReceipt (history : List Command) (command : Command) (receipt : Receipt) : Type 0 where
  pub number : receipt.number ≡ receipt_number history command
  pub position : receipt.position ≡ length history + 1

-- what the appending of a command comes to: a receipt or why it isn't added, unless the disk fails
abbrev pub added_as : Result Receipt AppendFault → Result (Result Receipt Stop) Ending
added_as (Ok receipt) = Ok (Ok receipt)
added_as (Err (faults.Refused refusal)) = Ok (Err (refusal_stop refusal))
added_as (Err faults.DiskFault) = Err endings.DiskFault

-- a commit of no session is appended; the reply gives the position that the history then has
abbrev pub commit_added : State → Command → Act
commit_added st command = appended st command >>= (λ next. Ok (next, commit_reply (length st.history + 1)))

-- why a command isn't accepted: memory is wanting, or the history refuses it by a code that can be told
abbrev pub StopsCommand : List Command → Command → Stop → Type 0
StopsCommand history command stops.Memory = Unit {0}
StopsCommand history command (stops.Refused code) = (option_map refusal_code (verdict history command) ≡ Some code) × IsCodeOf (option_count history) code
