-- An option more than a choice can have.
use Rattle.std.proofs.Common.{◌≡◌, ◌∙◌, refl, ap, ℕ, ◌≤◌, Bool, true, false, nat_le, List, [], ◌∷◌, length, Some, Ok, Err, option_map, arith}
use Rattle.std.specs.Prelude.{if◌then◌else◌}
use Rattle.std.proofs.lemmas.Bool.Decides.{nat_tests}
use Rattle.cov_base.specs.Spelling.{is_option_name}
use Rattle.cov_base.specs.declared.limits.TheConstants.{CHOICE_WIDTH}
use Rattle.cov_expr.specs.Options.{is_declared}
use Rattle.cov_edit.proofs.CallerLemmas.{limits-most}
use Rattle.cov_edit.specs.History.{options_of, option_count}
use Rattle.cov_edit.specs.Limits.{limits_of}
use Rattle.cov_edit.specs.declared.command.Command.{Command}
use Rattle.cov_edit.specs.declared.command.Command.TheVariants as commands
use Rattle.cov_view.specs.Refusals.{when, first_of}
use Rattle.cov_history.specs.Verdict.{name_refusals, verdict}
use Rattle.cov_history.specs.declared.refusal.Refusal.TheVariants as refusals
use Rattle.cov_script.specs.Replies.{option_reply}
use Rattle.cov_script.specs.declared.code.Code.TheVariants.{BadName, Full}
use Rattle.cov_session.specs.Faults.{unless}
use Rattle.cov_codes.specs.Codes.{refusal_code}
use Rattle.cov_lines.specs.Finding.{◌>>=◌}
use Rattle.cov_lines.specs.States.{State, with_command}
use Rattle.cov_lines.specs.Step.{appended, declared, plainly}

-- no history has room for it
option-full : (history : List Command) (name : List ℕ) → CHOICE_WIDTH ≤ option_count history → verdict history (commands.Option name) ≡ Some refusals.Full
option-full history name h =
    let most = limits-most history in
    let few = most.options in
    let many : nat_le (limits_of history).options (option_count history) ≡ true = grind (arith, nat_tests, h, few) in
    at (nat_le (limits_of history).commands (length history)) many
  where
    at : (full : Bool) → nat_le (limits_of history).options (option_count history) ≡ true
        → first_of (when full refusals.Full ∷ name_refusals (limits_of history).options (options_of history) name) ≡ Some refusals.Full
    at true many = refl
    at false many = ap (λ b. first_of (when b refusals.Full ∷ when (is_declared (options_of history) name) refusals.Exists ∷ [])) many

-- so its line is refused
pub declared-full : (st : State) (token : List ℕ) → is_option_name token ≡ true → CHOICE_WIDTH ≤ option_count st.history → plainly (declared st token) ≡ Err Full
unfolding declared
declared-full st token spelt h =
    ap (λ b. plainly ((if b then Ok token else Err BadName) >>= (λ name. appended st (commands.Option name) >>= (λ next. Ok (next, option_reply (option_count st.history)))))) spelt
    ∙ ap (λ o. plainly (unless (option_map refusal_code o) (with_command st (commands.Option token)) >>= (λ next. Ok (next, option_reply (option_count st.history))))) (option-full st.history token h)
