-- Sessions that end with their commits.
use Rattle.std.proofs.Common.{◌≡◌, refl, ap, ℕ, ◌+◌, List, length, Option, Some, None, option_map, Ok}
use Rattle.std.specs.Prelude.{ok_or}
use Rattle.cov_edit.specs.declared.command.Command.{Command}
use Rattle.cov_history.specs.Sessions.{commit_of}
use Rattle.cov_script.specs.Replies.{commit_reply}
use Rattle.cov_script.specs.declared.code.Code.TheVariants.{NoSession}
use Rattle.cov_session.specs.Named.{named}
use Rattle.cov_session.specs.Open.{NamedSession}
use Rattle.cov_lines.specs.Acting.{IsAdding}
use Rattle.cov_lines.specs.Adding.{command_added}
use Rattle.cov_lines.specs.Finding.{◌>>=◌}
use Rattle.cov_lines.specs.States.{State}
use Rattle.cov_lines.specs.Step.{appended, committed, ended, plainly}
use Rattle.cov_lines.specs.declared.handled.Addition.{Addition}
use Rattle.cov_lines.specs.declared.handled.Confirmation.TheVariants.{Commit}

module _ (st : State) (name : List ℕ) (command : Command) (own : option_map (λ (s : NamedSession). commit_of s.session) (named st.sessions name) ≡ Some command) where
  abbrev commit : Addition
  commit = record { command = command; ends = Some name; confirmation = Commit }

  committed-as : committed st name ≡ command_added st commit
  unfolding committed
  committed-as = at (named st.sessions name) own
    where
      at : (o : Option NamedSession) → option_map (λ (s : NamedSession). commit_of s.session) o ≡ Some command
          → (ok_or o NoSession >>= (λ (s : NamedSession). appended st (commit_of s.session) >>= (λ next. Ok (ended next name, commit_reply (length st.history + 1))))) ≡ command_added st commit
      at None k = absurd (cc)
      at (Some s) k =
          let same : commit_of s.session ≡ command = cc in
          ap (λ c. appended st c >>= (λ next. Ok (ended next name, commit_reply (length st.history + 1)))) same

  -- a session's commit is added, and the session ends with it
  pub commit-adds : IsAdding (plainly (committed st name)) st st commit
  commit-adds = record { is = ap plainly committed-as; same = refl }
