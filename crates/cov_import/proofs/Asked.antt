-- What a line is answered that asks for a commit, and one that asks for nothing.
use Rattle.std.proofs.Common.{◌≡◌, inl, inr, ◌∙◌, refl, sym, ap, subst, ℕ, List, [], Some, None, Result, Ok, Err, IfOk}
use Rattle.cov_edit.specs.declared.command.Command.{Command}
use Rattle.cov_import.specs.Serving.{Comes, ImportValue, Importing, commit_comes, import_step, importing, next_asked, onto, with_next}
use Rattle.cov_lines.specs.Adding.{commit_added}
use Rattle.cov_lines.specs.States.{State}
use Rattle.cov_lines.specs.Step.{as_outcome, plainly}
use Rattle.cov_lines.specs.Storing.{grown, unless_refused}
use Rattle.cov_loop.specs.Answers.{Gives}
use Rattle.cov_loop.specs.Outcome.{Outcome, unchanged}
use Rattle.cov_loop.specs.declared.answer.Answer.TheVariants.{Nothing}
use Rattle.cov_loop.specs.declared.answer.Reply.{Reply}
use Rattle.cov_loop.specs.declared.ending.Ending.{Ending}

-- nothing is done
pub gives_nothing : (s : Importing) (o : Outcome Importing) (reply : Reply) → o ≡ unchanged s → reply.text ≡ [] → reply.rows ≡ [] → reply.answer ≡ Nothing → Gives o s reply
gives_nothing s o reply same text rows answer = subst (λ p. Gives p s reply) (sym same) (record { state_is = refl; text = text; rows = rows; answer = answer })

pub asks_nothing : (s : Importing) (line : List ℕ) → next_asked s line ≡ None → import_step s line ≡ unchanged s
unfolding import_step
asks_nothing s line e = ap (with_next s) e

module _ (v : ImportValue) (line : List ℕ) (k : Command) (e : next_asked (importing v) line ≡ Some k) where
  abbrev added : Outcome State
  added = as_outcome v.server.state (plainly (commit_added v.server.state k))

  step_is : import_step (importing v) line ≡ onto (importing v) added
  unfolding import_step
  step_is = ap (with_next (importing v)) e

  -- a commit is added, or refused
  pub asked_gives : (old : State) (commits : List Command) (base : ℕ) → old ≡ v.server.state → commits ≡ v.commits → base ≡ v.base → (r : Result Reply Ending) (new : State)
      → IfOk r (Gives (as_outcome old (plainly (commit_added old k))) new) → IfOk r (Gives (import_step (importing v) line) (record { state = new; commits = commits; base = base }))
  asked_gives old commits base old_is commits_are base_is (Ok reply) new h =
      let own = subst (λ st. Gives (as_outcome st (plainly (commit_added st k))) new reply) old_is h in
      subst (λ o. Gives o (record { state = new; commits = commits; base = base }) reply) (sym step_is)
      (record {
        state_is = ap (λ st. record { state = st; commits = commits; base = base }) own.state_is
            ∙ ap (λ ks. record { state = added.state; commits = ks; base = base }) commits_are
            ∙ ap (λ n. record { state = added.state; commits = v.commits; base = n }) base_is;
        text = own.text;
        rows = own.rows;
        answer = own.answer;
      })
  asked_gives old commits base old_is commits_are base_is (Err ending) new h = tt

  -- the history then
  pub history_is : grown v.server.state.history k ≡ (import_step (importing v) line).state.state.history
  history_is = at (commit_comes v.server.state k) ∙ sym (ap (λ (o : Outcome Importing). o.state.state.history) step_is)
    where
      at : Comes v.server.state k → grown v.server.state.history k ≡ added.state.history
      at (inl (accepted, is)) =
          ap (λ o. unless_refused o v.server.state.history k) accepted ∙ sym (ap (λ act. (as_outcome v.server.state (plainly act)).state.history) is)
      at (inr (refusal, refused, is)) =
          ap (λ o. unless_refused o v.server.state.history k) refused ∙ sym (ap (λ act. (as_outcome v.server.state (plainly act)).state.history) is)
