use Rattle.std.proofs.Common.{◌≡◌, sym, subst, IfOk}
use Rattle.cov_edit.specs.History.{edits_in}
use Rattle.cov_edit.specs.Sides.{unsided}
use Rattle.cov_engine.specs.Refusing.{early_refusal}
use Rattle.cov_engine.specs.States.{history_of}
use Rattle.cov_engine.specs.Summaries.{IsSummaryOf}
use Rattle.cov_engine.proofs.refusing.early_refusal.Goals as goal

pub commit_refusal-requires-clause-summary : goal.commit_refusal-requires-clause-summary
commit_refusal-requires-clause-summary c = subst (λ k. IsSummaryOf (unsided (edits_in k)) c.args.summary.now) c.in-Commit.is c.requires.summary

pub returns-in-Commit : goal.returns-in-Commit
returns-in-Commit c = subst (λ k. IfOk c.commit_refusal.result (λ found. found ≡ early_refusal (history_of c.args.state.now) k)) (sym c.in-Commit.is) c.commit_refusal.ensures
