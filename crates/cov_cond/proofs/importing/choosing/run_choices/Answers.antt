use Rattle.std.proofs.Common.{◌≤◌, ap, ◌∙◌}
use Rattle.cov_base.proofs.CallerLemmas.{all-rest}
use Rattle.cov_dd.proofs.CallerLemmas.{extends_trans}
use Rattle.cov_expr.specs.Formula.{reach}
use Rattle.cov_edit.specs.History.{option_count}
use Rattle.cov_cond_text.specs.Conditional.{conjunction}
use Rattle.cov_cond_text.specs.declared.run.Run.{Run}
use Rattle.cov_cond.specs.Committing.{run_choice}
use Rattle.cov_cond.proofs.RunFacts.{mapped_on}
use Rattle.cov_cond.proofs.importing.choosing.run_choices.Goals as goal

pub returns-in_err-choice-clause-extends : goal.returns-in_err-choice-clause-extends
returns-in_err-choice-clause-extends c = extends_trans c.args.engine.now.table c.loop-ahead.engine.table c.run_choice.new.engine.table c.loop-ahead.invariant.extends c.run_choice.ensures.extends

pub returns-in_err-push-clause-extends : goal.returns-in_err-push-clause-extends
returns-in_err-push-clause-extends c = extends_trans c.args.engine.now.table c.loop-ahead.engine.table c.run_choice.new.engine.table c.loop-ahead.invariant.extends c.run_choice.ensures.extends

pub loop-ahead-preserved : goal.loop-ahead-preserved
loop-ahead-preserved c =
    let history = c.args.engine.now.history in
    record {
      history = c.run_choice.ensures.history ∙ c.loop-ahead.invariant.history;
      extends = extends_trans c.args.engine.now.table c.loop-ahead.engine.table c.run_choice.new.engine.table c.loop-ahead.invariant.extends c.run_choice.ensures.extends;
      choices = mapped_on (run_choice history) c.loop-ahead.choices c.push.new.self _ c.in_ok-choice.choice c.run-item.result c.run-item.result c.loop-ahead.ahead.now c.run-item.is c.in-len1-up.len_at_least
          c.loop-ahead.invariant.choices c.in_ok-push.ensures.ok (c.in_ok-choice.ensures.choice ∙ ap (λ h. run_choice h c.run-item.result) c.loop-ahead.invariant.history);
      declared = all-rest (λ (r : Run). reach (conjunction r.conditions) ≤ option_count history) c.loop-ahead.ahead.now c.loop-ahead.invariant.declared;
    }
