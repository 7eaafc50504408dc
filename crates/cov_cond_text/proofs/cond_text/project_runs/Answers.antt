use Rattle.cov_cond_text.specs.Conditional.{lines_in, projection}
use Rattle.cov_cond_text.proofs.Projecting.{more-shown, first-below}
use Rattle.cov_cond_text.proofs.cond_text.project_runs.Goals as goal

pub append_run-requires : goal.append_run-requires
append_run-requires c = first-below _ c.run-item.result c.run-item.result c.loop-ahead.ahead.now c.run-item.is c.in-len1-up.len_at_least c.loop-ahead.invariant.1

pub loop-ahead-preserved : goal.loop-ahead-preserved
loop-ahead-preserved c =
    more-shown c.loop-ahead.texts c.append_run.new.texts (projection (lines_in c.args.runs.now) c.args.choice) c.run-item.result c.run-item.result c.loop-ahead.ahead.now c.args.choice c.run-item.is
    c.in-len1-up.len_at_least c.loop-ahead.invariant c.in_ok-append_run.ensures
