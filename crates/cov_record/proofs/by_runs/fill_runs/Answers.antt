use Rattle.std.proofs.Common.{◌∙◌, ◌-◌, ◌+◌, arith}
use Rattle.cov_record.proofs.Putting.{laid_more}
use Rattle.cov_record.proofs.by_runs.fill_runs.Goals as goal

pub loop-run-preserved : goal.loop-run-preserved
loop-run-preserved c =
    let one = c.in_default.ensures in
    c.loop-run.invariant
    ∙ laid_more c.loop-run.edits c.take_run.new.edits one.0 one.2 (c.args.count - c.loop-run.run) (c.args.count - (c.loop-run.run + 1)) c.loop-run.ahead c.take_run.new.ahead
    (omega (arith, c.loop-run-test.true)) one.1
