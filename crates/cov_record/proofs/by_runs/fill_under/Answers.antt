use Rattle.std.proofs.Common.{◌-◌, arith}
use Rattle.cov_record.proofs.Putting.{fills_under, no_first}
use Rattle.cov_record.proofs.by_runs.fill_under.Goals as goal

pub returns-in-Err : goal.returns-in-Err
returns-in-Err c =
    no_first c.args.side c.args.count (c.args.count - 1) c.args.edits.now c.args.ahead.now (omega (arith, c.requires)) c.in-Err.fault c.take_edit.new.ahead c.take_edit.new.ahead c.in-Err.ensures.gives

pub returns-in-Ok-push : goal.returns-in-Ok-push
returns-in-Ok-push c =
    fills_under c.args.edits.now c.push.new.self c.fill.new.edits c.args.side c.in-Ok.edit c.args.count (c.args.count - 1) c.args.ahead.now c.take_edit.new.ahead
    (omega (arith, c.requires)) c.in-Ok.ensures.gives c.in-Ok-push.ensures.ok c.fill.result c.fill.new.ahead c.fill.ensures
