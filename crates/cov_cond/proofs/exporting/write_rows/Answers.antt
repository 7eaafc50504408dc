use Rattle.cov_cond.proofs.Steps.{goes-further, stops}
use Rattle.cov_cond.proofs.exporting.write_rows.Goals as goal

pub returns-in-Err-clause-fault : goal.returns-in-Err-clause-fault
returns-in-Err-clause-fault c =
    let engine = c.args.engine.now in
    stops engine.history engine.table _ c.loop-ahead.lines c.loop-ahead.run c.row-item.result c.row-item.result c.loop-ahead.ahead.now c.row-item.is c.in-len1-up.len_at_least c.in-Err.fault c.loop-ahead.invariant.0
    c.in-Err.ensures.fault

pub loop-ahead-preserved : goal.loop-ahead-preserved
loop-ahead-preserved c =
    let engine = c.args.engine.now in
    goes-further engine.history engine.table _ c.loop-ahead.lines c.loop-ahead.run c.row-item.result c.row-item.result c.loop-ahead.ahead.now c.row-item.is c.in-len1-up.len_at_least c.write_row.new.lines c.in-Ok.next
    c.loop-ahead.invariant c.in-Ok.ensures.lines c.in-Ok.ensures.run
