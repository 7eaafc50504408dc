use Rattle.cov_dd.proofs.CallerLemmas.{extends_trans}
use Rattle.cov_overtaking.proofs.Filling.{rest-rise, rest-on, rest-reached, rest-all, condition-since, replicate-to}
use Rattle.cov_overtaking.proofs.conditions.fill_runs.Goals as goal

pub returns-in_err-node-clause-extends : goal.returns-in_err-node-clause-extends
returns-in_err-node-clause-extends c = extends_trans c.args.table.now c.loop-ahead.table c.on_side.new.table c.loop-ahead.invariant.extends c.on_side.ensures.extends

pub returns-in_err-fill-clause-extends : goal.returns-in_err-fill-clause-extends
returns-in_err-fill-clause-extends c = extends_trans c.args.table.now c.loop-ahead.table c.on_side.new.table c.loop-ahead.invariant.extends c.on_side.ensures.extends

pub loop-ahead-preserved : goal.loop-ahead-preserved
loop-ahead-preserved c =
    let i = c.loop-ahead.invariant in
    let own = condition-since c.args.table.now c.loop-ahead.table c.on_side.new.table c.args.within c.run-item.result.side c.in_ok-node.node i.extends c.requires.within c.in_ok-node.ensures.is in
    let filled = replicate-to c.loop-ahead.nodes.items c.fill.new.nodes.items c.in_ok-node.node _ _ c.first_place.ensures c.in_ok-fill.ensures in
    record {
      extends = extends_trans c.args.table.now c.loop-ahead.table c.on_side.new.table i.extends c.on_side.ensures.extends;
      rise = rest-rise c.args.table.now c.loop-ahead.table c.on_side.new.table c.on_side.ensures.extends c.args.within c.in_ok-node.node c.args.count c.args.runs.now c.run-item.result c.run-item.result c.loop-ahead.ahead.now
          c.loop-ahead.nodes.items c.fill.new.nodes.items c.run-item.is c.in-len1-up.len_at_least i.rise i.on i.reached i.all own filled;
      on = rest-on c.args.table.now c.loop-ahead.table c.on_side.new.table c.on_side.ensures.extends c.args.within c.in_ok-node.node c.args.count c.args.runs.now c.run-item.result c.run-item.result c.loop-ahead.ahead.now
          c.loop-ahead.nodes.items c.fill.new.nodes.items c.run-item.is c.in-len1-up.len_at_least i.rise i.on i.reached i.all own filled;
      reached = rest-reached c.args.table.now c.loop-ahead.table c.on_side.new.table c.on_side.ensures.extends c.args.within c.in_ok-node.node c.args.count c.args.runs.now c.run-item.result c.run-item.result c.loop-ahead.ahead.now
          c.loop-ahead.nodes.items c.fill.new.nodes.items c.run-item.is c.in-len1-up.len_at_least i.rise i.on i.reached i.all own filled;
      all = rest-all c.args.table.now c.loop-ahead.table c.on_side.new.table c.on_side.ensures.extends c.args.within c.in_ok-node.node c.args.count c.args.runs.now c.run-item.result c.run-item.result c.loop-ahead.ahead.now
          c.loop-ahead.nodes.items c.fill.new.nodes.items c.run-item.is c.in-len1-up.len_at_least i.rise i.on i.reached i.all own filled;
    }
