use Rattle.cov_dd.proofs.CallerLemmas.{extends_trans}
use Rattle.cov_overtaking.proofs.Crossing.{of_table-grown}
use Rattle.cov_overtaking.proofs.First.{first-here, first-later, here-kept, rest-kept}
use Rattle.cov_overtaking.proofs.overtaking.first_overtaking.Goals as goal

pub overtakes-requires-clause-kept : goal.overtakes-requires-clause-kept
overtakes-requires-clause-kept c =
    let i = c.loop-ahead.invariant in
    here-kept c.args.table.now c.loop-ahead.table i.extends c.args.own.now c.requires.own_in c.args.base c.mark-item.result c.mark-item.result c.loop-ahead.ahead.now c.mark-item.is c.in-len1-up.len_at_least i.kept

pub overtakes-requires-clause-own_in : goal.overtakes-requires-clause-own_in
overtakes-requires-clause-own_in c = of_table-grown c.args.table.now c.loop-ahead.table c.loop-ahead.invariant.extends c.args.own.now c.requires.own_in

pub returns-in_err-overtakes-clause-extends : goal.returns-in_err-overtakes-clause-extends
returns-in_err-overtakes-clause-extends c = extends_trans c.args.table.now c.loop-ahead.table c.overtakes.new.table c.loop-ahead.invariant.extends c.overtakes.ensures.extends

pub returns-then-branch-clause-extends : goal.returns-then-branch-clause-extends
returns-then-branch-clause-extends c = extends_trans c.args.table.now c.loop-ahead.table c.overtakes.new.table c.loop-ahead.invariant.extends c.overtakes.ensures.extends

pub returns-then-branch-clause-first : goal.returns-then-branch-clause-first
returns-then-branch-clause-first c =
    let i = c.loop-ahead.invariant in
    i.first _
    (first-here c.args.table.now c.loop-ahead.table i.extends c.args.own.now c.requires.own_in c.args.base c.mark-item.result c.mark-item.result c.loop-ahead.ahead.now c.mark-item.is c.in-len1-up.len_at_least i.kept
    c.in_ok-overtakes.field-0 c.in_ok-overtakes.ensures.decides c.if-branch.true)

pub loop-ahead-preserved : goal.loop-ahead-preserved
loop-ahead-preserved c =
    let i = c.loop-ahead.invariant in
    record {
      extends = extends_trans c.args.table.now c.loop-ahead.table c.overtakes.new.table i.extends c.overtakes.ensures.extends;
      kept = rest-kept c.args.table.now c.loop-ahead.table i.extends c.args.own.now c.requires.own_in c.args.base c.mark-item.result c.mark-item.result c.loop-ahead.ahead.now c.mark-item.is c.in-len1-up.len_at_least i.kept;
      first = λ found rest. i.first found
          (first-later c.args.table.now c.loop-ahead.table i.extends c.args.own.now c.requires.own_in c.args.base c.mark-item.result c.mark-item.result c.loop-ahead.ahead.now c.mark-item.is c.in-len1-up.len_at_least i.kept
          c.in_ok-overtakes.field-0 found c.in_ok-overtakes.ensures.decides c.if-branch.false rest);
    }
