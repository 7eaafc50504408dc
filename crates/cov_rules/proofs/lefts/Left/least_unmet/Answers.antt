use Rattle.std.proofs.Common.{sym, ◌∙◌, arith}
use Rattle.cov_dd.proofs.CallerLemmas.{extends_trans}
use Rattle.cov_rules.specs.Installing.{IsNodeOf}
use Rattle.cov_rules.proofs.Narrowing.{next_stands, reach_at}
use Rattle.cov_rules.proofs.Unmet.{stops, counts_more, counts_all}
use Rattle.cov_rules.proofs.lefts.Left.least_unmet.Goals as goal
use Rattle.cov_rules.proofs.lefts.Left.least_unmet.Goals.{After-is_any}

pub returns-then-not-is_any-clause-unmet : goal.returns-then-not-is_any-clause-unmet
returns-then-not-is_any-clause-unmet c =
    stops c.args.constraints.now c.loop-constraint.constraint-index c.loop-constraint.rule _ c.loop-constraint.table c.loop-constraint.left c.loop-constraint.invariant.counted
    (sym c.is_any.ensures ∙ c.if-not-is_any.true)

-- the node of the next constraint
stands : (c : After-is_any) → IsNodeOf c.loop-constraint.table c.constraint-item.result.node c.constraint-item.result.expr
stands c =
    next_stands c.args.table.now c.loop-constraint.table c.loop-constraint.invariant.extends c.args.constraints.now c.loop-constraint.constraint-index c.constraint-item.result c.requires.nodes c.loop-constraint-test.true c.constraint-item.is

pub meet-requires-clause-node : goal.meet-requires-clause-node
meet-requires-clause-node c = (stands (goal.at.meet-requires-clause-node c).After-is_any).within

pub meet-requires-clause-options : goal.meet-requires-clause-options
meet-requires-clause-options c =
    let at = (goal.at.meet-requires-clause-options c).After-is_any in
    omega (arith, (stands at).below, reach_at c.args.constraints.now c.loop-constraint.constraint-index c.constraint-item.result c.loop-constraint-test.true c.constraint-item.is, c.requires.below, c.loop-constraint.invariant.count)

pub returns-in_err-left-clause-extends : goal.returns-in_err-left-clause-extends
returns-in_err-left-clause-extends c = extends_trans c.args.table.now c.loop-constraint.table c.meet.new.table c.loop-constraint.invariant.extends c.in_err-left.ensures.extends

pub loop-constraint-preserved : goal.loop-constraint-preserved
loop-constraint-preserved c =
    let at = (goal.at.loop-constraint-preserved c).After-is_any in
    record {
      extends = extends_trans c.args.table.now c.loop-constraint.table c.meet.new.table c.loop-constraint.invariant.extends c.in_ok-left.ensures.extends;
      sound = c.in_ok-left.ensures.meets.sound;
      count = c.in_ok-left.ensures.meets.count ∙ c.loop-constraint.invariant.count;
      number = omega (arith, c.loop-constraint.invariant.number);
      counted = counts_more c.args.constraints.now c.loop-constraint.constraint-index c.loop-constraint.rule _ c.loop-constraint.table c.loop-constraint.left c.loop-constraint.invariant.counted
          (sym c.is_any.ensures ∙ c.if-not-is_any.false) c.constraint-item.result c.loop-constraint-test.true c.constraint-item.is (stands at) c.meet.new.table c.in_ok-left.left c.in_ok-left.ensures.meets;
    }

pub returns-clause-unmet : goal.returns-clause-unmet
returns-clause-unmet c =
    counts_all c.args.constraints.now c.loop-constraint.constraint-index c.loop-constraint.rule _ c.loop-constraint.table c.loop-constraint.left c.loop-constraint.invariant.counted c.loop-constraint-test.false
