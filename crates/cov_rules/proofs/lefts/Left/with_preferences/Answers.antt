use Rattle.std.proofs.Common.{arith}
use Rattle.cov_dd.proofs.CallerLemmas.{extends_trans}
use Rattle.cov_rules.specs.declared.rules.Installed.{Installed}
use Rattle.cov_rules.proofs.Closing.{wish_more}
use Rattle.cov_rules.proofs.Narrowing.{next_stands, reach_at}
use Rattle.cov_rules.proofs.lefts.Left.with_preferences.Goals as goal

pub with_preference-requires-clause-node : goal.with_preference-requires-clause-node
with_preference-requires-clause-node c =
    next_stands c.args.table.now c.loop-wish.table c.loop-wish.invariant.extends c.args.wishes.now c.loop-wish.wish-index c.wish-item.result c.requires.nodes c.loop-wish-test.true c.wish-item.is

pub with_preference-requires-clause-below : goal.with_preference-requires-clause-below
with_preference-requires-clause-below c =
    omega (arith, reach_at c.args.wishes.now c.loop-wish.wish-index c.wish-item.result c.loop-wish-test.true c.wish-item.is, c.requires.below, c.loop-wish.invariant.kept.count)

pub returns-in_err-left-clause-extends : goal.returns-in_err-left-clause-extends
returns-in_err-left-clause-extends c = extends_trans c.args.table.now c.loop-wish.table c.with_preference.new.table c.loop-wish.invariant.extends c.in_err-left.ensures.extends

pub loop-wish-preserved : goal.loop-wish-preserved
loop-wish-preserved c = record {
  extends = extends_trans c.args.table.now c.loop-wish.table c.with_preference.new.table c.loop-wish.invariant.extends c.in_ok-left.ensures.extends;
  kept = wish_more (λ (r : Installed). r.expr) c.args.wishes.now c.loop-wish.wish-index c.wish-item.result c.loop-wish-test.true c.wish-item.is
      c.args.table.now c.loop-wish.table c.with_preference.new.table c.args.self.now c.loop-wish.left c.in_ok-left.left c.loop-wish.invariant.kept c.in_ok-left.ensures.kept;
}
