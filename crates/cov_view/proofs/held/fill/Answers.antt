use Rattle.std.proofs.Common.{◌∙◌, arith}
use Rattle.cov_view.proofs.Left.{one_flag}
use Rattle.cov_view.proofs.held.fill.Goals as goal

pub loop-gone-preserved : goal.loop-gone-preserved
loop-gone-preserved c = record {
  items =
      one_flag c.loop-gone.gone.items c.args.count c.push_reserved.new.self.items c.push_reserved.ensures.items
      (omega (arith, c.loop-gone-test.true, c.len.ensures, c.loop-gone.gone.ok.0))
      ∙ c.loop-gone.invariant.items;
  capacity = c.push_reserved.ensures.capacity ∙ c.loop-gone.invariant.capacity;
}
