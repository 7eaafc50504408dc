use Rattle.std.proofs.Common.{◌∙◌, sym, ap, ◌-◌}
use Rattle.cov_vis.proofs.Walking.{count_next}
use Rattle.cov_vis.specs.Counting.{count_walk, counted_on}
use Rattle.cov_vis.proofs.listing.+count.Goals as goal

pub returns : goal.returns
returns t c = record {
  count = count_next c.args.entries.now c.args.steps c.args.child c.in-At.index c.args.met c.in-Some.entry c.count-2.result c.in-At.is c.if-steps-eq0.false c.if-index-met.false
      (sym c.entry_at.ensures ∙ c.in-Some.is) c.if-index-met-2.false
      (c.count-2.ensures.count ∙ ap (counted_on (count_walk c.args.entries.now (c.args.steps - 1) c.in-Some.entry.on)) (sym c.in_ok-beside.was ∙ c.count.ensures.count));
}
