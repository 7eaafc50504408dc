use Rattle.cov_vis.proofs.Walking.{all_parts}
use Rattle.cov_vis.proofs.listing.reduced.Goals as goal

pub returns : goal.returns
returns c =
    all_parts (record { root = c.args.root; entries = c.args.entries.now }) c.in_range.result c.all_ordered.result c.distinct.result c.in_walk_order.result
    c.in_range.ensures c.all_ordered.ensures c.distinct.ensures c.in_walk_order.ensures c.if-not-in_range.false c.if-not-all_ordered.false c.if-not-distinct.false
