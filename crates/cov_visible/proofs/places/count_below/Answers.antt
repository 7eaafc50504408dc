use Rattle.std.proofs.Common.{nat_lt, rules, of_calls}
use Rattle.std.proofs.lemmas.List.Sorted.{IsPartitionPoint-from_clause}
use Rattle.cov_visible.specs.Parts.{part_node}
use Rattle.cov_visible.proofs.Halving.{count-point, parted-below}
use Rattle.cov_visible.proofs.places.count_below.Goals as goal

pub returns : goal.returns
returns c =
    let files = c.args.files.now in
    count-point part_node c.args.node files c.partition_point.result c.partition_point.ensures.bound
    (IsPartitionPoint-from_clause (λ e. nat_lt e.node c.args.node) files c.partition_point.result c.partition_point.ensures.partitioned
    (parted-below part_node c.args.node files c.requires.rising) (λ a r f k. search (rules, of_calls)))
