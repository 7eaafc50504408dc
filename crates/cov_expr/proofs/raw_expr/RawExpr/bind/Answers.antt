use Rattle.cov_expr.proofs.PartCounts.{part_count-renamed}
use Rattle.cov_expr.proofs.raw_expr.RawExpr.bind.Goals as goal

pub from_part-requires : goal.from_part-requires
from_part-requires c = rw (c.in-Ok.ensures.part, part_count-renamed) c.self.invariant
