use Rattle.std.proofs.Common.{◌+◌}
use Rattle.cov_expr.specs.Formula.{part_count}
use Rattle.cov_expr.specs.Parts.{raw_formula}
use Rattle.cov_expr.proofs.naming.+binding.Given as goal

abbrev pub decreases-bind_part : goal.decreases-bind_part
decreases-bind_part l = part_count (raw_formula l.part.now)

abbrev pub decreases-bind_both : goal.decreases-bind_both
decreases-bind_both l = part_count (raw_formula l.left.now) + part_count (raw_formula l.right.now)
