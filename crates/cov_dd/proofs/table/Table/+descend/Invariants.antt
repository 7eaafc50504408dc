use Rattle.std.proofs.Common.{◌-◌}
use Rattle.cov_base.specs.declared.limits.TheConstants.{CHOICE_WIDTH}
use Rattle.cov_dd.specs.Combinations.{first_option}
use Rattle.cov_dd.proofs.table.Table.+descend.Given as goal

abbrev pub decreases-descend : goal.decreases-descend
decreases-descend g l = CHOICE_WIDTH - first_option l.self.now l.a l.b
