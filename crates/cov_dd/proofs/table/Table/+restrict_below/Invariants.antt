use Rattle.std.proofs.Common.{◌-◌}
use Rattle.cov_base.specs.declared.limits.TheConstants.{CHOICE_WIDTH}
use Rattle.cov_dd.specs.Diagrams.{top}
use Rattle.cov_dd.proofs.table.Table.+restrict_below.Given as goal

abbrev pub decreases-restrict_below : goal.decreases-restrict_below
decreases-restrict_below l = CHOICE_WIDTH - top l.self.now l.a
