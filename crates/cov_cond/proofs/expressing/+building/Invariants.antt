use Rattle.std.proofs.Common.{◌+◌, ◌*◌}
use Rattle.cov_cond.proofs.expressing.+building.Given as goal

abbrev pub decreases-child_part : goal.decreases-child_part
decreases-child_part l = 3 * l.steps

abbrev pub decreases-entry_part : goal.decreases-entry_part
decreases-entry_part l = 3 * l.steps + 2

abbrev pub decreases-both : goal.decreases-both
decreases-both l = 3 * l.steps + 1

abbrev pub decreases-either : goal.decreases-either
decreases-either l = 3 * l.steps + 1
