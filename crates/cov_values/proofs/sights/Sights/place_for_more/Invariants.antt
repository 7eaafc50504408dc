use Rattle.std.proofs.Common.{◌-◌, length}
use Rattle.cov_values.proofs.sights.Sights.place_for_more.Given as goal

abbrev pub decreases-loop-at : goal.decreases-loop-at
decreases-loop-at g l = length l.self - l.at
