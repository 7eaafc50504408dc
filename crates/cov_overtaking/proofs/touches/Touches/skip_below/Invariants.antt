use Rattle.std.proofs.Common.{◌≡◌, length}
use Rattle.cov_overtaking.specs.Touches.{touches_from}
use Rattle.cov_overtaking.proofs.touches.Touches.skip_below.Given as goal

abbrev pub invariant-loop-touch : goal.invariant-loop-touch
invariant-loop-touch l = touches_from l.node l.self ≡ touches_from l.node l.fn.self

abbrev pub decreases-loop-touch : goal.decreases-loop-touch
decreases-loop-touch l = length l.self
