use Rattle.std.proofs.Common.{◌≡◌, ◌-◌, ◌++◌, length}
use Rattle.cov_view.specs.Held.{left}
use Rattle.cov_view.proofs.Left.{left_from}
use Rattle.cov_view.proofs.held.lines_left.Given as goal

abbrev pub invariant-loop-index : goal.invariant-loop-index
invariant-loop-index l = record {
  whole : l.copy ++ left_from l.index l.rows l.gone ≡ left l.rows l.gone;
}

abbrev pub decreases-loop-index : goal.decreases-loop-index
decreases-loop-index l = length l.rows - l.index
