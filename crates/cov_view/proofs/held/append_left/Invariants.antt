use Rattle.std.proofs.Common.{◌≡◌, ◌-◌, ◌++◌, length}
use Rattle.cov_view.specs.Held.{left}
use Rattle.cov_view.specs.SeenTree.{ended_lines}
use Rattle.cov_view.proofs.Left.{left_from}
use Rattle.cov_view.proofs.held.append_left.Given as goal

abbrev pub invariant-loop-index : goal.invariant-loop-index
invariant-loop-index l = record {
  whole : l.text ++ ended_lines (left_from l.index l.rows l.gone) ≡ l.initial.text ++ ended_lines (left l.rows l.gone);
}

abbrev pub decreases-loop-index : goal.decreases-loop-index
decreases-loop-index l = length l.rows - l.index
