use Rattle.std.proofs.Common.{◌≡◌, ◌-◌, length}
use Rattle.cov_view.specs.Held.{left}
use Rattle.cov_view.specs.Lines.{is_among}
use Rattle.cov_view.proofs.Left.{left_from}
use Rattle.cov_view.proofs.held.is_left.Given as goal

abbrev pub invariant-loop-index : goal.invariant-loop-index
invariant-loop-index l = record {
  rest : is_among l.line (left l.rows l.gone) ≡ is_among l.line (left_from l.index l.rows l.gone);
}

abbrev pub decreases-loop-index : goal.decreases-loop-index
decreases-loop-index l = length l.rows - l.index
