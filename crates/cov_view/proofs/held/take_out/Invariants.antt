use Rattle.std.proofs.Common.{◌≡◌, ◌≤◌, ◌-◌, length}
use Rattle.cov_view.specs.Held.{left}
use Rattle.cov_view.specs.Lines.{without_ref}
use Rattle.cov_view.proofs.Marking.{Marked}
use Rattle.cov_view.proofs.held.take_out.Given as goal

abbrev pub invariant-loop-index : goal.invariant-loop-index
invariant-loop-index l = record {
  same : length l.gone ≡ length l.rows;
  within : l.index ≤ length l.rows;
  others : without_ref l.line (left l.rows l.gone) ≡ without_ref l.line (left l.rows l.initial.gone);
  marked : Marked l.line l.index l.rows l.gone;
}

abbrev pub decreases-loop-index : goal.decreases-loop-index
decreases-loop-index l = length l.rows - l.index
