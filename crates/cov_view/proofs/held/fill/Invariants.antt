use Rattle.std.proofs.Common.{◌≡◌, ◌-◌, ◌++◌, length, replicate, false, vec_capacity}
use Rattle.cov_view.proofs.held.fill.Given as goal

abbrev pub invariant-loop-gone : goal.invariant-loop-gone
invariant-loop-gone l = record {
  items : l.gone.items ++ replicate (l.count - length l.gone.items) false ≡ l.initial.gone.items ++ replicate (l.count - length l.initial.gone.items) false;
  capacity : vec_capacity l.gone ≡ vec_capacity l.initial.gone;
}

abbrev pub decreases-loop-gone : goal.decreases-loop-gone
decreases-loop-gone l = l.count - length l.gone.items
