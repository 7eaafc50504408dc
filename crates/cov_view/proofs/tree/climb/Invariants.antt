use Rattle.std.proofs.Common.{◌≡◌, length, reverse}
use Rattle.cov_view.specs.SeenTree.{path_by}
use Rattle.cov_view.proofs.tree.climb.Given as goal

abbrev pub invariant-loop-steps : goal.invariant-loop-steps
invariant-loop-steps l = record {
  path : path_by l.rows l.steps l.node (reverse l.back.items) ≡ path_by l.rows (length l.rows) l.start (reverse l.initial.back.items);
}

abbrev pub decreases-loop-steps : goal.decreases-loop-steps
decreases-loop-steps l = l.steps
