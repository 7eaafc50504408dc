use Rattle.std.proofs.Common.{◌≤◌, length}
use Rattle.std.specs.List.{AllByRecursion}
use Rattle.cov_overtaking.specs.Overtakers.{noted}
use Rattle.cov_overtaking.proofs.commits.are_old.Given as goal

abbrev pub invariant-loop-ahead : goal.invariant-loop-ahead
invariant-loop-ahead l = record {
  rest : AllByRecursion (λ x. noted l.notes x ≤ l.base) l.ahead → AllByRecursion (λ x. noted l.notes x ≤ l.base) l.nodes;
}

abbrev pub decreases-loop-ahead : goal.decreases-loop-ahead
decreases-loop-ahead l = length l.ahead
