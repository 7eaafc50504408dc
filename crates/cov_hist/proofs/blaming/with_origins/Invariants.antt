use Rattle.std.proofs.Common.{◌≡◌, ◌++◌, length, map}
use Rattle.std.specs.List.{AllByRecursion}
use Rattle.cov_hist.specs.Origins.{blame_row, HasOrigin}
use Rattle.cov_hist.proofs.blaming.with_origins.Given as goal

abbrev pub invariant-loop-ahead : goal.invariant-loop-ahead
invariant-loop-ahead l = record {
  rows : l.rows ++ map (blame_row l.engine.history) l.ahead ≡ map (blame_row l.engine.history) l.lines;
  known : AllByRecursion (HasOrigin l.engine.history) l.ahead;
}

abbrev pub decreases-loop-ahead : goal.decreases-loop-ahead
decreases-loop-ahead l = length l.ahead
