use Rattle.std.proofs.Common.{◌≡◌, ◌≤◌, ◌-◌, take}
use Rattle.cov_hist.specs.Holding.{holding}
use Rattle.cov_hist.proofs.logging.log.Given as goal

abbrev pub invariant-loop-before : goal.invariant-loop-before
invariant-loop-before l = record {
  within : l.before ≤ l.last;
  rows : l.rows ≡ holding (take l.before l.engine.history) l.choice;
}

abbrev pub decreases-loop-before : goal.decreases-loop-before
decreases-loop-before l = l.last - l.before
