use Rattle.std.proofs.Common.{ℕ, Bool, length}
use Rattle.std.specs.List.{AllByRecursion}
use Rattle.cov_values.specs.Replaced.{IsReplacedTo}
use Rattle.cov_values.specs.Values.{Agrees}
use Rattle.cov_values.proofs.values.Values.renumbered.Given as goal

abbrev pub invariant-loop-ahead : goal.invariant-loop-ahead
invariant-loop-ahead l = record {
  replaced : (f : ℕ → Bool) → Agrees f l.values → AllByRecursion (IsReplacedTo l.by f) l.ahead → AllByRecursion (IsReplacedTo l.by f) l.self;
}

abbrev pub decreases-loop-ahead : goal.decreases-loop-ahead
decreases-loop-ahead l = length l.ahead
