use Rattle.std.proofs.Common.{ℕ, Bool, length}
use Rattle.std.specs.List.{AllByRecursion}
use Rattle.cov_values.specs.Values.{Agrees, IsOther}
use Rattle.cov_values.proofs.values.found.Given as goal

abbrev pub invariant-loop-ahead : goal.invariant-loop-ahead
invariant-loop-ahead l = record {
  among : (f : ℕ → Bool) → Agrees f l.values → Agrees f l.ahead;
  others : AllByRecursion (IsOther l.node) l.ahead → AllByRecursion (IsOther l.node) l.values;
}

abbrev pub decreases-loop-ahead : goal.decreases-loop-ahead
decreases-loop-ahead l = length l.ahead
