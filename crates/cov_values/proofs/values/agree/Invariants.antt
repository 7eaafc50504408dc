use Rattle.std.proofs.Common.{length}
use Rattle.cov_values.specs.Values.{Agrees, on_choice}
use Rattle.cov_values.proofs.values.agree.Given as goal

abbrev pub invariant-loop-ahead : goal.invariant-loop-ahead
invariant-loop-ahead l = record {
  before : Agrees (on_choice l.table l.choice) l.ahead → Agrees (on_choice l.table l.choice) l.values;
}

abbrev pub decreases-loop-ahead : goal.decreases-loop-ahead
decreases-loop-ahead l = length l.ahead
