use Rattle.std.proofs.Common.{◌≡◌, ◌≤◌, ◌+◌, length}
use Rattle.cov_cond.specs.Committing.{choice_count}
use Rattle.cov_cond.proofs.importing.choosing.choice_count.Given as goal

abbrev pub invariant-loop-ahead : goal.invariant-loop-ahead
invariant-loop-ahead l = (l.count + choice_count l.ahead ≡ choice_count l.choices) × (l.count + length l.ahead ≤ length l.choices)

abbrev pub decreases-loop-ahead : goal.decreases-loop-ahead
decreases-loop-ahead l = length l.ahead
