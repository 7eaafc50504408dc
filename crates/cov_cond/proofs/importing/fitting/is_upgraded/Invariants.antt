use Rattle.std.proofs.Common.{◌≡◌, ◌≤◌, ◌-◌, drop}
use Rattle.cov_edit.specs.Limits.{is_upgraded}
use Rattle.cov_cond.proofs.importing.fitting.is_upgraded.Given as goal

abbrev pub invariant-loop-before : goal.invariant-loop-before
invariant-loop-before l = (l.before ≤ l.last) × (is_upgraded (drop l.before l.engine.history) ≡ is_upgraded l.engine.history)

abbrev pub decreases-loop-before : goal.decreases-loop-before
decreases-loop-before l = l.last - l.before
