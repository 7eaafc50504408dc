use Rattle.std.proofs.Common.{◌≡◌}
use Rattle.cov_expr.specs.Reading.{with_nots}
use Rattle.cov_expr.proofs.reading.negated.Given as goal

abbrev pub invariant-loop : goal.invariant-loop
invariant-loop l = l.tree ≡ with_nots l.counter l.initial.tree
