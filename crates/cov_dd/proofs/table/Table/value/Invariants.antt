use Rattle.std.proofs.Common.{◌≡◌}
use Rattle.cov_dd.specs.Diagrams.{value_in}
use Rattle.cov_dd.proofs.table.Table.value.Given as goal

abbrev pub invariant-loop-triple : goal.invariant-loop-triple
invariant-loop-triple l = value_in l.self l.node l.choice ≡ value_in l.self l.fn.a l.choice

abbrev pub decreases-loop-triple : goal.decreases-loop-triple
decreases-loop-triple l = l.node
