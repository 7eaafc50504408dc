use Rattle.std.proofs.Common.{◌<◌}
use Rattle.cov_dd.specs.Diagrams.{diagram_size}
use Rattle.cov_bench.proofs.conjoining.conjunction.Given as goal

abbrev pub invariant-loop-count : goal.invariant-loop-count
invariant-loop-count l = l.all < diagram_size l.table
