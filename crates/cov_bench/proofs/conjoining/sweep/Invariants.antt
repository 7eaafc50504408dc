use Rattle.std.proofs.Common.{◌<◌}
use Rattle.std.specs.List.{AllByRecursion}
use Rattle.cov_dd.specs.Diagrams.{diagram_size}
use Rattle.cov_bench.proofs.conjoining.sweep.Given as goal

abbrev pub invariant-loop : goal.invariant-loop
invariant-loop l = AllByRecursion (λ a. a < diagram_size l.table) l.nodes
