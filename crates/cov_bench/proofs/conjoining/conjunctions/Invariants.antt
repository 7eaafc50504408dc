use Rattle.std.proofs.Common.{◌<◌}
use Rattle.std.specs.List.{AllByRecursion}
use Rattle.cov_dd.specs.Diagrams.{diagram_size}
use Rattle.cov_bench.proofs.conjoining.conjunctions.Given as goal

abbrev pub invariant-loop : goal.invariant-loop
invariant-loop l = record {
  all : l.all < diagram_size l.table;
  nodes : AllByRecursion (λ a. a < diagram_size l.table) l.nodes;
}
