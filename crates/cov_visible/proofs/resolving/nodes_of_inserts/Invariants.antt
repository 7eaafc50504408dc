use Rattle.std.proofs.Common.{◌≡◌, ◌++◌, length}
use Rattle.cov_visible.specs.Resolved.{insert_nodes}
use Rattle.cov_visible.proofs.resolving.nodes_of_inserts.Given as goal

abbrev pub invariant-loop-ahead : goal.invariant-loop-ahead
invariant-loop-ahead l = record {
  each : length l.behind ≡ length l.ahead;
  all : l.nodes.items ++ insert_nodes l.behind l.ahead ≡ insert_nodes l.conditions l.edits;
}

abbrev pub decreases-loop-ahead : goal.decreases-loop-ahead
decreases-loop-ahead l = length l.ahead
