use Rattle.std.proofs.Common.{◌≡◌, List, Some, map, length}
use Rattle.cov_file.specs.Renumbered.{node_of}
use Rattle.cov_values.specs.Replaced.{found_by, AreReplaced, IsReplacedStill}
use Rattle.cov_values.specs.declared.replacing.Replaced.{Replaced}
use Rattle.cov_file.proofs.changes.put_all.Given as goal

abbrev pub invariant-loop-ahead : goal.invariant-loop-ahead
invariant-loop-ahead l = record {
  replaced : (rs : List Replaced) → IsReplacedStill l.replacements rs → AreReplaced rs (map node_of l.ahead) l.to → AreReplaced rs (map node_of l.changes) l.nodes;
  last : found_by l.replacements l.last.node ≡ Some l.last.by;
}

abbrev pub decreases-loop-ahead : goal.decreases-loop-ahead
decreases-loop-ahead l = length l.ahead
