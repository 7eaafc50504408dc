use Rattle.std.proofs.Common.{◌≡◌, ◌++◌, length, take}
use Rattle.cov_visible.specs.Renumbered.{line_nodes}
use Rattle.cov_visible.proofs.file_parts.append.Given as goal

abbrev pub invariant-loop-ahead : goal.invariant-loop-ahead
invariant-loop-ahead l = record {
  nodes : l.into ++ line_nodes l.ahead ≡ l.fn.into ++ line_nodes l.parts;
  front : take (length l.fn.into) l.into ≡ l.fn.into;
}

abbrev pub decreases-loop-ahead : goal.decreases-loop-ahead
decreases-loop-ahead l = length l.ahead
