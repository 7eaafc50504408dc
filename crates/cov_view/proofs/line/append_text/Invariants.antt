use Rattle.std.proofs.Common.{◌≡◌, ◌++◌, length}
use Rattle.cov_view.specs.SeenTree.{ended_lines}
use Rattle.cov_view.proofs.line.append_text.Given as goal

abbrev pub invariant-loop-ahead : goal.invariant-loop-ahead
invariant-loop-ahead l = record {
  text : l.text ++ ended_lines l.ahead ≡ l.initial.text ++ ended_lines l.lines;
}

abbrev pub decreases-loop-ahead : goal.decreases-loop-ahead
decreases-loop-ahead l = length l.ahead
