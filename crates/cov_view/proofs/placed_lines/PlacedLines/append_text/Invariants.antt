use Rattle.std.proofs.Common.{◌≡◌, ◌++◌, length}
use Rattle.cov_view.specs.AtPlaces.{joined, at_places}
use Rattle.cov_view.specs.SeenTree.{ended_lines}
use Rattle.cov_view.proofs.placed_lines.PlacedLines.append_text.Given as goal

abbrev pub invariant-loop-ahead : goal.invariant-loop-ahead
invariant-loop-ahead l = record {
  text : l.text ++ ended_lines (at_places (joined l.rows l.own) l.ahead) ≡ l.initial.text ++ ended_lines l.self;
}

abbrev pub decreases-loop-ahead : goal.decreases-loop-ahead
decreases-loop-ahead l = length l.ahead
