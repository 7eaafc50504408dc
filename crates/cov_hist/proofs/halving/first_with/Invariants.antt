use Rattle.std.proofs.Common.{◌<◌, ◌≤◌, ◌-◌, length, take}
use Rattle.cov_edit.specs.Numbering.{line_count}
use Rattle.cov_hist.proofs.halving.first_with.Given as goal

abbrev pub invariant-loop-with : goal.invariant-loop-with
invariant-loop-with l = record {
  apart : l.before < l.with;
  within : l.with ≤ length l.engine.history;
  low : line_count (take l.before l.engine.history) < l.line;
  high : l.line ≤ line_count (take l.with l.engine.history);
}

abbrev pub decreases-loop-with : goal.decreases-loop-with
decreases-loop-with l = l.with - l.before
