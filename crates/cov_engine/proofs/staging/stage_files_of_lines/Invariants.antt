use Rattle.std.proofs.Common.{◌≡◌, ◌++◌, length, take}
use Rattle.cov_visible.specs.Staging.{files_of_lines}
use Rattle.cov_engine.proofs.staging.stage_files_of_lines.Given as goal

abbrev pub invariant-loop-ahead : goal.invariant-loop-ahead
invariant-loop-ahead l = record {
  all : l.file_of_line.items ++ files_of_lines l.ahead ≡ l.initial.file_of_line.items ++ files_of_lines l.edits;
  front : take (length l.initial.file_of_line.items) l.file_of_line.items ≡ l.initial.file_of_line.items;
}

abbrev pub decreases-loop-ahead : goal.decreases-loop-ahead
decreases-loop-ahead l = length l.ahead
