use Rattle.std.proofs.Common.{◌≡◌, ◌<◌, ◌++◌, length, drop}
use Rattle.cov_dd.specs.Diagrams.{value_in}
use Rattle.cov_file.proofs.Shown.{rows_of}
use Rattle.cov_file.proofs.lines.visible_rows.Given as goal

abbrev pub invariant-loop-line : goal.invariant-loop-line
invariant-loop-line l = record {
  rows : l.rows ++ rows_of l.sight.table.now l.sight.choice l.sight.at l.texts.entries l.changes.lists (drop l.index l.lines) ≡ rows_of l.sight.table.now l.sight.choice l.sight.at l.texts.entries l.changes.lists l.lines;
  last : l.last.value ≡ value_in l.sight.table.now l.last.node l.sight.choice;
  short : length l.lines < 18446744073709551616;
}

abbrev pub decreases-loop-line : goal.decreases-loop-line
decreases-loop-line l = length (drop l.index l.lines)
