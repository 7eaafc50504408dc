use Rattle.std.proofs.Common.{◌≡◌, ◌<◌, ◌++◌, length, drop, map}
use Rattle.cov_file.specs.Kept.{row_in}
use Rattle.cov_file.proofs.lines.FileLines.all.Given as goal

abbrev pub invariant-loop-line : goal.invariant-loop-line
invariant-loop-line l = record {
  rows : l.rows ++ map (row_in l.self-inside.texts.entries) (drop l.index l.lines) ≡ map (row_in l.self-inside.texts.entries) l.lines;
  short : length l.lines < 18446744073709551616;
}

abbrev pub decreases-loop-line : goal.decreases-loop-line
decreases-loop-line l = length (drop l.index l.lines)
