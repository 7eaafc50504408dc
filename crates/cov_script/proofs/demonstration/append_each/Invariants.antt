use Rattle.std.proofs.Common.{◌≡◌, ◌++◌}
use Rattle.cov_script.specs.Commits.{each_below}
use Rattle.cov_script.specs.Demonstration.{row_line}
use Rattle.cov_script.proofs.demonstration.append_each.Given as goal

-- the lines of the numbers that were taken so far
abbrev pub invariant-loop-number : goal.invariant-loop-number
invariant-loop-number l = l.text ≡ l.fn.text ++ each_below l.number (row_line l.fn.row)
