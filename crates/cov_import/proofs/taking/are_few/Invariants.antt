use Rattle.std.proofs.Common.{◌≡◌, ◌+◌, ◌^◌, length}
use Rattle.std.specs.List.{sum_by}
use Rattle.cov_cond_text.specs.Readers.{line_size}
use Rattle.cov_import.proofs.taking.are_few.Given as goal

abbrev pub invariant-lines : goal.invariant-lines
invariant-lines l = sum_by line_size l.fn.lines + l.room ≡ sum_by line_size l.ahead + 2 ^ 32

abbrev pub decreases-lines : goal.decreases-lines
decreases-lines l = length l.ahead
