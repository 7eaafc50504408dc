use Rattle.std.proofs.Common.{◌≡◌, ℕ, ◌-◌, ◌≤◌, ◌&&◌, nat_lt, nat_le}
use Rattle.cov_order.specs.Orders.{has_line}
use Rattle.cov_file.specs.Dated.{line_numbers_of}
use Rattle.cov_low_tests.proofs.tests.dated.add_lines.Given as goal

abbrev pub invariant-lines : goal.invariant-lines
invariant-lines l = record {
  numbers : (n : ℕ) → has_line n (line_numbers_of l.file.lines) ≡ (nat_lt 0 n && nat_le n l.count);
  newest : l.file.newest ≤ 1;
  few : l.count ≤ 65536;
}

abbrev pub decreases-lines : goal.decreases-lines
decreases-lines l = 65536 - l.count
