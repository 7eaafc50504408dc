use Rattle.std.proofs.Common.{◌≡◌, ℕ, ◌≤◌, ◌+◌, true, false}
use Rattle.cov_order.specs.Orders.{has_line}
use Rattle.cov_low_tests.proofs.tests.files.add_many.Given as goal

abbrev pub invariant-numbers : goal.invariant-numbers
invariant-numbers l = record {
  anchored : has_line 1 l.order.lines ≡ true;
  fresh : (q : ℕ) → l.number ≤ q → has_line q l.order.lines ≡ false;
  room : 1000001 ≤ l.order.spare + l.number;
}
