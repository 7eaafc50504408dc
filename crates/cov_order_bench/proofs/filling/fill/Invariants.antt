use Rattle.std.proofs.Common.{◌≡◌, ℕ, ◌<◌, ◌≤◌, ◌+◌, true, false}
use Rattle.cov_order.specs.Orders.{has_line}
use Rattle.cov_order_bench.proofs.filling.fill.Given as goal

abbrev pub invariant-numbers : goal.invariant-numbers
invariant-numbers l = record {
  anchored : (q : ℕ) → 0 < q → q < l.number → has_line q l.order.lines ≡ true;
  fresh : (q : ℕ) → l.number ≤ q → has_line q l.order.lines ≡ false;
  room : l.count + 1 ≤ l.order.spare + l.number;
}
