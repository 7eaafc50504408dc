use Rattle.std.proofs.Common.{◌≡◌, ℕ, nat_eq, take}
use Rattle.indexmap.specs.IndexMap.{get, spare}
use Rattle.cov_order.specs.Orders.{has_line}
use Rattle.cov_order.specs.Pages.{moved}
use Rattle.cov_order.proofs.pages.move_lines.Given as goal

abbrev pub invariant-lines : goal.invariant-lines
invariant-lines l = record {
  lines : (q : ℕ) → get nat_eq l.index q ≡ moved l.number (has_line q (take l.line-index l.lines)) (get nat_eq l.initial.index q);
  spare : spare l.index ≡ spare l.initial.index;
}
