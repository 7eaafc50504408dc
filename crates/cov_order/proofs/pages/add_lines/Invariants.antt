use Rattle.std.proofs.Common.{◌≡◌, ◌++◌, take}
use Rattle.cov_order.proofs.pages.add_lines.Given as goal

abbrev pub invariant-lines : goal.invariant-lines
invariant-lines l = l.walked ≡ l.initial.walked ++ take l.line-index l.lines
