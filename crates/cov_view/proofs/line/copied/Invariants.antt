use Rattle.std.proofs.Common.{◌≡◌, take}
use Rattle.cov_view.proofs.line.copied.Given as goal

abbrev pub invariant-lines : goal.invariant-lines
invariant-lines l = l.copy ≡ take l.line-index l.line-items
