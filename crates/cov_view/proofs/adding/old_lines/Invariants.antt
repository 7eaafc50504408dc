use Rattle.std.proofs.Common.{◌≡◌, map, take}
use Rattle.cov_view.specs.Seen.{old_line}
use Rattle.cov_view.proofs.adding.old_lines.Given as goal

abbrev pub invariant-lines : goal.invariant-lines
invariant-lines l = l.made ≡ map old_line (take l.line-index l.line-items)
