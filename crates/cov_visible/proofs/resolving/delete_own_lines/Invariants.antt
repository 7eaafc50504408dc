use Rattle.std.proofs.Common.{◌≡◌, length}
use Rattle.std.specs.List.{list_any}
use Rattle.cov_visible.specs.Resolved.{deletes_own}
use Rattle.cov_visible.specs.Staging.{AreLow}
use Rattle.cov_visible.proofs.resolving.delete_own_lines.Given as goal

abbrev pub invariant-loop-ahead : goal.invariant-loop-ahead
invariant-loop-ahead l = record {
  low : AreLow l.lines l.ahead;
  any : list_any (deletes_own l.lines) l.ahead ≡ list_any (deletes_own l.lines) l.edits;
}

abbrev pub decreases-loop-ahead : goal.decreases-loop-ahead
decreases-loop-ahead l = length l.ahead
