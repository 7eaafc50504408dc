use Rattle.std.proofs.Common.{◌≡◌, ◌-◌, length, map}
use Rattle.cov_visible.specs.Staging.{contents}
use Rattle.cov_visible.proofs.file_parts.expect_nothing_from.Given as goal

abbrev pub invariant-loop-at : goal.invariant-loop-at
invariant-loop-at l = record {
  same : map contents l.files ≡ map contents l.initial.files;
}

abbrev pub decreases-loop-at : goal.decreases-loop-at
decreases-loop-at l = length l.files - l.at
