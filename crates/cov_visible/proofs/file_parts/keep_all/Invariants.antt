use Rattle.std.proofs.Common.{◌≡◌, ◌-◌, length}
use Rattle.cov_visible.proofs.file_parts.keep_all.Given as goal

abbrev pub invariant-loop-index : goal.invariant-loop-index
invariant-loop-index l = record {
  same : l.parts ≡ l.initial.parts;
}

abbrev pub decreases-loop-index : goal.decreases-loop-index
decreases-loop-index l = length l.parts - l.index
