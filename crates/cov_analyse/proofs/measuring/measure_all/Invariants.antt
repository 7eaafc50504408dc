use Rattle.std.proofs.Common.{◌≡◌, ◌≤◌, ◌<◌, ◌-◌, ℕ, length}
use Rattle.cov_vis.specs.declared.listing.Child.TheVariants.{At}
use Rattle.cov_analyse.specs.LeastNumbers.{AreMeasured, IsMeasured}
use Rattle.cov_analyse.proofs.measuring.measure_all.Given as goal

abbrev pub invariant-loop-index : goal.invariant-loop-index
invariant-loop-index l = record {
  few : l.index ≤ length l.entries;
  count : length l.numbers ≡ length l.entries;
  measured : AreMeasured l.entries l.choice l.numbers;
  done : (j : ℕ) → j < l.index → IsMeasured l.numbers (At j);
}

abbrev pub decreases-loop-index : goal.decreases-loop-index
decreases-loop-index l = length l.entries - l.index
