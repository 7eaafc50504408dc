use Rattle.std.proofs.Common.{◌≡◌, ◌≤◌, drop, length}
use Rattle.cov_view.specs.Ordering.{clash_among, ArePlaces}
use Rattle.cov_view.proofs.soundness.least_clash.Given as goal

abbrev pub invariant-nodes : goal.invariant-nodes
invariant-nodes l = (l.at ≤ length l.order) × (l.found ≡ clash_among l.rows (drop l.at l.order)) × ArePlaces l.rows (drop l.at l.order) l.places.entries

abbrev pub decreases-nodes : goal.decreases-nodes
decreases-nodes l = l.at
