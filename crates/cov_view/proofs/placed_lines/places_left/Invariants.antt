use Rattle.std.proofs.Common.{◌≡◌, ◌≤◌, ◌<◌, ◌-◌, ◌++◌, [], length, vec_capacity}
use Rattle.cov_view.specs.AtPlaces.{joined, at_places, AreWithin}
use Rattle.cov_view.specs.Held.{left}
use Rattle.cov_view.proofs.Left.{left_from}
use Rattle.cov_view.proofs.placed_lines.places_left.Given as goal

abbrev pub invariant-loop-place : goal.invariant-loop-place
invariant-loop-place l = record {
  whole : at_places (joined l.rows []) l.places.items ++ left_from l.place l.rows l.gone ≡ left l.rows l.gone;
  within : AreWithin (joined l.rows []) l.places.items;
  few : length l.places.items ≤ l.place;
  reached : l.place ≤ l.count;
  room : l.count < vec_capacity l.places;
}

abbrev pub decreases-loop-place : goal.decreases-loop-place
decreases-loop-place l = l.count - l.place
