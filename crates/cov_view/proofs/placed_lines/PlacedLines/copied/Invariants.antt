use Rattle.std.proofs.Common.{◌≡◌, take}
use Rattle.cov_view.specs.AtPlaces.{joined, at_places}
use Rattle.cov_view.proofs.placed_lines.PlacedLines.copied.Given as goal

abbrev pub invariant-places : goal.invariant-places
invariant-places l = l.copy ≡ at_places (joined l.rows l.own) (take l.place-index l.place-items)
