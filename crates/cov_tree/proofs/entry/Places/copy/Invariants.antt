use Rattle.std.proofs.Common.{◌≡◌, take}
use Rattle.cov_tree.proofs.entry.Places.copy.Given as goal

abbrev pub invariant-places : goal.invariant-places
invariant-places l = l.items.items ≡ take l.place-index l.place-items
