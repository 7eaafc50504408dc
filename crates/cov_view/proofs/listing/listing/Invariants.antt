use Rattle.std.proofs.Common.{◌≡◌}
use Rattle.cov_view.proofs.listing.listing.Given as goal

abbrev pub invariant-children : goal.invariant-children
invariant-children l = l.listing ≡ l.yielded
