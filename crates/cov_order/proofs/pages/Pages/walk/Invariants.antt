use Rattle.std.proofs.Common.{◌≡◌, take}
use Rattle.std.specs.List.{flat_map}
use Rattle.cov_order.specs.Pages.{lines_on}
use Rattle.cov_order.proofs.pages.Pages.walk.Given as goal

abbrev pub invariant-numbers : goal.invariant-numbers
invariant-numbers l = l.walked ≡ flat_map (lines_on l.self.pages.items) (take l.number-index l.number-items)
