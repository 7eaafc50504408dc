use Rattle.std.proofs.Common.{◌≡◌, filter, map, take}
use Rattle.cov_view.specs.Listing.{dir_row}
use Rattle.cov_view.specs.References.{same_node}
use Rattle.cov_view.specs.declared.row.ViewRow.{ViewRow}
use Rattle.cov_view.proofs.listing.children_of.Given as goal

abbrev pub invariant-rows : goal.invariant-rows
invariant-rows l = l.children.items ≡ map dir_row (filter (λ (r : ViewRow). same_node r.parent l.dir) (take l.row-index l.rows))
