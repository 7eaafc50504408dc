use Rattle.std.proofs.Common.{◌≡◌, map, take}
use Rattle.cov_edit.specs.Numbering.{node_number}
use Rattle.cov_view.specs.declared.row.ViewRow.{ViewRow}
use Rattle.cov_view.proofs.soundness.numbers.Given as goal

abbrev pub invariant-rows : goal.invariant-rows
invariant-rows l = l.numbers.items ≡ map (λ (r : ViewRow). node_number 0 r.node) (take l.row-index l.rows)
