use Rattle.std.proofs.Common.{◌≡◌, take}
use Rattle.cov_view.specs.Shown.{bare_rows}
use Rattle.cov_view.proofs.rows.bare_rows.Given as goal

abbrev pub invariant-rows : goal.invariant-rows
invariant-rows l = l.rows.items ≡ bare_rows (take l.row-index l.row-items)
