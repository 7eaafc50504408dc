use Rattle.std.proofs.Common.{take}
use Rattle.cov_view.specs.Keys.{IsIndexOf}
use Rattle.cov_view.proofs.node_index.NodeIndex.of_rows.Given as goal

abbrev pub invariant-rows : goal.invariant-rows
invariant-rows l = IsIndexOf l.index (take l.row-index l.rows)
