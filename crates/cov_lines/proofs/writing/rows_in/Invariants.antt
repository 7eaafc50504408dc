use Rattle.std.proofs.Common.{◌≡◌, ◌∷◌, map, take}
use Rattle.cov_out.specs.Rows.{dir_row}
use Rattle.cov_lines.specs.Written.{row_in}
use Rattle.cov_lines.proofs.writing.rows_in.Given as goal

abbrev pub invariant-rows : goal.invariant-rows
invariant-rows l = l.written ≡ dir_row l.tree ∷ map (row_in l.tree) (take l.row-index l.row-items)
