-- The lines of a file of a view, whoever owns them.
use Rattle.std.specs.Prelude.{List}
use Rattle.cov_view.specs.declared.line.ViewLine.{ViewLine}
use Rattle.cov_view.specs.declared.row_lines.Lines.{Lines}
use Rattle.cov_view.specs.declared.row_lines.Lines.TheVariants as rows

-- the lines of a file, whether they are its own, shared or both
abbrev pub lines_of : Lines → List ViewLine
lines_of (rows.Own own) = own
lines_of (rows.Shared held) = held
lines_of (rows.Placed placed) = placed
