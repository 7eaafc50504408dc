-- The lines of a file that a view shares, and those that were taken out of them.
use Rattle.std.specs.Prelude.{Bool, List, [], ◌∷◌, if◌then◌else◌}
use Rattle.cov_base.specs.declared.file_row.FileRow.{FileRow}
use Rattle.cov_view.specs.Lines.{old_line}
use Rattle.cov_view.specs.declared.line.ViewLine.{ViewLine}

-- the lines of a history that weren't taken out; a flag for each says whether it was
abbrev pub left : List FileRow → List Bool → List ViewLine
left [] gone = []
left (r ∷ rs) [] = old_line r ∷ left rs []
left (r ∷ rs) (g ∷ gs) = if g then left rs gs else old_line r ∷ left rs gs
