-- The lines of a file by their places: shared lines, and behind them a view's own.
use Rattle.std.specs.Prelude.{ℕ, ◌<◌, not, List, [], ◌∷◌, ◌++◌, get_or, length, map, if◌then◌else◌}
use Rattle.std.specs.List.{filter, AllByRecursion}
use Rattle.cov_base.specs.Addresses.{after_first}
use Rattle.cov_base.specs.declared.file_row.FileRow.{FileRow}
use Rattle.cov_base.specs.declared.number.LineRef.{LineRef}
use Rattle.cov_base.specs.declared.number.LineRef.TheVariants as lines
use Rattle.cov_view.specs.Lines.{old_line}
use Rattle.cov_view.specs.References.{is_head, same_line}
use Rattle.cov_view.specs.declared.line.ViewLine.{ViewLine}

-- lines of a history with a view's own behind them
abbrev pub joined : List FileRow → List ViewLine → List ViewLine
joined rows own = map old_line rows ++ own

-- the line at a place, and behind all lines the head
abbrev pub line_at : List ViewLine → ℕ → ViewLine
line_at ls p = get_or ls p (record { line = lines.Old 0; text = [] })

-- the lines at places
abbrev pub at_places : List ViewLine → List ℕ → List ViewLine
at_places ls ps = map (line_at ls) ps

-- whether at each place there is a line
abbrev pub AreWithin : List ViewLine → List ℕ → Type 0
AreWithin ls ps = AllByRecursion (λ p. p < length ls) ps

-- the places with one directly after that of an anchor, or first where that is the head
abbrev pub after_place : List ViewLine → LineRef → ℕ → List ℕ → List ℕ
after_place ls after new ps = if is_head after then new ∷ ps else after_first (λ p. same_line (line_at ls p).line after) new ps

-- the places without those of a line
abbrev pub without_place : List ViewLine → LineRef → List ℕ → List ℕ
without_place ls line ps = filter (λ p. not (same_line (line_at ls p).line line)) ps
