-- The lines of a file by references.
use Rattle.std.specs.Prelude.{Bool, not, List, ◌∷◌, if◌then◌else◌}
use Rattle.std.specs.List.{filter, list_any}
use Rattle.cov_base.specs.declared.number.LineRef.{LineRef}
use Rattle.cov_base.specs.declared.number.LineRef.TheVariants as lines
use Rattle.cov_base.specs.declared.file_row.FileRow.{FileRow}
use Rattle.cov_base.specs.Addresses.{after_first}
use Rattle.cov_view.specs.References.{is_head, same_line}
use Rattle.cov_view.specs.declared.line.ViewLine.{ViewLine}

-- whether lines have one
abbrev pub is_among : LineRef → List ViewLine → Bool
is_among line ls = list_any (λ l. same_line l.line line) ls

-- the lines with one directly after its anchor, or first where that is the head
abbrev pub after_ref : LineRef → ViewLine → List ViewLine → List ViewLine
after_ref after new ls = if is_head after then new ∷ ls else after_first (λ l. same_line l.line after) new ls

-- the lines without one
abbrev pub without_ref : LineRef → List ViewLine → List ViewLine
without_ref line ls = filter (λ l. not (same_line l.line line)) ls

-- a line that a history has
abbrev pub old_line : FileRow → ViewLine
old_line r = record { line = lines.Old r.line; text = r.text }
