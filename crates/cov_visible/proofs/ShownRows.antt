-- Rows that are shown, by their numbers.
use Rattle.std.proofs.Common.{◌≡◌, refl, ap, sym, ◌∙◌, ℕ, Bool, List, [], ◌∷◌, ◌++◌, map, Option, Some, None, append-nil, append_assoc}
use Rattle.std.proofs.lemmas.List.{map-append}
use Rattle.std.specs.List.{fold}
use Rattle.cov_base.specs.declared.number.Kind.{Kind}
use Rattle.cov_base.specs.declared.number.Kind.TheVariants as kinds
use Rattle.cov_base.specs.Rows.{Row}
use Rattle.cov_view.specs.Soundness.{AreOld, old_row}
use Rattle.cov_dd.specs.declared.triple.Triple.{Triple}
use Rattle.cov_base.specs.declared.file_row.FileRow.{FileRow}
use Rattle.cov_file.specs.Dated.{rows_at}
use Rattle.cov_edit.specs.Numbering.{Numbers}
use Rattle.cov_view.specs.declared.row.ViewRow.{ViewRow}
use Rattle.cov_view.specs.Seen.{with_file_row}
use Rattle.cov_view.specs.Views.{row_by_number}
use Rattle.cov_visible.specs.declared.file_part.FilePart.{FilePart}
use Rattle.cov_visible.specs.Showing.{bare_row, bare_rows, with_lines, with_node}
use Rattle.cov_visible.specs.Parts.{part_of}
use Rattle.cov_view.proofs.CallerLemmas.{rows-same}

module _ (ns : Numbers) (ts : List Triple) (c : List Bool) (at : ℕ) (stored : List FilePart) where
  file-same : (file : ℕ) (rows : List ViewRow) (shown : List FileRow) → map (row_by_number ns) (fold (with_file_row file) rows shown) ≡ map (row_by_number ns) rows
  file-same file rows [] = refl
  file-same file rows (r ∷ shown) = file-same file (with_file_row file rows r) shown ∙ rows-same ns _ _ rows

  kinds-same : (kind : Kind) (node : ℕ) (e : Option FilePart) (rows : List ViewRow) → map (row_by_number ns) (with_lines ts c at kind node e rows) ≡ map (row_by_number ns) rows
  kinds-same kinds.File node (Some e) rows = file-same node rows (rows_at ts c at e.lines.lines)
  kinds-same kinds.File node None rows = refl
  kinds-same kinds.Dir node e rows = refl

  pub nodes-rows : (rows : List ViewRow) (rs : List Row) → map (row_by_number ns) (fold (with_node ts c at stored) rows rs) ≡ map (row_by_number ns) rows ++ rs
  nodes-rows rows [] = sym (append-nil (map (row_by_number ns) rows))
  nodes-rows rows (r ∷ rs) =
      nodes-rows (with_node ts c at stored rows r) rs
      ∙ ap (λ xs. xs ++ rs) (kinds-same r.kind r.node (part_of stored r.node) (rows ++ bare_row r ∷ []) ∙ map-append (row_by_number ns) rows (bare_row r ∷ []))
      ∙ append_assoc (map (row_by_number ns) rows) (r ∷ []) rs

-- rows without lines name nodes that a history has
pub bare-old : (rs : List Row) → AreOld (bare_rows rs)
bare-old [] = tt
bare-old (r ∷ rs) = (refl, bare-old rs)

-- rows without lines are told by their numbers
pub bare-told : (rs : List Row) → map old_row (bare_rows rs) ≡ rs
bare-told [] = refl
bare-told (r ∷ rs) = ap (λ l. r ∷ l) (bare-told rs)
