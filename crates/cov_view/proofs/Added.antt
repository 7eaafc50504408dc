-- Lines that are added to a file.
use Rattle.std.proofs.Common.{◌≡◌, refl, ap, sym, ◌∙◌, ℕ, Bool, true, false, cond, List, [], ◌∷◌, ◌++◌, map, append-nil, append_assoc}
use Rattle.std.specs.List.{fold}
use Rattle.cov_base.specs.declared.number.NodeRef.{NodeRef}
use Rattle.cov_base.specs.declared.number.NodeRef.TheVariants as nodes
use Rattle.cov_base.specs.declared.file_row.FileRow.{FileRow}
use Rattle.cov_view.specs.References.{same_node}
use Rattle.cov_view.specs.Seen.{at_row, old_line, with_lines_by, with_file_row}
use Rattle.cov_view.specs.declared.line.ViewLine.{ViewLine}
use Rattle.cov_view.specs.declared.row.ViewRow.{ViewRow}

module _ (node : NodeRef) where
  abbrev added : List ViewLine → List ViewRow → List ViewRow
  added ls = at_row node (with_lines_by (λ m. m ++ ls))

  -- no lines change nothing
  none-added : (rows : List ViewRow) → rows ≡ added [] rows
  none-added [] = refl
  none-added (r ∷ rows) = at (same_node r.node node) (none-added rows)
    where
      at : (b : Bool) → rows ≡ added [] rows → r ∷ rows ≡ cond b (with_lines_by (λ m. m ++ []) r ∷ rows) (r ∷ added [] rows)
      at true rest = ap (λ ls. with_lines_by (λ m. ls) r ∷ rows) (sym (append-nil r.lines))
      at false rest = ap (λ rs. r ∷ rs) rest

  -- lines after lines are their lists joined
  added-twice : (ls ms : List ViewLine) (rows : List ViewRow) → added ms (added ls rows) ≡ added (ls ++ ms) rows
  added-twice ls ms [] = refl
  added-twice ls ms (r ∷ rows) = at (same_node r.node node) refl (added-twice ls ms rows)
    where
      at : (b : Bool) → same_node r.node node ≡ b → added ms (added ls rows) ≡ added (ls ++ ms) rows
          → added ms (cond b (with_lines_by (λ m. m ++ ls) r ∷ rows) (r ∷ added ls rows)) ≡ cond b (with_lines_by (λ m. m ++ (ls ++ ms)) r ∷ rows) (r ∷ added (ls ++ ms) rows)
      at true e rest =
          let once = with_lines_by (λ m. m ++ ls) r in
          ap (λ b. cond b (with_lines_by (λ m. m ++ ms) once ∷ rows) (once ∷ added ms rows)) e
          ∙ ap (λ l. with_lines_by (λ m. l) r ∷ rows) (append_assoc r.lines ls ms)
      at false e rest = ap (λ b. cond b (with_lines_by (λ m. m ++ ms) r ∷ added ls rows) (r ∷ added ms (added ls rows))) e ∙ ap (λ rs. r ∷ rs) rest

-- lines added one by one are added at once
pub lines-added : (file : ℕ) (ls : List FileRow) (rows : List ViewRow) → fold (with_file_row file) rows ls ≡ at_row (nodes.Old file) (with_lines_by (λ m. m ++ map old_line ls)) rows
lines-added file [] rows = none-added (nodes.Old file) rows
lines-added file (l ∷ ls) rows = lines-added file ls (with_file_row file rows l) ∙ added-twice (nodes.Old file) (old_line l ∷ []) (map old_line ls) rows
