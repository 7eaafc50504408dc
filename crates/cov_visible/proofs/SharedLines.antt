-- Lines that are shared with rows that all stand already.
use Rattle.std.proofs.Common.{◌≡◌, refl, ap, sym, ◌∙◌, subst, ℕ, ◌<◌, ◌≤◌, Bool, true, false, cond, ◌||◌, List, [], ◌∷◌, ◌++◌, length, get_or, Option, Some, None, append-nil, append_assoc, arith}
use Rattle.std.specs.List.{fold}
use Rattle.cov_base.proofs.CallerLemmas.{opened, rest_of}
use Rattle.cov_base.specs.Rows.{Row}
use Rattle.cov_base.specs.declared.file_row.FileRow.{FileRow}
use Rattle.cov_base.specs.declared.number.Kind.{Kind}
use Rattle.cov_base.specs.declared.number.Kind.TheVariants as kinds
use Rattle.cov_base.specs.declared.number.NodeRef.{NodeRef}
use Rattle.cov_base.specs.declared.number.NodeRef.TheVariants as nodes
use Rattle.cov_dd.specs.declared.triple.Triple.{Triple}
use Rattle.cov_file.specs.Dated.{rows_at}
use Rattle.cov_view.specs.References.{same_node}
use Rattle.cov_view.specs.Seen.{has_row, at_row, kind_in, with_file_row, with_lines_by}
use Rattle.cov_view.specs.declared.line.ViewLine.{ViewLine}
use Rattle.cov_view.specs.declared.row.ViewRow.{ViewRow}
use Rattle.cov_view.proofs.CallerLemmas.{node-itself}
use Rattle.cov_visible.specs.Parts.{part_of}
use Rattle.cov_visible.specs.Showing.{bare_row, bare_rows, with_lines, with_node, AreFresh}
use Rattle.cov_visible.specs.declared.file_part.FilePart.{FilePart}
use Rattle.cov_visible.proofs.Showing.{kind-among}

has-still : (node file : NodeRef) (f : List ViewLine → List ViewLine) (rows : List ViewRow) → has_row (at_row node (with_lines_by f) rows) file ≡ has_row rows file
has-still node file f [] = refl
has-still node file f (r ∷ rows) = at (same_node r.node node) (has-still node file f rows)
  where
    at : (b : Bool) → has_row (at_row node (with_lines_by f) rows) file ≡ has_row rows file
        → has_row (cond b (with_lines_by f r ∷ rows) (r ∷ at_row node (with_lines_by f) rows)) file ≡ (same_node r.node file || has_row rows file)
    at true rest = refl
    at false rest = ap (λ b. same_node r.node file || b) rest

has-last : (rows : List ViewRow) (r : ViewRow) → has_row (rows ++ r ∷ []) r.node ≡ true
has-last [] r = ap (λ b. b || false) (node-itself r.node)
has-last (s ∷ rows) r = at (same_node s.node r.node) (has-last rows r)
  where
    at : (b : Bool) → has_row (rows ++ r ∷ []) r.node ≡ true → (b || has_row (rows ++ r ∷ []) r.node) ≡ true
    at true rest = refl
    at false rest = rest

-- a change of the row of a node leaves the rows behind it as they are
row-front : (node : NodeRef) (f : ViewRow → ViewRow) (rows more : List ViewRow) → has_row rows node ≡ true → at_row node f (rows ++ more) ≡ at_row node f rows ++ more
row-front node f [] more h = absurd (cc)
row-front node f (r ∷ rows) more h = at (same_node r.node node) h (λ k. row-front node f rows more k)
  where
    at : (b : Bool) → (b || has_row rows node) ≡ true → (has_row rows node ≡ true → at_row node f (rows ++ more) ≡ at_row node f rows ++ more)
        → cond b (f r ∷ (rows ++ more)) (r ∷ at_row node f (rows ++ more)) ≡ cond b (f r ∷ rows) (r ∷ at_row node f rows) ++ more
    at true k rest = refl
    at false k rest = ap (λ rs. r ∷ rs) (rest k)

file-front : (file : ℕ) (lines : List FileRow) (rows more : List ViewRow) → has_row rows (nodes.Old file) ≡ true → fold (with_file_row file) (rows ++ more) lines ≡ fold (with_file_row file) rows lines ++ more
file-front file [] rows more h = refl
file-front file (l ∷ lines) rows more h =
    ap (λ rs. fold (with_file_row file) rs lines) (row-front (nodes.Old file) _ rows more h)
    ∙ file-front file lines (with_file_row file rows l) more (has-still (nodes.Old file) (nodes.Old file) _ rows ∙ h)

module _ (ts : List Triple) (c : List Bool) (at : ℕ) (stored : List FilePart) where
  lines-front : (k : Kind) (node : ℕ) (e : Option FilePart) (rows more : List ViewRow) → has_row rows (nodes.Old node) ≡ true
      → with_lines ts c at k node e (rows ++ more) ≡ with_lines ts c at k node e rows ++ more
  lines-front kinds.File node (Some e) rows more h = file-front node (rows_at ts c at e.lines.lines) rows more h
  lines-front kinds.File node None rows more h = refl
  lines-front kinds.Dir node e rows more h = refl

  -- a row's lines, with the rows that are ahead behind it
  node-front : (shown : List ViewRow) (r : Row) (rs : List Row) → with_lines ts c at r.kind r.node (part_of stored r.node) (shown ++ bare_rows (r ∷ rs)) ≡ with_node ts c at stored shown r ++ bare_rows rs
  node-front shown r rs =
      ap (with_lines ts c at r.kind r.node (part_of stored r.node)) (sym (append_assoc shown (bare_row r ∷ []) (bare_rows rs)))
      ∙ lines-front r.kind r.node (part_of stored r.node) (shown ++ bare_row r ∷ []) (bare_rows rs) (has-last shown (bare_row r))

  -- some rows are shown with their lines, and those that are ahead without
  abbrev pub ArePartly : List Row → List ViewRow → List Row → Type 0
  ArePartly all rows ahead =
      (shown : List ViewRow) × (rows ≡ shown ++ bare_rows ahead) × AreFresh ts c at stored shown ahead
      × (fold (with_node ts c at stored) shown ahead ≡ fold (with_node ts c at stored) [] all)

  -- the next row that is ahead is that of its node
  pub partly-kind : (all : List Row) (rows : List ViewRow) (ahead : List Row) (r : Row) → r ≡ get_or ahead 0 r → 1 ≤ length ahead → ArePartly all rows ahead → kind_in rows (nodes.Old r.node) ≡ Some r.kind
  partly-kind all rows ahead r is long h =
      let ahead_is = opened r r ahead is long in
      let fresh = subst (AreFresh ts c at stored h.0) ahead_is h.2 in
      ap (λ rs. kind_in rs (nodes.Old r.node)) (h.1 ∙ ap (λ (rs : List Row). h.0 ++ bare_rows rs) ahead_is) ∙ kind-among h.0 (bare_rows (rest_of ahead)) r fresh.0

  -- the next row that is ahead is shown with its lines
  pub partly-next : (all : List Row) (rows next : List ViewRow) (ahead : List Row) (r : Row) → r ≡ get_or ahead 0 r → 1 ≤ length ahead
      → next ≡ with_lines ts c at r.kind r.node (part_of stored r.node) rows → ArePartly all rows ahead → ArePartly all next (rest_of ahead)
  partly-next all rows next ahead r is long step h =
      let ahead_is = opened r r ahead is long in
      let fresh = subst (AreFresh ts c at stored h.0) ahead_is h.2 in (
        with_node ts c at stored h.0 r,
        step ∙ ap (with_lines ts c at r.kind r.node (part_of stored r.node)) (h.1 ∙ ap (λ (rs : List Row). h.0 ++ bare_rows rs) ahead_is) ∙ node-front h.0 r (rest_of ahead),
        fresh.1,
        sym (ap (fold (with_node ts c at stored) h.0) ahead_is) ∙ h.3,
      )

  -- all rows are shown with their lines once none is ahead
  pub partly-all : (all : List Row) (rows : List ViewRow) (ahead : List Row) → length ahead < 1 → ArePartly all rows ahead → rows ≡ fold (with_node ts c at stored) [] all
  partly-all all rows [] none h = h.1 ∙ append-nil h.0 ∙ h.3
  partly-all all rows (r ∷ ahead) none h = absurd (omega (arith, none))
