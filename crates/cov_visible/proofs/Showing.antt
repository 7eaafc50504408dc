-- What a view shows of kept rows and lines.
use Rattle.std.proofs.Common.{◌≡◌, refl, ap, Bool, true, false, cond, List, [], ◌∷◌, ◌++◌, option_map, Option, Some, None}
use Rattle.cov_base.specs.declared.number.Kind.{Kind}
use Rattle.cov_base.specs.declared.number.Kind.TheVariants as kinds
use Rattle.cov_base.specs.declared.number.NodeRef.{NodeRef}
use Rattle.cov_base.specs.declared.number.NodeRef.TheVariants as nodes
use Rattle.cov_base.specs.Rows.{Row}
use Rattle.cov_view.specs.Shown.{bare_row}
use Rattle.cov_view.proofs.CallerLemmas.{node-itself}
use Rattle.cov_view.specs.declared.line.ViewLine.{ViewLine}
use Rattle.cov_view.specs.declared.row.ViewRow.{ViewRow}
use Rattle.cov_view.specs.References.{is_root, same_node}
use Rattle.cov_view.specs.Seen.{row_at, kind_in, at_row, with_lines_by}

abbrev kind_at : List ViewRow → NodeRef → Option Kind
kind_at rows file = option_map (λ (r : ViewRow). r.kind) (row_at rows file)

same_head : (t : Bool) (f : List ViewLine → List ViewLine) (r : ViewRow) (found : Option ViewRow)
    → option_map (λ (s : ViewRow). s.kind) (cond t (Some (with_lines_by f r)) found) ≡ option_map (λ (s : ViewRow). s.kind) (cond t (Some r) found)
same_head true f r found = refl
same_head false f r found = refl

same_tail : (t : Bool) (r : ViewRow) (found other : Option ViewRow) → option_map (λ (s : ViewRow). s.kind) found ≡ option_map (λ (s : ViewRow). s.kind) other
    → option_map (λ (s : ViewRow). s.kind) (cond t (Some r) found) ≡ option_map (λ (s : ViewRow). s.kind) (cond t (Some r) other)
same_tail true r found other h = refl
same_tail false r found other h = h

one_changed : (b : Bool) (f : List ViewLine → List ViewLine) (r : ViewRow) (rows later : List ViewRow) (file : NodeRef) → kind_at later file ≡ kind_at rows file
    → kind_at (cond b (with_lines_by f r ∷ rows) (r ∷ later)) file ≡ kind_at (r ∷ rows) file
one_changed true f r rows later file h = same_head (same_node r.node file) f r (row_at rows file)
one_changed false f r rows later file h = same_tail (same_node r.node file) r (row_at later file) (row_at rows file) h

row_changed : (node file : NodeRef) (f : List ViewLine → List ViewLine) (rows : List ViewRow) → kind_at (at_row node (with_lines_by f) rows) file ≡ kind_at rows file
row_changed node file f [] = refl
row_changed node file f (r ∷ rows) = one_changed (same_node r.node node) f r rows (at_row node (with_lines_by f) rows) file (row_changed node file f rows)

-- other lines of a row change no kind
pub kind-still : (node file : NodeRef) (f : List ViewLine → List ViewLine) (rows : List ViewRow) → kind_in (at_row node (with_lines_by f) rows) file ≡ kind_in rows file
kind-still node file f rows = ap (λ k. cond (is_root file) (Some kinds.Dir) k) (row_changed node file f rows)

-- a row of a node that is in no row before it is that of the node
row-among : (rows more : List ViewRow) (r : ViewRow) (node : NodeRef) → kind_at rows node ≡ None → same_node r.node node ≡ true → kind_at (rows ++ r ∷ more) node ≡ Some r.kind
row-among [] more r node h same = ap (λ b. option_map (λ (s : ViewRow). s.kind) (cond b (Some r) (row_at more node))) same
row-among (s ∷ rows) more r node h same = at (same_node s.node node) (λ k. row-among rows more r node k same) h
  where
    at : (b : Bool) → (kind_at rows node ≡ None → kind_at (rows ++ r ∷ more) node ≡ Some r.kind) → option_map (λ (s : ViewRow). s.kind) (cond b (Some s) (row_at rows node)) ≡ None
        → option_map (λ (s : ViewRow). s.kind) (cond b (Some s) (row_at (rows ++ r ∷ more) node)) ≡ Some r.kind
    at true ih h = absurd (cc)
    at false ih h = ih h

-- a node that isn't in the rows before its row has the kind of that row
pub kind-among : (rows more : List ViewRow) (r : Row) → kind_in rows (nodes.Old r.node) ≡ None → kind_in (rows ++ bare_row r ∷ more) (nodes.Old r.node) ≡ Some r.kind
kind-among rows more r h = at (is_root (nodes.Old r.node)) h
  where
    at : (b : Bool) → cond b (Some kinds.Dir) (kind_at rows (nodes.Old r.node)) ≡ None → cond b (Some kinds.Dir) (kind_at (rows ++ bare_row r ∷ more) (nodes.Old r.node)) ≡ Some r.kind
    at true k = absurd (cc)
    at false k = row-among rows more (bare_row r) (nodes.Old r.node) k (node-itself (nodes.Old r.node))
