-- What rows are found by, as it is kept.
use Rattle.std.proofs.Common.{◌≡◌, ℕ, Bool, true, false, cond, ◌||◌, List, [], ◌∷◌, map, Option, Some, None, Result, Ok, Err, OnOk, OnErr, refl, ap, sym, subst, ◌∙◌}
use Rattle.std.specs.List.{AllByRecursion}
use Rattle.cov_base.specs.Rows.{Row}
use Rattle.cov_base.specs.declared.number.NodeRef.{NodeRef}
use Rattle.cov_view.specs.Finding.{FindsBy, Finds}
use Rattle.cov_view.specs.Keys.{is_child, indexed, is_row_of, ChildNodes, IsIndex, IsIndexOf}
use Rattle.cov_view.specs.References.{same_node}
use Rattle.cov_view.specs.Seen.{has_row, at_row, with_lines_by, StandOnce}
use Rattle.cov_view.specs.Shown.{bare, bare_row, bare_rows}
use Rattle.cov_view.specs.declared.line.ViewLine.{ViewLine}
use Rattle.cov_view.specs.declared.node_index.NodeIndex.{NodeIndex}
use Rattle.cov_view.specs.declared.row.ViewRow.{ViewRow}
use Rattle.cov_view.specs.declared.row_index.FoundBy.{FoundBy}
use Rattle.cov_view.specs.declared.row_index.FoundBy.TheVariants as by
use Rattle.cov_view.specs.declared.row_index.RowIndex.{RowIndex}
use Rattle.cov_view.proofs.Directories.{index-same}
use Rattle.cov_view.proofs.Keys.{keys_of, keys-changed}
use Rattle.cov_view.proofs.Standing.{once-changed}

keys-bare : (rows : List ViewRow) → keys_of (map bare rows) ≡ keys_of rows
keys-bare [] = refl
keys-bare (r ∷ rows) = ap (λ ks. r.node ∷ ks) (keys-bare rows)

has-bare : (node : NodeRef) (rows : List ViewRow) → has_row (map bare rows) node ≡ has_row rows node
has-bare node [] = refl
has-bare node (r ∷ rows) = ap (λ b. same_node r.node node || b) (has-bare node rows)

children-bare : (dir : NodeRef) (name : List ℕ) (o : Option NodeRef) (rows : List ViewRow) → AllByRecursion (λ r. is_child dir name r ≡ is_row_of o r) (map bare rows)
    → AllByRecursion (λ r. is_child dir name r ≡ is_row_of o r) rows
children-bare dir name o [] h = tt
children-bare dir name o (r ∷ rows) h = (h.0 ∙ one o, children-bare dir name o rows h.1)
  where
    one : (o : Option NodeRef) → is_row_of o (bare r) ≡ is_row_of o r
    one None = refl
    one (Some m) = refl

index-bare : (kept : Bool) (rows : List ViewRow) (nodes : ChildNodes) → IsIndex kept (map bare rows) nodes → IsIndex kept rows nodes
index-bare true rows nodes h = λ dir name. (
  children-bare dir name (indexed nodes dir name) rows (h dir name).0,
  λ m k. sym (has-bare m rows) ∙ (h dir name).1 m k,
)
index-bare false rows nodes h = tt

-- an index of rows without their lines is one of the rows
pub of-bare : (index : NodeIndex) (rows : List ViewRow) → IsIndexOf index (map bare rows) → IsIndexOf index rows
of-bare index rows h = (h.0 ∙ keys-bare rows, index-bare index.children.is_kept rows index.children.nodes.entries h.1)

-- lines are none of what is left without lines
bare-lines : (node : NodeRef) (f : List ViewLine → List ViewLine) (rows : List ViewRow) → map bare (at_row node (with_lines_by f) rows) ≡ map bare rows
bare-lines node f [] = refl
bare-lines node f (r ∷ rows) = at (same_node r.node node) (bare-lines node f rows)
  where
    at : (b : Bool) → map bare (at_row node (with_lines_by f) rows) ≡ map bare rows
        → map bare (cond b (with_lines_by f r ∷ rows) (r ∷ at_row node (with_lines_by f) rows)) ≡ bare r ∷ map bare rows
    at true rest = refl
    at false rest = ap (λ rs. bare r ∷ rs) rest

finds-lines : (found : FoundBy) (node : NodeRef) (f : List ViewLine → List ViewLine) (rows : List ViewRow) → FindsBy found rows → FindsBy found (at_row node (with_lines_by f) rows)
finds-lines (by.Own index) node f rows h = (
  h.0 ∙ sym (keys-changed node (with_lines_by f) (λ r. refl) rows),
  index-same index.children.is_kept rows index.children.nodes.entries node (with_lines_by f) (λ r. refl) (λ dir name r. refl) h.1,
)
finds-lines (by.Shared tree) node f rows h = bare-lines node f rows ∙ h
finds-lines by.GivenUp node f rows h = tt

-- rows each stand once, and are found so
abbrev pub AreHeld : RowIndex → List ViewRow → Type 0
AreHeld index rows = StandOnce rows × Finds index rows

-- whatever the lines of one row
pub held-lines : (index : RowIndex) (node : NodeRef) (f : List ViewLine → List ViewLine) (rows : List ViewRow) → AreHeld index rows → AreHeld index (at_row node (with_lines_by f) rows)
held-lines index node f rows h = (once-changed node (with_lines_by f) (λ r. refl) rows h.0, finds-lines index.found_by node f rows h.1)

-- whether or not the lines changed
pub held-kept : {A F : Type 0} (q : Result A F) (index : RowIndex) (node : NodeRef) (f : List ViewLine → List ViewLine) (old new : List ViewRow)
    → OnOk q (new ≡ at_row node (with_lines_by f) old) → OnErr q (new ≡ old) → AreHeld index old → AreHeld index new
held-kept (Ok x) index node f old new ok err h = subst (AreHeld index) (sym ok) (held-lines index node f old h)
held-kept (Err e) index node f old new ok err h = subst (AreHeld index) (sym err) h

-- rows of a tree have no lines
pub bare-again : (rows : List Row) → map bare (bare_rows rows) ≡ bare_rows rows
bare-again [] = refl
bare-again (r ∷ rows) = ap (λ rs. bare_row r ∷ rs) (bare-again rows)
