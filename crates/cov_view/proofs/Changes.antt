-- Rows that change.
use Rattle.std.proofs.Common.{◌≡◌, ℕ, suc, ◌+◌, ◌<◌, ◌≤◌, Bool, true, false, cond, ◌||◌, not, nat_lt, List, [], ◌∷◌, ◌++◌, length, get_or, set, Some, None, Result, Ok, Err, OnOk, OnErr, option_map, position, refl, sym, ap, subst, ◌∙◌, arith}
use Rattle.std.specs.List.{position_or_len}
use Rattle.std.proofs.lemmas.Bool.Decides.{nat_tests}
use Rattle.std.proofs.lemmas.Bool.{or_parts, or_from}
use Rattle.cov_base.specs.declared.number.Kind.TheVariants as kinds
use Rattle.cov_base.specs.declared.number.NodeRef.{NodeRef}
use Rattle.cov_base.specs.declared.number.NodeRef.TheVariants as nodes
use Rattle.cov_view.specs.References.{is_root, same_node, is_new_below}
use Rattle.cov_view.specs.Seen.{row_at, has_row, kind_in, at_row, with_lines_by, AreRows}
use Rattle.cov_view.specs.declared.line.ViewLine.{ViewLine}
use Rattle.cov_view.specs.declared.row.ViewRow.{ViewRow}
use Rattle.cov_view.proofs.Standing.{same_node-sym, has_row-append, rows-changed}

set_first : (node : NodeRef) (f : ViewRow → ViewRow) (rows : List ViewRow) (d : ViewRow) → position_or_len (λ r. same_node r.node node) rows < length rows
    → set rows (position_or_len (λ r. same_node r.node node) rows) (f (get_or rows (position_or_len (λ r. same_node r.node node) rows) d)) ≡ at_row node f rows
set_first node f [] d h = absurd (omega (arith, h))
set_first node f (r ∷ rows) d h = at (same_node r.node node) h (λ k. set_first node f rows d k)
  where
    p : ℕ
    p = position_or_len (λ r. same_node r.node node) rows

    at : (b : Bool) → cond (not b) (1 + position_or_len (λ r. same_node r.node node) rows) 0 < suc (length rows)
        → (position_or_len (λ r. same_node r.node node) rows < length rows → set rows (position_or_len (λ r. same_node r.node node) rows) (f (get_or rows (position_or_len (λ r. same_node r.node node) rows) d)) ≡ at_row node f rows)
        → set (r ∷ rows) (cond (not b) (1 + position_or_len (λ r. same_node r.node node) rows) 0) (f (get_or (r ∷ rows) (cond (not b) (1 + position_or_len (λ r. same_node r.node node) rows) 0) d))
        ≡ cond b (f r ∷ rows) (r ∷ at_row node f rows)
    at true k rest = refl
    at false k rest =
        let one : 1 + position_or_len (λ r. same_node r.node node) rows ≡ suc (position_or_len (λ r. same_node r.node node) rows) = omega arith in
        ap (λ i. set (r ∷ rows) i (f (get_or (r ∷ rows) i d))) one ∙ ap (λ l. r ∷ l) (rest (omega (arith, k)))

same_first : (node : NodeRef) (f : ViewRow → ViewRow) (rows : List ViewRow) → length rows ≤ position_or_len (λ r. same_node r.node node) rows → at_row node f rows ≡ rows
same_first node f [] h = refl
same_first node f (r ∷ rows) h = at (same_node r.node node) h (λ k. same_first node f rows k)
  where
    at : (b : Bool) → suc (length rows) ≤ cond (not b) (1 + position_or_len (λ r. same_node r.node node) rows) 0
        → (length rows ≤ position_or_len (λ r. same_node r.node node) rows → at_row node f rows ≡ rows)
        → cond b (f r ∷ rows) (r ∷ at_row node f rows) ≡ r ∷ rows
    at true k rest = absurd (omega (arith, k))
    at false k rest = ap (λ l. r ∷ l) (rest (omega (arith, k)))

module _ (node : NodeRef) (f : ViewRow → ViewRow) (rows : List ViewRow) where
  some_case : (d : ViewRow) (i : ℕ) (b : Bool) → nat_lt (position_or_len (λ r. same_node r.node node) rows) (length rows) ≡ b
      → cond b (Some (position_or_len (λ r. same_node r.node node) rows)) None ≡ Some i → set rows i (f (get_or rows i d)) ≡ at_row node f rows
  some_case d i true e h =
      let same : position_or_len (λ r. same_node r.node node) rows ≡ i = cc in
      ap (λ j. set rows j (f (get_or rows j d))) (sym same) ∙ set_first node f rows d (grind (arith, nat_tests, e))
  some_case d i false e h = absurd (cc)

  none_case : (b : Bool) → nat_lt (position_or_len (λ r. same_node r.node node) rows) (length rows) ≡ b
      → cond b (Some (position_or_len (λ r. same_node r.node node) rows)) None ≡ None → at_row node f rows ≡ rows
  none_case true e h = absurd (cc)
  none_case false e h = same_first node f rows (grind (arith, nat_tests, e))

  -- the row that is found is the one that changes
  pub set_found : (d : ViewRow) (i : ℕ) → position (λ r. same_node r.node node) rows ≡ Some i → set rows i (f (get_or rows i d)) ≡ at_row node f rows
  set_found d i h = some_case d i (nat_lt (position_or_len (λ r. same_node r.node node) rows) (length rows)) refl h

  -- where none is found, nothing changes
  pub none_found : position (λ r. same_node r.node node) rows ≡ None → at_row node f rows ≡ rows
  none_found h = none_case (nat_lt (position_or_len (λ r. same_node r.node node) rows) (length rows)) refl h

-- the row that is found gets other lines
pub lines_set : (node : NodeRef) (f : List ViewLine → List ViewLine) (rows : List ViewRow) (d : ViewRow) (i : ℕ) (ls : List ViewLine) → position (λ r. same_node r.node node) rows ≡ Some i
    → ls ≡ f (get_or rows i d).lines → set rows i (with_lines_by (λ old. ls) (get_or rows i d)) ≡ at_row node (with_lines_by f) rows
lines_set node f rows d i ls found is = ap (λ new. set rows i (with_lines_by (λ old. new) (get_or rows i d))) is ∙ set_found node (with_lines_by f) rows d i found

-- a new node's row joins the rows
pub rows-append : (made : ℕ) (rows : List ViewRow) (r : ViewRow) → AreRows made rows → is_root r.node ≡ false → is_new_below made r.node ≡ true → has_row rows r.node ≡ false
    → AreRows made (rows ++ r ∷ [])
rows-append made [] r h root below fresh = (root, below, refl, tt)
rows-append made (q ∷ rows) r h root below fresh = (
  h.0,
  h.1,
  has_row-append q.node rows r h.2 (same_node-sym r.node q.node ∙ (or_parts (same_node q.node r.node) (has_row rows r.node) fresh).0),
  rows-append made rows r h.3 root below (or_parts (same_node q.node r.node) (has_row rows r.node) fresh).1,
)

below_more : (made : ℕ) (node : NodeRef) → is_new_below made node ≡ true → is_new_below (made + 1) node ≡ true
below_more made (nodes.Old x) h = refl
below_more made (nodes.New i) h = grind (arith, nat_tests, h)

pub rows-more : (made : ℕ) (rows : List ViewRow) → AreRows made rows → AreRows (made + 1) rows
rows-more made [] h = tt
rows-more made (r ∷ rows) h = (h.0, below_more made r.node h.1, h.2, rows-more made rows h.3)

not_next : (made : ℕ) (node : NodeRef) → is_new_below made node ≡ true → same_node node (nodes.New made) ≡ false
not_next made (nodes.Old x) h = refl
not_next made (nodes.New i) h = grind (arith, nat_tests, h)

-- the next node made isn't there yet
pub next_fresh : (made : ℕ) (rows : List ViewRow) → AreRows made rows → has_row rows (nodes.New made) ≡ false
next_fresh made [] h = refl
next_fresh made (r ∷ rows) h = or_from (same_node r.node (nodes.New made)) (has_row rows (nodes.New made)) (not_next made r.node h.1) (next_fresh made rows h.3)

row_none : (rows : List ViewRow) (node : NodeRef) → option_map (λ (r : ViewRow). r.kind) (row_at rows node) ≡ None → has_row rows node ≡ false
row_none [] node h = refl
row_none (r ∷ rows) node h = at (same_node r.node node) h (λ k. row_none rows node k)
  where
    at : (b : Bool) → option_map (λ (r : ViewRow). r.kind) (cond b (Some r) (row_at rows node)) ≡ None → (option_map (λ (r : ViewRow). r.kind) (row_at rows node) ≡ None → has_row rows node ≡ false)
        → (b || has_row rows node) ≡ false
    at true k rest = absurd (cc)
    at false k rest = rest k

-- a node that isn't there is neither the root nor in a row
pub not_there : (rows : List ViewRow) (node : NodeRef) → kind_in rows node ≡ None → (is_root node ≡ false) × (has_row rows node ≡ false)
not_there rows node h = at (is_root node) h
  where
    at : (b : Bool) → cond b (Some kinds.Dir) (option_map (λ (r : ViewRow). r.kind) (row_at rows node)) ≡ None → (b ≡ false) × (has_row rows node ≡ false)
    at true k = absurd (cc)
    at false k = (refl, row_none rows node k)

-- the rows stay rows whether or not one was changed, which keeps its node
pub rows-kept : {A F : Type 0} (r : Result A F) (made : ℕ) (node : NodeRef) (f : ViewRow → ViewRow) → ((q : ViewRow) → (f q).node ≡ q.node) → (old new : List ViewRow)
    → OnOk r (new ≡ at_row node f old) → OnErr r (new ≡ old) → AreRows made old → AreRows made new
rows-kept (Ok x) made node f same old new ok err h = subst (AreRows made) (sym ok) (rows-changed node f same made old h)
rows-kept (Err e) made node f same old new ok err h = subst (AreRows made) (sym err) h

-- the rows stay rows whether or not a node's row was added
pub rows-added : {A F : Type 0} (q : Result A F) (made : ℕ) (old new : List ViewRow) (r : ViewRow) → OnOk q (new ≡ old ++ r ∷ []) → OnErr q (new ≡ old) → AreRows made old
    → is_root r.node ≡ false → is_new_below made r.node ≡ true → has_row old r.node ≡ false → AreRows made new
rows-added (Ok x) made old new r ok err h root below fresh = subst (AreRows made) (sym ok) (rows-append made old r h root below fresh)
rows-added (Err e) made old new r ok err h root below fresh = subst (AreRows made) (sym err) h
