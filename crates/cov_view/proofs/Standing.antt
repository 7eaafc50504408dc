-- Rows of nodes that each stand once.
use Rattle.std.proofs.Common.{◌≡◌, ℕ, zero, suc, ◌+◌, ◌<◌, Bool, true, false, cond, ◌||◌, not, List, [], ◌∷◌, ◌++◌, length, take, get_or, Some, None, option_map, true≢false, refl, sym, ap, ◌∙◌, arith}
use Rattle.std.specs.List.{AllByRecursion, position_or_len}
use Rattle.std.proofs.lemmas.Bool.{or_from, or_parts}
use Rattle.std.proofs.lemmas.Bool.Decides.{nat_tests}
use Rattle.cov_base.specs.declared.number.NodeRef.{NodeRef}
use Rattle.cov_base.specs.declared.number.NodeRef.TheVariants as nodes
use Rattle.cov_view.specs.References.{is_root, same_node, is_new_below}
use Rattle.cov_view.specs.Seen.{row_at, has_row, at_row, without_node, StandOnce, AreRows}
use Rattle.cov_view.specs.declared.row.ViewRow.{ViewRow}
use Rattle.cov_view.proofs.Naming.{node-same}

pub node-itself : (a : NodeRef) → same_node a a ≡ true
node-itself (nodes.Old x) = grind (arith, nat_tests)
node-itself (nodes.New i) = grind (arith, nat_tests)

pub same_node-sym : (a b : NodeRef) → same_node a b ≡ same_node b a
same_node-sym (nodes.Old x) (nodes.Old y) = grind (arith, nat_tests)
same_node-sym (nodes.Old x) (nodes.New j) = refl
same_node-sym (nodes.New i) (nodes.Old y) = refl
same_node-sym (nodes.New i) (nodes.New j) = grind (arith, nat_tests)

pub stand-once : (made : ℕ) (rows : List ViewRow) → AreRows made rows → StandOnce rows
stand-once made [] h = tt
stand-once made (r ∷ rows) h = (h.2, stand-once made rows h.3)

pub has_row-append : (n : NodeRef) (rows : List ViewRow) (r : ViewRow) → has_row rows n ≡ false → same_node r.node n ≡ false → has_row (rows ++ r ∷ []) n ≡ false
has_row-append n [] r h e = or_from (same_node r.node n) false e refl
has_row-append n (q ∷ rows) r h e =
    or_from (same_node q.node n) (has_row (rows ++ r ∷ []) n) (or_parts (same_node q.node n) (has_row rows n) h).0 (has_row-append n rows r (or_parts (same_node q.node n) (has_row rows n) h).1 e)

pub once-append : (rows : List ViewRow) (r : ViewRow) → StandOnce rows → has_row rows r.node ≡ false → StandOnce (rows ++ r ∷ [])
once-append [] r h fresh = (refl, tt)
once-append (q ∷ rows) r h fresh = (
  has_row-append q.node rows r h.0 (same_node-sym r.node q.node ∙ (or_parts (same_node q.node r.node) (has_row rows r.node) fresh).0),
  once-append rows r h.1 (or_parts (same_node q.node r.node) (has_row rows r.node) fresh).1,
)

-- what changes one row and keeps its node
module _ (node : NodeRef) (f : ViewRow → ViewRow) (same : (r : ViewRow) → (f r).node ≡ r.node) where
  pub has_row-changed : (n : NodeRef) (rows : List ViewRow) → has_row (at_row node f rows) n ≡ has_row rows n
  has_row-changed n [] = refl
  has_row-changed n (r ∷ rows) = at (same_node r.node node) (has_row-changed n rows)
    where
      at : (b : Bool) → has_row (at_row node f rows) n ≡ has_row rows n → has_row (cond b (f r ∷ rows) (r ∷ at_row node f rows)) n ≡ (same_node r.node n || has_row rows n)
      at true rest = ap (λ m. same_node m n || has_row rows n) (same r)
      at false rest = ap (λ b. same_node r.node n || b) rest

  pub once-changed : (rows : List ViewRow) → StandOnce rows → StandOnce (at_row node f rows)
  once-changed [] h = tt
  once-changed (r ∷ rows) h = at (same_node r.node node) (once-changed rows h.1)
    where
      at : (b : Bool) → StandOnce (at_row node f rows) → StandOnce (cond b (f r ∷ rows) (r ∷ at_row node f rows))
      at true rest = (ap (has_row rows) (same r) ∙ h.0, h.1)
      at false rest = (has_row-changed r.node rows ∙ h.0, rest)

  pub rows-changed : (made : ℕ) (rows : List ViewRow) → AreRows made rows → AreRows made (at_row node f rows)
  rows-changed made [] h = tt
  rows-changed made (r ∷ rows) h = at (same_node r.node node) (rows-changed made rows h.3)
    where
      at : (b : Bool) → AreRows made (at_row node f rows) → AreRows made (cond b (f r ∷ rows) (r ∷ at_row node f rows))
      at true rest = (ap is_root (same r) ∙ h.0, ap (is_new_below made) (same r) ∙ h.1, ap (has_row rows) (same r) ∙ h.2, h.3)
      at false rest = (h.0, h.1, has_row-changed r.node rows ∙ h.2, rest)

module _ (node : NodeRef) where
  -- another node has its row also without this one
  pub has_row-without : (n : NodeRef) (rows : List ViewRow) → same_node n node ≡ false → has_row (without_node node rows) n ≡ has_row rows n
  has_row-without n [] apart = refl
  has_row-without n (r ∷ rows) apart = at (same_node r.node node) refl (has_row-without n rows apart)
    where
      at : (b : Bool) → same_node r.node node ≡ b → has_row (without_node node rows) n ≡ has_row rows n
          → has_row (cond (not b) (r ∷ without_node node rows) (without_node node rows)) n ≡ (same_node r.node n || has_row rows n)
      at true e rest =
          rest ∙ sym (ap (λ b. b || has_row rows n) (ap (λ m. same_node m n) (node-same r.node node e) ∙ same_node-sym node n ∙ apart))
      at false e rest = ap (λ b. same_node r.node n || b) rest

  has_row-fewer : (n : NodeRef) (rows : List ViewRow) → has_row rows n ≡ false → has_row (without_node node rows) n ≡ false
  has_row-fewer n [] h = refl
  has_row-fewer n (r ∷ rows) h = at (same_node r.node node) (has_row-fewer n rows (or_parts (same_node r.node n) (has_row rows n) h).1)
    where
      at : (b : Bool) → has_row (without_node node rows) n ≡ false → has_row (cond (not b) (r ∷ without_node node rows) (without_node node rows)) n ≡ false
      at true rest = rest
      at false rest = or_from (same_node r.node n) (has_row (without_node node rows) n) (or_parts (same_node r.node n) (has_row rows n) h).0 rest

  pub once-without : (rows : List ViewRow) → StandOnce rows → StandOnce (without_node node rows)
  once-without [] h = tt
  once-without (r ∷ rows) h = at (same_node r.node node) (once-without rows h.1)
    where
      at : (b : Bool) → StandOnce (without_node node rows) → StandOnce (cond (not b) (r ∷ without_node node rows) (without_node node rows))
      at true rest = rest
      at false rest = (has_row-fewer r.node rows h.0, rest)

  pub rows-without : (made : ℕ) (rows : List ViewRow) → AreRows made rows → AreRows made (without_node node rows)
  rows-without made [] h = tt
  rows-without made (r ∷ rows) h = at (same_node r.node node) (rows-without made rows h.3)
    where
      at : (b : Bool) → AreRows made (without_node node rows) → AreRows made (cond (not b) (r ∷ without_node node rows) (without_node node rows))
      at true rest = rest
      at false rest = (h.0, h.1, has_row-fewer r.node rows h.2, rest)

  -- rows that don't have the node stay as they are
  pub none-without : (rows : List ViewRow) → has_row rows node ≡ false → without_node node rows ≡ rows
  none-without [] h = refl
  none-without (r ∷ rows) h =
      let apart = or_parts (same_node r.node node) (has_row rows node) h in
      ap (λ b. cond (not b) (r ∷ without_node node rows) (without_node node rows)) apart.0 ∙ ap (λ l. r ∷ l) (none-without rows apart.1)

module _ (P Q : ViewRow → Type 0) (node : NodeRef) (f : ViewRow → ViewRow)
    (one : (r : ViewRow) → same_node r.node node ≡ true → P r → Q (f r)) (other : (r : ViewRow) → same_node r.node node ≡ false → P r → Q r) where
  all-others : (rows : List ViewRow) → has_row rows node ≡ false → AllByRecursion P rows → AllByRecursion Q rows
  all-others [] h all = tt
  all-others (r ∷ rows) h all =
      let apart = or_parts (same_node r.node node) (has_row rows node) h in
      (other r apart.0 all.0, all-others rows apart.1 all.1)

  -- what the changed row has and what all others have
  pub all-at_row : (rows : List ViewRow) → StandOnce rows → AllByRecursion P rows → AllByRecursion Q (at_row node f rows)
  all-at_row [] once all = tt
  all-at_row (r ∷ rows) once all = at (same_node r.node node) refl (all-at_row rows once.1 all.1)
    where
      at : (b : Bool) → same_node r.node node ≡ b → AllByRecursion Q (at_row node f rows) → AllByRecursion Q (cond b (f r ∷ rows) (r ∷ at_row node f rows))
      at true e rest = (one r e all.0, all-others rows (ap (has_row rows) (sym (node-same r.node node e)) ∙ once.0) all.1)
      at false e rest = (other r e all.0, rest)

none-found : (node : NodeRef) (A : ViewRow → Type 0) (rows : List ViewRow) → has_row rows node ≡ false → AllByRecursion (λ r. same_node r.node node ≡ true → A r) rows
none-found node A [] h = tt
none-found node A (r ∷ rows) h = at (same_node r.node node) refl h (λ k. none-found node A rows k)
  where
    at : (b : Bool) → same_node r.node node ≡ b → (b || has_row rows node) ≡ false → (has_row rows node ≡ false → AllByRecursion (λ q. same_node q.node node ≡ true → A q) rows)
        → AllByRecursion (λ q. same_node q.node node ≡ true → A q) (r ∷ rows)
    at true e k rest = absurd (cc)
    at false e k rest = ((λ t. absurd (cc)), rest k)

-- the one row of a node is the row that is found
pub only-found : (node : NodeRef) (A : ViewRow → Type 0) (rows : List ViewRow) → StandOnce rows → ((r : ViewRow) → row_at rows node ≡ Some r → A r)
    → AllByRecursion (λ r. same_node r.node node ≡ true → A r) rows
only-found node A [] once h = tt
only-found node A (r ∷ rows) once h = at (same_node r.node node) refl (λ k. only-found node A rows once.1 k)
  where
    at : (b : Bool) → same_node r.node node ≡ b → (((q : ViewRow) → row_at rows node ≡ Some q → A q) → AllByRecursion (λ q. same_node q.node node ≡ true → A q) rows)
        → AllByRecursion (λ q. same_node q.node node ≡ true → A q) (r ∷ rows)
    at true e rest = (
      (λ t. h r (ap (λ b. cond b (Some r) (row_at rows node)) e)),
      none-found node A rows (ap (has_row rows) (sym (node-same r.node node e)) ∙ once.0),
    )
    at false e rest = ((λ t. absurd (cc)), rest (λ q k. h q (ap (λ b. cond b (Some r) (row_at rows node)) e ∙ k)))

-- the row of a node that has one is the node's
pub row-there : (rows : List ViewRow) (node : NodeRef) → has_row rows node ≡ true → option_map (λ (r : ViewRow). r.node) (row_at rows node) ≡ Some node
row-there [] node h = absurd (cc)
row-there (r ∷ rows) node h = at (same_node r.node node) refl h (λ k. row-there rows node k)
  where
    at : (b : Bool) → same_node r.node node ≡ b → (b || has_row rows node) ≡ true → (has_row rows node ≡ true → option_map (λ (q : ViewRow). q.node) (row_at rows node) ≡ Some node)
        → option_map (λ (q : ViewRow). q.node) (cond b (Some r) (row_at rows node)) ≡ Some node
    at true e k rest = ap Some (node-same r.node node e)
    at false e k rest = rest k

-- a row that is found is among the rows
pub found-among : (rows : List ViewRow) (node : NodeRef) (r : ViewRow) → row_at rows node ≡ Some r → has_row rows node ≡ true
found-among [] node r h = absurd (cc)
found-among (q ∷ rows) node r h = at (same_node q.node node) h (λ k. found-among rows node r k)
  where
    at : (b : Bool) → cond b (Some q) (row_at rows node) ≡ Some r → (row_at rows node ≡ Some r → has_row rows node ≡ true) → (b || has_row rows node) ≡ true
    at true k rest = refl
    at false k rest = rest k

-- where no row is found, none is the node's
pub none-among : (rows : List ViewRow) (node : NodeRef) → row_at rows node ≡ None → has_row rows node ≡ false
none-among [] node h = refl
none-among (q ∷ rows) node h = at (same_node q.node node) h (λ k. none-among rows node k)
  where
    at : (b : Bool) → cond b (Some q) (row_at rows node) ≡ None → (row_at rows node ≡ None → has_row rows node ≡ false) → (b || has_row rows node) ≡ false
    at true k rest = absurd (cc)
    at false k rest = rest k

pub has_row-more : (rows : List ViewRow) (r : ViewRow) (n : NodeRef) → has_row rows n ≡ true → has_row (rows ++ r ∷ []) n ≡ true
has_row-more [] r n h = absurd (cc)
has_row-more (q ∷ rows) r n h = at (same_node q.node n) h (λ k. has_row-more rows r n k)
  where
    at : (b : Bool) → (b || has_row rows n) ≡ true → (has_row rows n ≡ true → has_row (rows ++ r ∷ []) n ≡ true) → (b || has_row (rows ++ r ∷ []) n) ≡ true
    at true k rest = refl
    at false k rest = rest k

pub has_row-last : (rows : List ViewRow) (r : ViewRow) → has_row (rows ++ r ∷ []) r.node ≡ true
has_row-last [] r = ap (λ b. b || false) (node-itself r.node)
has_row-last (q ∷ rows) r = at (same_node q.node r.node) (has_row-last rows r)
  where
    at : (b : Bool) → has_row (rows ++ r ∷ []) r.node ≡ true → (b || has_row (rows ++ r ∷ []) r.node) ≡ true
    at true rest = refl
    at false rest = rest

-- a node that has no row is that of none
pub all-fresh : (rows : List ViewRow) (n : NodeRef) → has_row rows n ≡ false → AllByRecursion (λ r. same_node r.node n ≡ false) rows
all-fresh [] n h = tt
all-fresh (r ∷ rows) n h = let parts = or_parts (same_node r.node n) (has_row rows n) h in (parts.0, all-fresh rows n parts.1)

none-at : (rows : List ViewRow) (i : ℕ) (d : ViewRow) (n : NodeRef) → i < length rows → has_row rows n ≡ false → same_node (get_or rows i d).node n ≡ false
none-at [] i d n below h = absurd (omega (arith, below))
none-at (r ∷ rows) zero d n below h = (or_parts (same_node r.node n) (has_row rows n) h).0
none-at (r ∷ rows) (suc i) d n below h = none-at rows i d n (omega (arith, below)) (or_parts (same_node r.node n) (has_row rows n) h).1

-- the row at an index is of no node before it
pub fresh-at : (rows : List ViewRow) (i : ℕ) (d : ViewRow) → i < length rows → StandOnce rows → has_row (take i rows) (get_or rows i d).node ≡ false
fresh-at [] i d below once = absurd (omega (arith, below))
fresh-at (r ∷ rows) zero d below once = refl
fresh-at (r ∷ rows) (suc i) d below once =
    let next : i < length rows = omega (arith, below) in
    let n = (get_or rows i d).node in
    or_from (same_node r.node n) (has_row (take i rows) n) (same_node-sym r.node n ∙ none-at rows i d r.node next once.0) (fresh-at rows i d next once.1)

-- the row at an index is the first of its node
pub first-at : (node : NodeRef) (rows : List ViewRow) (i : ℕ) (d : ViewRow) → i < length rows → StandOnce rows → same_node (get_or rows i d).node node ≡ true
    → position_or_len (λ r. same_node r.node node) rows ≡ i
first-at node [] i d below once h = absurd (omega (arith, below))
first-at node (r ∷ rows) zero d below once h = ap (λ b. cond (not b) (1 + position_or_len (λ q. same_node q.node node) rows) 0) h
first-at node (r ∷ rows) (suc i) d below once h =
    let next : i < length rows = omega (arith, below) in
    let one : 1 + i ≡ suc i = omega arith in
    ap (λ b. cond (not b) (1 + position_or_len (λ q. same_node q.node node) rows) 0) (apart next (same_node r.node node) refl)
    ∙ ap (λ n. 1 + n) (first-at node rows i d next once.1 h) ∙ one
  where
    apart : i < length rows → (b : Bool) → same_node r.node node ≡ b → b ≡ false
    apart next true e = absurd (true≢false (sym (ap (same_node (get_or rows i d).node) (node-same r.node node e) ∙ h) ∙ none-at rows i d r.node next once.0))
    apart next false e = refl
