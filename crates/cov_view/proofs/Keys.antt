-- Rows by their keys.
use Rattle.std.proofs.Common.{◌≡◌, ℕ, zero, suc, ◌+◌, ◌<◌, ◌≤◌, Bool, true, false, cond, ◌||◌, not, nat_lt, List, [], ◌∷◌, ◌++◌, length, map, slice_get, get_or, Some, None, position, refl, sym, ap, ◌∙◌, arith}
use Rattle.std.specs.List.{find, list_any, position_or_len, remove}
use Rattle.std.proofs.lemmas.Bool.Decides.{nat_tests}
use Rattle.std.proofs.lemmas.List.{length-map}
use Rattle.std.proofs.lemmas.List.Folds.{find_at}
use Rattle.std.proofs.lemmas.Option.{slice_get-get_or, slice_get_within, get_or_from_slice_get}
use Rattle.indexmap.specs.IndexSet.{insert_key}
use Rattle.cov_base.specs.declared.number.NodeRef.{NodeRef}
use Rattle.cov_base.specs.declared.number.NodeRef.TheVariants as nodes
use Rattle.cov_view.specs.References.{same_node}
use Rattle.cov_view.specs.Seen.{has_row, at_row, without_node, StandOnce}
use Rattle.cov_view.specs.declared.row.ViewRow.{ViewRow}
use Rattle.cov_view.proofs.Naming.{node-same}
use Rattle.cov_view.proofs.Standing.{first-at, none-without}
use Rattle.cov_base.specs.contracts.number.NodeRefPartialEq.TheImpl.{eq-value}

-- the keys of rows
abbrev pub keys_of : List ViewRow → List NodeRef
keys_of rows = map (λ row. row.node) rows

module _ (e : NodeRef → NodeRef → Bool) (agrees : (a b : NodeRef) → e a b ≡ same_node b a) (node : NodeRef) where
  place_or_len : (rows : List ViewRow) → position_or_len (e node) (keys_of rows) ≡ position_or_len (λ r. same_node r.node node) rows
  place_or_len [] = refl
  place_or_len (r ∷ rows) =
      ap (λ b. cond (not b) (1 + position_or_len (e node) (keys_of rows)) 0) (agrees node r.node)
      ∙ ap (λ n. cond (not (same_node r.node node)) (1 + n) 0) (place_or_len rows)

  -- a key stands where its node's row does
  pub keyed : (rows : List ViewRow) → position (e node) (keys_of rows) ≡ position (λ r. same_node r.node node) rows
  keyed rows i = cond (nat_lt (place_or_len rows i) (length-map rows (λ row. row.node) i)) (Some (place_or_len rows i)) None

  pub any-key : (rows : List ViewRow) → list_any (e node) (keys_of rows) ≡ has_row rows node
  any-key [] = refl
  any-key (r ∷ rows) = ap (λ b. b || list_any (e node) (keys_of rows)) (agrees node r.node) ∙ ap (λ b. same_node r.node node || b) (any-key rows)

  -- a new key goes last
  pub key_added : (rows : List ViewRow) → has_row rows node ≡ false → insert_key e (keys_of rows) node ≡ keys_of rows ++ node ∷ []
  key_added rows fresh = ap (λ b. cond b (keys_of rows) (keys_of rows ++ node ∷ [])) (any-key rows ∙ fresh)

-- what changes one row and keeps its node leaves the keys as they are
pub keys-changed : (node : NodeRef) (f : ViewRow → ViewRow) → ((r : ViewRow) → (f r).node ≡ r.node) → (rows : List ViewRow) → keys_of (at_row node f rows) ≡ keys_of rows
keys-changed node f same [] = refl
keys-changed node f same (r ∷ rows) = at (same_node r.node node) (keys-changed node f same rows)
  where
    at : (b : Bool) → keys_of (at_row node f rows) ≡ keys_of rows → keys_of (cond b (f r ∷ rows) (r ∷ at_row node f rows)) ≡ r.node ∷ keys_of rows
    at true rest = ap (λ n. n ∷ keys_of rows) (same r)
    at false rest = ap (λ ks. r.node ∷ ks) rest

module _ {X : Type 0} (p : X → Bool) where
  no_row : (rows : List X) → length rows ≤ position_or_len p rows → find p rows ≡ None
  no_row [] h = refl
  no_row (r ∷ rows) h = at (p r) h (λ k. no_row rows k)
    where
      at : (b : Bool) → suc (length rows) ≤ cond (not b) (1 + position_or_len p rows) 0 → (length rows ≤ position_or_len p rows → find p rows ≡ None)
          → cond b (Some r) (find p rows) ≡ None
      at true k rest = absurd (omega (arith, k))
      at false k rest = rest (omega (arith, k))

  -- the row at the place of the first that passes
  pub placed_row : (rows : List X) (i : ℕ) → position p rows ≡ Some i → slice_get rows i ≡ find p rows
  placed_row rows i h = at (nat_lt (position_or_len p rows) (length rows)) h
    where
      at : (b : Bool) → cond b (Some (position_or_len p rows)) None ≡ Some i → slice_get rows i ≡ find p rows
      at true k = let same : position_or_len p rows ≡ i = cc in ap (slice_get rows) (sym same) ∙ sym (find_at p rows)
      at false k = absurd (cc)

  pub placed_within : (rows : List X) (i : ℕ) → position p rows ≡ Some i → i < length rows
  placed_within rows i h = at (nat_lt (position_or_len p rows) (length rows)) refl h
    where
      at : (b : Bool) → nat_lt (position_or_len p rows) (length rows) ≡ b → cond b (Some (position_or_len p rows)) None ≡ Some i → i < length rows
      at true e k = let same : position_or_len p rows ≡ i = cc in grind (arith, nat_tests, e, same)
      at false e k = absurd (cc)

  -- the row that is read at the place of the first that passes
  pub read_row : (rows : List X) (i : ℕ) (d : X) → position p rows ≡ Some i → find p rows ≡ Some (get_or rows i d)
  read_row rows i d h = sym (placed_row rows i h) ∙ slice_get-get_or rows i d (placed_within rows i h)

  pub no_place : (rows : List X) → position p rows ≡ None → find p rows ≡ None
  no_place rows h = at (nat_lt (position_or_len p rows) (length rows)) refl h
    where
      at : (b : Bool) → nat_lt (position_or_len p rows) (length rows) ≡ b → cond b (Some (position_or_len p rows)) None ≡ None → find p rows ≡ None
      at true e k = absurd (cc)
      at false e k = no_row rows (grind (arith, nat_tests, e))

-- whether two keys are the same, as they are compared
abbrev pub same_key : NodeRef → NodeRef → Bool
same_key = eq-value.it

pub agrees : (a b : NodeRef) → same_key a b ≡ same_node b a
agrees (nodes.Old x) (nodes.Old y) = grind (arith, nat_tests)
agrees (nodes.Old x) (nodes.New j) = refl
agrees (nodes.New i) (nodes.Old y) = refl
agrees (nodes.New i) (nodes.New j) = grind (arith, nat_tests)

pub keys-remove : (rows : List ViewRow) (i : ℕ) → keys_of (remove rows i) ≡ remove (keys_of rows) i
keys-remove [] zero = refl
keys-remove [] (suc i) = refl
keys-remove (r ∷ rows) zero = refl
keys-remove (r ∷ rows) (suc i) = ap (λ ks. r.node ∷ ks) (keys-remove rows i)

removed_first : (node : NodeRef) (rows : List ViewRow) → StandOnce rows → position_or_len (λ r. same_node r.node node) rows < length rows
    → remove rows (position_or_len (λ r. same_node r.node node) rows) ≡ without_node node rows
removed_first node [] once h = absurd (omega (arith, h))
removed_first node (r ∷ rows) once h = at (same_node r.node node) refl h (λ k. removed_first node rows once.1 k)
  where
    at : (b : Bool) → same_node r.node node ≡ b → cond (not b) (1 + position_or_len (λ q. same_node q.node node) rows) 0 < suc (length rows)
        → (position_or_len (λ q. same_node q.node node) rows < length rows → remove rows (position_or_len (λ q. same_node q.node node) rows) ≡ without_node node rows)
        → remove (r ∷ rows) (cond (not b) (1 + position_or_len (λ q. same_node q.node node) rows) 0) ≡ cond (not b) (r ∷ without_node node rows) (without_node node rows)
    at true e k rest = sym (none-without node rows (ap (has_row rows) (sym (node-same r.node node e)) ∙ once.0))
    at false e k rest =
        let one : 1 + position_or_len (λ q. same_node q.node node) rows ≡ suc (position_or_len (λ q. same_node q.node node) rows) = omega arith in
        ap (remove (r ∷ rows)) one ∙ ap (λ l. r ∷ l) (rest (omega (arith, k)))

-- the row that is taken out at its place is the only one of its node
pub removed_row : (node : NodeRef) (rows : List ViewRow) (i : ℕ) → StandOnce rows → position (λ r. same_node r.node node) rows ≡ Some i → remove rows i ≡ without_node node rows
removed_row node rows i once h = at (nat_lt (position_or_len (λ r. same_node r.node node) rows) (length rows)) refl h
  where
    at : (b : Bool) → nat_lt (position_or_len (λ r. same_node r.node node) rows) (length rows) ≡ b → cond b (Some (position_or_len (λ r. same_node r.node node) rows)) None ≡ Some i → remove rows i ≡ without_node node rows
    at true e k =
        let same : position_or_len (λ r. same_node r.node node) rows ≡ i = cc in
        ap (remove rows) (sym same) ∙ removed_first node rows once (grind (arith, nat_tests, e))
    at false e k = absurd (cc)

-- the row at an index stands at the place of its node
pub first_place : (node : NodeRef) (rows : List ViewRow) (i : ℕ) (r : ViewRow) → StandOnce rows → slice_get rows i ≡ Some r → same_node r.node node ≡ true → position (λ q. same_node q.node node) rows ≡ Some i
first_place node rows i r once at is =
    let below = slice_get_within rows i r at in
    let test : nat_lt i (length rows) ≡ true = grind (arith, nat_tests, below) in
    let first = first-at node rows i r below once (ap (λ (q : ViewRow). same_node q.node node) (get_or_from_slice_get rows i r r at) ∙ is) in
    (λ j. cond (nat_lt (first j) (length rows)) (Some (first j)) None) ∙ ap (λ b. cond b (Some i) None) test
