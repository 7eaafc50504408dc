-- The nodes of a history in a view, and what is wrong with them, by their numbers.
use Rattle.std.proofs.Common.{◌≡◌, ℕ, zero, suc, ◌+◌, ◌<◌, Bool, true, false, cond, ◌&&◌, ◌||◌, not, nat_eq, nat_lt, List, [], ◌∷◌, ◌++◌, length, map, take, get_or, slice_index_or, Option, Some, None, is_some, option_map, true≢false, refl, sym, ap, ◌∙◌, arith}
use Rattle.std.specs.List.{find, list_any, AllByRecursion}
use Rattle.std.specs.Map.{lookup}
use Rattle.std.specs.Option.{option_map_or, option_or}
use Rattle.std.specs.Str.{bytes_eq}
use Rattle.std.proofs.lemmas.Bool.{and_parts, or_from, or_parts}
use Rattle.std.proofs.lemmas.Bool.Decides.{nat_tests}
use Rattle.std.proofs.Math.Seq.{take-suc}
use Rattle.std.proofs.lemmas.List.{length-map, map-append}
use Rattle.indexmap.specs.IndexMap.{insert_entry}
use Rattle.cov_base.proofs.CallerLemmas.{all-append, all-map, is_some-find, is_some-map, length-order, row_of-order}
use Rattle.cov_base.specs.declared.number.NodeRef.{NodeRef}
use Rattle.cov_base.specs.declared.number.NodeRef.TheVariants as nodes
use Rattle.cov_base.specs.Faults as base
use Rattle.cov_base.specs.Faults.{Clash, Orphan, Loop, from_parent, is_reached, is_same_place, with_row, in_node_order, first_clash}
use Rattle.cov_base.specs.Rows.{Row, row_of, is_present, has_node, AreDistinct}
use Rattle.cov_edit.specs.Numbering.{Numbers, node_number}
use Rattle.cov_view.specs.Keys.{Places}
use Rattle.cov_view.specs.Ordering.{nodes_of, old_at, share_place, clash_among, is_orphan, is_lost, fault_among, ArePlaces}
use Rattle.cov_view.specs.References.{same_node}
use Rattle.cov_view.specs.Seen.{has_row, is_there, lies_within, StandOnce}
use Rattle.cov_view.specs.Soundness.{is_old, is_old_row, AreOld, old_row, as_fault, fault_in}
use Rattle.cov_view.specs.Views.{row_by_number}
use Rattle.cov_view.specs.declared.fault.Fault.TheVariants as faults
use Rattle.cov_view.specs.declared.row.ViewRow.{ViewRow}
use Rattle.cov_view.proofs.Directories.{Key, is_asked, asked, asked_is, same_child}
use Rattle.cov_view.proofs.Keys.{same_key, agrees}
use Rattle.cov_view.proofs.Standing.{same_node-sym}

-- the numbers of rows are those of their nodes
pub numbers-are : (rows : List ViewRow) → map (λ (r : ViewRow). node_number 0 r.node) rows ≡ map (λ (r : Row). r.node) (map old_row rows)
numbers-are [] = refl
numbers-are (r ∷ rows) = ap (λ l. node_number 0 r.node ∷ l) (numbers-are rows)

-- a reference to a node of a history is that of its number
old-is : (node : NodeRef) → is_old node ≡ true → node ≡ nodes.Old (node_number 0 node)
old-is (nodes.Old x) h = refl
old-is (nodes.New i) h = absurd (cc)

old-same : (a : NodeRef) (x : ℕ) → is_old a ≡ true → same_node a (nodes.Old x) ≡ nat_eq (node_number 0 a) x
old-same (nodes.Old y) x h = refl
old-same (nodes.New i) x h = absurd (cc)

old-both : (a b : NodeRef) → is_old a ≡ true → is_old b ≡ true → same_node a b ≡ nat_eq (node_number 0 a) (node_number 0 b)
old-both (nodes.Old x) (nodes.Old y) h k = refl
old-both (nodes.Old x) (nodes.New j) h k = absurd (cc)
old-both (nodes.New i) b h k = absurd (cc)

-- in the order of nodes, what all rows have
all-with : (P : Row → Type 0) (r : Row) (rows : List Row) → P r → AllByRecursion P rows → AllByRecursion P (with_row r rows)
all-with P r [] p all = (p, tt)
all-with P r (s ∷ rows) p all = at (nat_lt r.node s.node) (all-with P r rows p all.1)
  where
    at : (b : Bool) → AllByRecursion P (with_row r rows) → AllByRecursion P (cond b (r ∷ s ∷ rows) (s ∷ with_row r rows))
    at true rest = (p, all)
    at false rest = (all.0, rest)

all-order : (P : Row → Type 0) (rows : List Row) → AllByRecursion P rows → AllByRecursion P (in_node_order rows)
all-order P [] all = tt
all-order P (r ∷ rows) all = all-with P r (in_node_order rows) all.0 (all-order P rows all.1)

fresh-numbers : (r : ViewRow) (rows : List ViewRow) → is_old r.node ≡ true → AreOld rows → has_row rows r.node ≡ false → AllByRecursion (λ (s : Row). nat_eq s.node (old_row r).node ≡ false) (map old_row rows)
fresh-numbers r [] old olds fresh = tt
fresh-numbers r (s ∷ rows) old olds fresh =
    let parts = or_parts (same_node s.node r.node) (has_row rows r.node) fresh in
    (sym (old-both s.node r.node (and_parts (is_old s.node) (is_old s.parent) olds.0).0 old) ∙ parts.0, fresh-numbers r rows old olds.1 parts.1)

none-numbered : (x : ℕ) (rows : List Row) → AllByRecursion (λ s. nat_eq s.node x ≡ false) rows → has_node x (map (λ (s : Row). s.node) rows) ≡ false
none-numbered x [] h = refl
none-numbered x (s ∷ rows) h = or_from (nat_eq s.node x) (has_node x (map (λ (t : Row). t.node) rows)) h.0 (none-numbered x rows h.1)

numbers-once : (rows : List ViewRow) → AreOld rows → StandOnce rows → AreDistinct (map (λ (s : Row). s.node) (map old_row rows))
numbers-once [] olds once = tt
numbers-once (r ∷ rows) olds once =
    let old = (and_parts (is_old r.node) (is_old r.parent) olds.0).0 in
    (none-numbered (old_row r).node (map old_row rows) (fresh-numbers r rows old olds.1 once.0), numbers-once rows olds.1 once.1)

row-found : (rows : List ViewRow) (x : ℕ) → AreOld rows → row_of (map old_row rows) x ≡ option_map old_row (old_at rows x)
row-found [] x olds = refl
row-found (r ∷ rows) x olds =
    ap (λ b. cond b (Some (old_row r)) (row_of (map old_row rows) x)) (sym (old-same r.node x (and_parts (is_old r.node) (is_old r.parent) olds.0).0))
    ∙ ap (cond (same_node r.node (nodes.Old x)) (Some (old_row r))) (row-found rows x olds.1)
    ∙ at (same_node r.node (nodes.Old x))
  where
    at : (b : Bool) → cond b (Some (old_row r)) (option_map old_row (old_at rows x)) ≡ option_map old_row (cond b (Some r) (old_at rows x))
    at true = refl
    at false = refl

-- the row of a number is that of the node
pub row-order : (rows : List ViewRow) (x : ℕ) → AreOld rows → StandOnce rows → row_of (in_node_order (map old_row rows)) x ≡ option_map old_row (old_at rows x)
row-order rows x olds once = row_of-order (map old_row rows) (numbers-once rows olds once) x ∙ row-found rows x olds

-- each row by number is that of a node
abbrev IsOf : List ViewRow → Row → Type 0
IsOf rows s = (q : ViewRow) × (old_at rows s.node ≡ Some q) × (old_row q ≡ s) × (is_old_row q ≡ true)

own-rows : (rows : List ViewRow) → AreOld rows → StandOnce rows → AllByRecursion (IsOf rows) (map old_row rows)
own-rows [] olds once = tt
own-rows (r ∷ rows) olds once =
    let old = (and_parts (is_old r.node) (is_old r.parent) olds.0).0 in
    let mine : same_node r.node (nodes.Old (node_number 0 r.node)) ≡ true = old-same r.node (node_number 0 r.node) old ∙ (let e : nat_eq (node_number 0 r.node) (node_number 0 r.node) ≡ true = grind (arith, nat_tests) in e) in (
      (r, ap (λ b. cond b (Some r) (old_at rows (node_number 0 r.node))) mine, refl, olds.0),
      later (map old_row rows) (own-rows rows olds.1 once.1) (fresh-numbers r rows old olds.1 once.0),
    )
  where
    later : (ss : List Row) → AllByRecursion (IsOf rows) ss → AllByRecursion (λ (s : Row). nat_eq s.node (old_row r).node ≡ false) ss → AllByRecursion (IsOf (r ∷ rows)) ss
    later [] h k = tt
    later (s ∷ ss) h k = (
      (
        h.0.0,
        ap (λ b. cond b (Some r) (old_at rows s.node))
            (old-same r.node s.node (and_parts (is_old r.node) (is_old r.parent) olds.0).0 ∙ (let no : nat_eq s.node (node_number 0 r.node) ≡ false = k.0 in let e : nat_eq (node_number 0 r.node) s.node ≡ false = grind (arith, nat_tests, no) in e))
            ∙ h.0.1,
        h.0.2,
        h.0.3,
      ),
      later ss h.1 k.1,
    )

-- a test of nodes finds the node of the row that a test of rows finds
found-node : (p : Row → Bool) (q : ℕ → Bool) (rows : List Row) → AllByRecursion (λ r. q r.node ≡ p r) rows → find q (map (λ (r : Row). r.node) rows) ≡ option_map (λ (r : Row). r.node) (find p rows)
found-node p q [] h = refl
found-node p q (r ∷ rows) h = ap (λ b. cond b (Some r.node) (find q (map (λ (s : Row). s.node) rows))) h.0 ∙ at (p r) (found-node p q rows h.1)
  where
    at : (b : Bool) → find q (map (λ (s : Row). s.node) rows) ≡ option_map (λ (s : Row). s.node) (find p rows)
        → cond b (Some r.node) (find q (map (λ (s : Row). s.node) rows)) ≡ option_map (λ (s : Row). s.node) (cond b (Some r) (find p rows))
    at true rest = refl
    at false rest = rest

module _ (rows : List ViewRow) (olds : AreOld rows) (once : StandOnce rows) where
  share-is : (r s : Row) → IsOf rows r → IsOf rows s → share_place rows r.node s.node ≡ is_same_place r s
  share-is r s x y =
      ap (λ o. option_map_or (λ (a : ViewRow). option_map_or (λ (b : ViewRow). same_node a.parent b.parent && bytes_eq a.name b.name) (old_at rows s.node) false) o false) x.1
      ∙ ap (λ o. option_map_or (λ (b : ViewRow). same_node x.0.parent b.parent && bytes_eq x.0.name b.name) o false) y.1
      ∙ ap (λ b. b && bytes_eq x.0.name y.0.name) (old-both x.0.parent y.0.parent (and_parts (is_old x.0.node) (is_old x.0.parent) x.3).1 (and_parts (is_old y.0.node) (is_old y.0.parent) y.3).1)
      ∙ (λ i. is_same_place (x.2 i) (y.2 i))

  clash-is : (os : List Row) → AllByRecursion (IsOf rows) os → clash_among rows (map (λ (r : Row). r.node) os) ≡ option_map as_fault (first_clash os)
  clash-is [] h = refl
  clash-is (r ∷ os) h =
      (λ i. option_or (option_map (λ y. faults.Clash r.node y) (found-node (is_same_place r) (share_place rows r.node) os (all-map (IsOf rows) (λ s. share_place rows r.node s.node ≡ is_same_place r s) (λ s k. share-is r s h.0 k) os h.1) i)) (clash-is os h.1 i))
      ∙ at (find (is_same_place r) os)
    where
      at : (o : Option Row) → option_or (option_map (λ y. faults.Clash r.node y) (option_map (λ (s : Row). s.node) o)) (option_map as_fault (first_clash os))
          ≡ option_map as_fault (option_or (option_map (λ (s : Row). Clash r.node s.node) o) (first_clash os))
      at None = refl
      at (Some s) = refl

  below-root : (x : ℕ) → nat_eq (suc x) 0 ≡ false
  below-root x = grind (arith, nat_tests)

  -- a node is there by its number where it is there by reference
  there-is : (node : NodeRef) → is_old node ≡ true → is_there rows node ≡ is_present (in_node_order (map old_row rows)) (node_number 0 node)
  there-is (nodes.Old zero) old = refl
  there-is (nodes.Old (suc x)) old =
      is_some-map (λ (r : ViewRow). r.kind) (old_at rows (suc x))
      ∙ sym (is_some-map old_row (old_at rows (suc x)))
      ∙ ap is_some (sym (row-order rows (suc x) olds once))
      ∙ is_some-find (λ (r : Row). nat_eq r.node (suc x)) (in_node_order (map old_row rows))
      ∙ sym (ap (λ b. b || list_any (λ (r : Row). nat_eq r.node (suc x)) (in_node_order (map old_row rows))) (below-root x))
  there-is (nodes.New i) old = absurd (cc)

  orphan-is : (r : Row) → IsOf rows r → is_orphan rows r.node ≡ not (is_present (in_node_order (map old_row rows)) r.parent)
  orphan-is r x =
      ap (λ o. option_map_or (λ (q : ViewRow). not (is_there rows q.parent)) o false) x.1
      ∙ ap not (there-is x.0.parent (and_parts (is_old x.0.node) (is_old x.0.parent) x.3).1)
      ∙ (λ i. not (is_present (in_node_order (map old_row rows)) (x.2 i).parent))

  old-row : (x : ℕ) (q : ViewRow) → old_at rows x ≡ Some q → is_old q.parent ≡ true
  old-row x q h = at rows olds h
    where
      at : (ss : List ViewRow) → AreOld ss → old_at ss x ≡ Some q → is_old q.parent ≡ true
      at [] o k = absurd (cc)
      at (s ∷ ss) o k = by (same_node s.node (nodes.Old x)) k (λ l. at ss o.1 l)
        where
          by : (b : Bool) → cond b (Some s) (old_at ss x) ≡ Some q → (old_at ss x ≡ Some q → is_old q.parent ≡ true) → is_old q.parent ≡ true
          by true l rest = let e : s ≡ q = cc in ap (λ (z : ViewRow). is_old z.parent) (sym e) ∙ (and_parts (is_old s.node) (is_old s.parent) o.0).1
          by false l rest = rest l

  -- the root is reached by numbers where it is by references
  reached-is : (k x : ℕ) → lies_within rows k (nodes.Old 0) (nodes.Old x) ≡ is_reached (in_node_order (map old_row rows)) k x
  reached-is zero zero = refl
  reached-is zero (suc x) = below-root x
  reached-is (suc k) zero = refl
  reached-is (suc k) (suc x) =
      ap (λ b. b || option_map_or (λ (r : ViewRow). lies_within rows k (nodes.Old 0) r.parent) (old_at rows (suc x)) false) (below-root x)
      ∙ at (old_at rows (suc x)) refl (λ y. reached-is k y)
      ∙ ap (λ o. from_parent o (is_reached (in_node_order (map old_row rows)) k)) (sym (row-order rows (suc x) olds once))
    where
      at : (o : Option ViewRow) → old_at rows (suc x) ≡ o → ((y : ℕ) → lies_within rows k (nodes.Old 0) (nodes.Old y) ≡ is_reached (in_node_order (map old_row rows)) k y)
          → option_map_or (λ (r : ViewRow). lies_within rows k (nodes.Old 0) r.parent) o false ≡ from_parent (option_map old_row o) (is_reached (in_node_order (map old_row rows)) k)
      at None e rest = refl
      at (Some q) e rest = ap (lies_within rows k (nodes.Old 0)) (old-is q.parent (old-row (suc x) q e)) ∙ rest (node_number 0 q.parent)

  lost-is : (r : Row) → is_lost rows r.node ≡ not (is_reached (in_node_order (map old_row rows)) (length (in_node_order (map old_row rows))) r.node)
  lost-is r = ap not (reached-is (length rows) r.node ∙ ap (λ n. is_reached (in_node_order (map old_row rows)) n r.node) (sym (length-order (map old_row rows) ∙ length-map rows old_row)))

  every : (P : Row → Type 0) → ((r : Row) → P r) → (os : List Row) → AllByRecursion P os
  every P h [] = tt
  every P h (r ∷ os) = (h r, every P h os)

  -- the first fault by nodes is that by rows
  pub fault-is : fault_among rows (nodes_of rows) ≡ fault_in (map old_row rows)
  fault-is =
      let os = in_node_order (map old_row rows) in
      let all = all-order (IsOf rows) (map old_row rows) (own-rows rows olds once) in
      (λ i. option_or (clash-is os all i)
      (option_or (option_map (λ x. faults.Orphan x) (found-node (λ r. not (is_present os r.parent)) (is_orphan rows) os (all-map (IsOf rows) (λ r. is_orphan rows r.node ≡ not (is_present os r.parent)) orphan-is os all) i))
      (option_map (λ x. faults.Loop x) (found-node (λ r. not (is_reached os (length os) r.node)) (is_lost rows) os (every (λ r. is_lost rows r.node ≡ not (is_reached os (length os) r.node)) lost-is os) i))))
      ∙ at (first_clash os) (find (λ r. not (is_present os r.parent)) os) (find (λ r. not (is_reached os (length os) r.node)) os)
    where
      at : (c : Option base.Fault) (o l : Option Row)
          → option_or (option_map as_fault c) (option_or (option_map (λ x. faults.Orphan x) (option_map (λ (r : Row). r.node) o)) (option_map (λ x. faults.Loop x) (option_map (λ (r : Row). r.node) l)))
          ≡ option_map as_fault (option_or c (option_or (option_map (λ (r : Row). Orphan r.node) o) (option_map (λ (r : Row). Loop r.node) l)))
      at (Some f) o l = refl
      at None (Some r) l = refl
      at None None (Some r) = refl
      at None None None = refl

-- a key that is put among others
lookup-insert : (dir : NodeRef) (name : List ℕ) (places : Places) (key : Key) (v : ℕ)
    → lookup (is_asked dir name) (insert_entry same_child places key v) ≡ cond (is_asked dir name key) (Some v) (lookup (is_asked dir name) places)
lookup-insert dir name [] key v = refl
lookup-insert dir name (e ∷ places) key v = at (same_child key e.0) refl (lookup-insert dir name places key v)
  where
    -- the same key
    same : same_child key e.0 ≡ true → is_asked dir name key ≡ is_asked dir name e.0
    same t = let is = asked_is key.dir key.name.items e.0 t in (λ i. same_key dir (is.0 i) && bytes_eq name (is.1 i))

    kept : (b : Bool) → is_asked dir name key ≡ b → is_asked dir name e.0 ≡ b → cond (is_asked dir name e.0) (Some v) (lookup (is_asked dir name) places) ≡ cond b (Some v) (cond (is_asked dir name e.0) (Some e.1) (lookup (is_asked dir name) places))
    kept true h k = ap (λ b. cond b (Some v) (lookup (is_asked dir name) places)) k
    kept false h k = ap (λ b. cond b (Some v) (lookup (is_asked dir name) places)) k ∙ sym (ap (λ b. cond b (Some e.1) (lookup (is_asked dir name) places)) k)

    -- another key
    both : same_child key e.0 ≡ false → is_asked dir name key ≡ true → is_asked dir name e.0 ≡ true → ⊥
    both apart h k =
        let a = asked_is dir name key h in
        true≢false (sym k ∙ (λ i. is_asked (a.0 i) (a.1 i) e.0) ∙ apart)

    turned : same_child key e.0 ≡ false → (a b : Bool) → is_asked dir name e.0 ≡ a → is_asked dir name key ≡ b
        → cond a (Some e.1) (cond b (Some v) (lookup (is_asked dir name) places)) ≡ cond b (Some v) (cond a (Some e.1) (lookup (is_asked dir name) places))
    turned apart true true h k = absurd (both apart k h)
    turned apart true false h k = refl
    turned apart false b h k = refl

    at : (b : Bool) → same_child key e.0 ≡ b → lookup (is_asked dir name) (insert_entry same_child places key v) ≡ cond (is_asked dir name key) (Some v) (lookup (is_asked dir name) places)
        → lookup (is_asked dir name) (cond b ((e.0, v) ∷ places) (e ∷ insert_entry same_child places key v)) ≡ cond (is_asked dir name key) (Some v) (cond (is_asked dir name e.0) (Some e.1) (lookup (is_asked dir name) places))
    at true t rest = kept (is_asked dir name key) refl (sym (same t)) ∙ refl
    at false t rest = ap (λ o. cond (is_asked dir name e.0) (Some e.1) o) rest ∙ turned t (is_asked dir name e.0) (is_asked dir name key) refl refl

module _ (rows : List ViewRow) (node : ℕ) (done : List ℕ) where
  none-shared : (o : Option ViewRow) (ys : List ℕ) → o ≡ None → find (λ y. option_map_or (λ (r : ViewRow). option_map_or (λ (s : ViewRow). same_node r.parent s.parent && bytes_eq r.name s.name) (old_at rows y) false) o false) ys ≡ None
  none-shared None [] h = refl
  none-shared None (y ∷ ys) h = none-shared None ys h
  none-shared (Some r) ys h = absurd (cc)

  -- a node that isn't there has no place
  pub put-none : (places : Places) → old_at rows node ≡ None → ArePlaces rows done places → (None ≡ find (share_place rows node) done) × ArePlaces rows (node ∷ done) places
  put-none places none h = (
    sym (none-shared (old_at rows node) done none),
    λ x r at. h x r at ∙ sym (ap (λ b. cond b (Some node) (find (share_place rows x) done)) (apart (old_at rows x))),
  )
    where
      apart : (o : Option ViewRow) → option_map_or (λ (r : ViewRow). option_map_or (λ (s : ViewRow). same_node r.parent s.parent && bytes_eq r.name s.name) (old_at rows node) false) o false ≡ false
      apart None = refl
      apart (Some r) = ap (λ o. option_map_or (λ (s : ViewRow). same_node r.parent s.parent && bytes_eq r.name s.name) o false) none

  -- a node is the first of its place from now on
  pub put-row : (old new : Places) (key : Key) (r : ViewRow) → old_at rows node ≡ Some r → key.dir ≡ r.parent → key.name.items ≡ r.name → new ≡ insert_entry same_child old key node
      → ArePlaces rows done old → (lookup (same_child key) old ≡ find (share_place rows node) done) × ArePlaces rows (node ∷ done) new
  put-row old new key r at dir_is name_is is h = (
    (λ i. lookup (is_asked (dir_is i) (name_is i)) old) ∙ ap (λ t. lookup t old) (asked r.parent r.name) ∙ h node r at,
    λ x q own.
        sym (ap (λ t. lookup t new) (asked q.parent q.name)) ∙ ap (lookup (is_asked q.parent q.name)) is
        ∙ lookup-insert q.parent q.name old key node
        ∙ (λ i. cond (shared x q own i) (Some node) ((ap (λ t. lookup t old) (asked q.parent q.name) ∙ h x q own) i)),
  )
    where
      shared : (x : ℕ) (q : ViewRow) → old_at rows x ≡ Some q → is_asked q.parent q.name key ≡ share_place rows x node
      shared x q own =
          (λ i. same_key q.parent (dir_is i) && bytes_eq q.name (name_is i))
          ∙ ap (λ b. b && bytes_eq q.name r.name) (agrees q.parent r.parent ∙ same_node-sym r.parent q.parent)
          ∙ sym (ap (λ o. option_map_or (λ (a : ViewRow). option_map_or (λ (b : ViewRow). same_node a.parent b.parent && bytes_eq a.name b.name) (old_at rows node) false) o false) own
          ∙ ap (λ o. option_map_or (λ (b : ViewRow). same_node q.parent b.parent && bytes_eq q.name b.name) o false) at)

-- what each row has, at its place
pub all-got : (P : ViewRow → Type 0) (rows : List ViewRow) (i : ℕ) (d : ViewRow) → AllByRecursion P rows → i < length rows → P (get_or rows i d)
all-got P [] i d all h = absurd (omega (arith, h))
all-got P (r ∷ rows) zero d all h = all.0
all-got P (r ∷ rows) (suc i) d all h = all-got P rows i d all.1 (omega (arith, h))

old-number : (n : ℕ) (node : NodeRef) → is_old node ≡ true → node_number n node ≡ node_number 0 node
old-number n (nodes.Old x) h = refl
old-number n (nodes.New i) h = absurd (cc)

-- numbers of a history's nodes don't hang on how many there are
pub rows-old : (ns : Numbers) (rows : List ViewRow) → AreOld rows → map (row_by_number ns) rows ≡ map old_row rows
rows-old ns [] olds = refl
rows-old ns (r ∷ rows) olds =
    let parts = and_parts (is_old r.node) (is_old r.parent) olds.0 in
    (λ i. (let s : Row = record { node = old-number ns.nodes r.node parts.0 i; kind = r.kind; parent = old-number ns.nodes r.parent parts.1 i; name = r.name } in s) ∷ rows-old ns rows olds.1 i)

-- a row of a history's nodes joins such rows
pub old-append : (rows : List ViewRow) (r : ViewRow) → AreOld rows → is_old_row r ≡ true → AreOld (rows ++ r ∷ [])
old-append rows r olds old = all-append (λ (q : ViewRow). is_old_row q ≡ true) rows (r ∷ []) olds (old, tt)

-- the numbers of rows, row by row
pub numbers-more : (rows : List ViewRow) (i n : ℕ) (r : ViewRow) → i < length rows → r ≡ slice_index_or rows i r → n ≡ node_number 0 r.node
    → map (λ (q : ViewRow). node_number 0 q.node) (take i rows) ++ n ∷ [] ≡ map (λ (q : ViewRow). node_number 0 q.node) (take (i + 1) rows)
numbers-more rows i n r below is number =
    let one : suc i ≡ i + 1 = omega arith in
    (λ j. map (λ (q : ViewRow). node_number 0 q.node) (take i rows) ++ number j ∷ [])
    ∙ sym (map-append (λ (q : ViewRow). node_number 0 q.node) (take i rows) (r ∷ []))
    ∙ ap (λ (q : ViewRow). map (λ (p : ViewRow). node_number 0 p.node) (take i rows ++ q ∷ [])) is
    ∙ ap (map (λ (q : ViewRow). node_number 0 q.node)) (sym (take-suc rows i r below))
    ∙ ap (λ m. map (λ (q : ViewRow). node_number 0 q.node) (take m rows)) one
