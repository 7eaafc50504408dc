-- The same edits on two variants that have the same lines of one file: they have the same again, renumbered.
use Rattle.std.proofs.Common.{◌≡◌, ℕ, zero, suc, ◌+◌, ◌<◌, ◌≤◌, Bool, true, false, cond, ◌||◌, ◌&&◌, not, nat_eq, List, [], ◌∷◌, length, map, Option, Some, None, option_map, refl, sym, ap, subst, ◌∙◌, arith}
use Rattle.std.specs.List.{fold, filter, cons_option, AllByRecursion}
use Rattle.std.proofs.lemmas.Bool.{and_parts}
use Rattle.std.proofs.lemmas.Bool.Decides.{nat_tests}
use Rattle.cov_base.specs.Addresses.{stands_before, address_in, IsTable, IsLineOf, placed, AreInOrder}
use Rattle.cov_base.specs.Rows.{Row, RowChange, Created, Renamed, Moved, Removed, changed}
use Rattle.cov_base.specs.declared.number.NodeRef.{NodeRef}
use Rattle.cov_base.specs.declared.number.NodeRef.TheVariants as nodes
use Rattle.cov_base.specs.declared.number.LineRef.{LineRef}
use Rattle.cov_base.specs.declared.number.LineRef.TheVariants as lines
use Rattle.cov_base.proofs.CallerLemmas.{all-map, all-filter, all-placed, placed-in_order, filter-placed, in_order-filter}
use Rattle.cov_edit.specs.declared.edit.Edit.{Edit}
use Rattle.cov_edit.specs.declared.edit.Edit.TheVariants as edits
use Rattle.cov_edit.specs.Numbering.{Numbers, NumberedEdit, OnRows, Inserted, Deleted, node_number, line_number, node_count_after, line_count_after, anchor_of, anchors_of, numbered_edit, numbered_from}
use Rattle.cov_edit.specs.Variant.{Variant, Line, line_address, is_line, edited, lines_of}
use Rattle.cov_edit.proofs.CallerLemmas.{node_count_after-is, line_count_after-is}
use Rattle.cov_view.proofs.CallerLemmas.{node-known, insert-accepted, delete-accepted, rename-accepted, move-accepted, remove-accepted}
use Rattle.cov_view.specs.References.{is_head, is_known_node, is_known_line}
use Rattle.cov_view.specs.Paths.{kind_of}
use Rattle.cov_view.specs.Refusals.{shows_line, refusal, refused_from}
use Rattle.cov_history.proofs.Renumbering.{renumbered, address_renumbered, renumbered-low, renumbered-high, before-renumbered, bytes-renumbered}
use Rattle.cov_history.proofs.Sessions.{edit-accepted, rest-accepted}
use Rattle.cov_history.proofs.Standing.{line_of-more, next-behind}
use Rattle.cov_history.proofs.Touching.{IsSameAt, edited_node, edit-left, kind_by, kind-renamed, kind-moved, row-removed}

-- an edit touches no node and names no line but those that a history made, or that edits make
abbrev pub IsKnown : ℕ → ℕ → Edit → Type 0
IsKnown n m (edits.New kind parent name) = Unit {0}
IsKnown n m (edits.Insert file after text) = (is_known_node n file ≡ true) × (is_known_line m after ≡ true)
IsKnown n m (edits.Delete file which) = (is_known_node n file ≡ true) × (is_known_line m which ≡ true)
IsKnown n m (edits.Rename node name) = is_known_node n node ≡ true
IsKnown n m (edits.Move node parent) = is_known_node n node ≡ true
IsKnown n m (edits.Remove node) = is_known_node n node ≡ true

-- so do all of these edits
abbrev pub AreKnown : ℕ → ℕ → List Edit → Type 0
AreKnown n m [] = Unit {0}
AreKnown n m (e ∷ es) = IsKnown n m e × AreKnown n m es

head-known : (n : ℕ) (line : LineRef) → is_head line ≡ true → is_known_line n line ≡ true
head-known n (lines.Old zero) h = grind (arith, nat_tests)
head-known n (lines.Old (suc x)) h = absurd (cc)
head-known n (lines.New i) h = absurd (cc)

-- an accepted edit does
edit-known : (ns : Numbers) (v : Variant) (e : Edit) → refusal ns v e ≡ None → IsKnown ns.nodes (length ns.addresses) e
edit-known ns v (edits.New kind parent name) h = tt
edit-known ns v (edits.Insert file after text) h =
    let accepted = insert-accepted ns v file after text h in
    (node-known ns v file accepted.0, by (is_head after) refl accepted.1)
  where
    by : (b : Bool) → is_head after ≡ b → (b || shows_line ns v (node_number ns.nodes file) after) ≡ true → is_known_line (length ns.addresses) after ≡ true
    by true e j = head-known (length ns.addresses) after e
    by false e j = (and_parts (is_known_line (length ns.addresses) after) _ j).0
edit-known ns v (edits.Delete file which) h =
    let accepted = delete-accepted ns v file which h in
    (node-known ns v file accepted.0, (and_parts (is_known_line (length ns.addresses) which) _ accepted.2).0)
edit-known ns v (edits.Rename node name) h = node-known ns v node (rename-accepted ns v node name h).1
edit-known ns v (edits.Move node parent) h = node-known ns v node (move-accepted ns v node parent h).1
edit-known ns v (edits.Remove node) h = node-known ns v node (remove-accepted ns v node h).1

-- accepted edits do
pub accepted-known : (ns : Numbers) (t : List (List ℕ)) (node line k : ℕ) (v : Variant) (es : List Edit) → refused_from ns v k es (numbered_from ns t node line es) ≡ None
    → AreKnown ns.nodes (length ns.addresses) es
accepted-known ns t node line k v [] h = tt
accepted-known ns t node line k v (e ∷ es) h = (
  edit-known ns v e (edit-accepted k (refusal ns v e) _ h),
  accepted-known ns t (node_count_after node e) (line_count_after line e) (k + 1) (edited v (numbered_edit ns t node line e)) es (rest-accepted k (refusal ns v e) _ h),
)

-- the lines of a variant are the first of a table, in order
pub record IsInTable (t : List (List ℕ)) (n : ℕ) (v : Variant) : Type 0 where
  pub in_order : AreInOrder line_address v.lines
  pub numbered_lines : AllByRecursion (λ l. IsLineOf t n l.address) v.lines

in_table-insert : (t : List (List ℕ)) (n : ℕ) (v : Variant) (file : ℕ) (text : List ℕ) → IsTable t → n < length t → IsInTable t n v → IsInTable t (n + 1) (edited v (Inserted file (address_in t (n + 1)) text))
in_table-insert t n v file text table below h = record {
  in_order = placed-in_order line_address new v.lines h.in_order
      (all-map (λ l. IsLineOf t n l.address) (λ l. stands_before (address_in t (n + 1)) l.address ≡ false → stands_before l.address (address_in t (n + 1)) ≡ true)
      (λ l line. subst (λ a. stands_before a l.address ≡ false → stands_before l.address a ≡ true) (sym own) (next-behind t n l.address table below line))
      v.lines h.numbered_lines);
  numbered_lines = all-placed line_address (λ l. IsLineOf t (n + 1) l.address) new v.lines (n, (omega arith), own)
      (all-map (λ l. IsLineOf t n l.address) (λ l. IsLineOf t (n + 1) l.address) (λ l. line_of-more t n l.address) v.lines h.numbered_lines);
}
  where
    new : Line
    new = record { file = file; address = address_in t (n + 1); text = text }

    own : address_in t (n + 1) ≡ address_in t (suc n)
    own = let one : n + 1 ≡ suc n = omega arith in ap (address_in t) one

in_table-delete : (t : List (List ℕ)) (n : ℕ) (v : Variant) (file : ℕ) (address : List ℕ) → IsInTable t n v → IsInTable t n (edited v (Deleted file address))
in_table-delete t n v file address h = record {
  in_order = in_order-filter line_address (λ l. not (is_line file address l)) v.lines h.in_order;
  numbered_lines = all-filter (λ l. IsLineOf t n l.address) (λ l. not (is_line file address l)) v.lines h.numbered_lines;
}

in_table-rows : (t : List (List ℕ)) (n : ℕ) (v : Variant) (change : RowChange) → IsInTable t n v → IsInTable t n (edited v (OnRows change))
in_table-rows t n v change h = record { in_order = h.in_order; numbered_lines = h.numbered_lines }

pub in_table-edit : (ns : Numbers) (t : List (List ℕ)) (node line : ℕ) (v : Variant) (e : Edit) → IsTable t → line_count_after line e ≤ length t → IsInTable t line v
    → IsInTable t (line_count_after line e) (edited v (numbered_edit ns t node line e))
in_table-edit ns t node line v (edits.New kind parent name) table low h = in_table-rows t line v (Created (node + 1) kind (node_number ns.nodes parent) name) h
in_table-edit ns t node line v (edits.Insert file after text) table low h = in_table-insert t line v (node_number ns.nodes file) text table (omega (arith, low)) h
in_table-edit ns t node line v (edits.Delete file which) table low h = in_table-delete t line v (node_number ns.nodes file) (address_in t (line_number (length ns.addresses) which)) h
in_table-edit ns t node line v (edits.Rename which name) table low h = in_table-rows t line v (Renamed (node_number ns.nodes which) name) h
in_table-edit ns t node line v (edits.Move which parent) table low h = in_table-rows t line v (Moved (node_number ns.nodes which) (node_number ns.nodes parent)) h
in_table-edit ns t node line v (edits.Remove which) table low h = in_table-rows t line v (Removed (node_number ns.nodes which)) h

filter-swap : {X : Type 0} (p q : X → Bool) (xs : List X) → filter p (filter q xs) ≡ filter q (filter p xs)
filter-swap p q [] = refl
filter-swap p q (x ∷ xs) = at (p x) (q x) refl refl (filter-swap p q xs)
  where
    at : (a b : Bool) → p x ≡ a → q x ≡ b → filter p (filter q xs) ≡ filter q (filter p xs)
        → filter p (cond b (x ∷ filter q xs) (filter q xs)) ≡ filter q (cond a (x ∷ filter p xs) (filter p xs))
    at true true e g rest =
        ap (λ t. cond t (x ∷ filter p (filter q xs)) (filter p (filter q xs))) e ∙ ap (λ l. x ∷ l) rest ∙ sym (ap (λ t. cond t (x ∷ filter q (filter p xs)) (filter q (filter p xs))) g)
    at true false e g rest = rest ∙ sym (ap (λ t. cond t (x ∷ filter q (filter p xs)) (filter q (filter p xs))) g)
    at false true e g rest = ap (λ t. cond t (x ∷ filter p (filter q xs)) (filter p (filter q xs))) e ∙ rest
    at false false e g rest = rest

module _ (n m : ℕ) where
  -- a line as it is drawn after m lines
  abbrev pub line_renumbered : Line → Line
  line_renumbered l = record { file = l.file; address = address_renumbered n m l.address; text = l.text }

  module _ (more : n ≤ m) where
    placed-renumbered : (l : Line) (ls : List Line) → placed line_address (line_renumbered l) (map line_renumbered ls) ≡ map line_renumbered (placed line_address l ls)
    placed-renumbered l [] = refl
    placed-renumbered l (k ∷ ks) =
        ap (λ b. cond b (line_renumbered l ∷ line_renumbered k ∷ map line_renumbered ks) (line_renumbered k ∷ placed line_address (line_renumbered l) (map line_renumbered ks)))
        (before-renumbered n m more l.address k.address)
        ∙ at (stands_before l.address k.address) (placed-renumbered l ks)
      where
        at : (b : Bool) → placed line_address (line_renumbered l) (map line_renumbered ks) ≡ map line_renumbered (placed line_address l ks)
            → cond b (line_renumbered l ∷ line_renumbered k ∷ map line_renumbered ks) (line_renumbered k ∷ placed line_address (line_renumbered l) (map line_renumbered ks))
            ≡ map line_renumbered (cond b (l ∷ k ∷ ks) (k ∷ placed line_address l ks))
        at true rest = refl
        at false rest = ap (λ js. line_renumbered k ∷ js) rest

    deleted-renumbered : (file : ℕ) (address : List ℕ) (ls : List Line)
        → filter (λ l. not (is_line file (address_renumbered n m address) l)) (map line_renumbered ls) ≡ map line_renumbered (filter (λ l. not (is_line file address l)) ls)
    deleted-renumbered file address [] = refl
    deleted-renumbered file address (l ∷ ls) =
        ap (λ b. cond (not (nat_eq l.file file && b)) (line_renumbered l ∷ rest_of) rest_of) (bytes-renumbered n m more l.address address)
        ∙ at (not (is_line file address l)) (deleted-renumbered file address ls)
      where
        rest_of : List Line
        rest_of = filter (λ k. not (is_line file (address_renumbered n m address) k)) (map line_renumbered ls)

        at : (b : Bool) → rest_of ≡ map line_renumbered (filter (λ k. not (is_line file address k)) ls)
            → cond b (line_renumbered l ∷ rest_of) rest_of ≡ map line_renumbered (cond b (l ∷ filter (λ k. not (is_line file address k)) ls) (filter (λ k. not (is_line file address k)) ls))
        at true rest = ap (λ js. line_renumbered l ∷ js) rest
        at false rest = rest

    -- a known reference to a line has the renumbered number
    line-number : (line : LineRef) → is_known_line n line ≡ true → line_number m line ≡ renumbered n m (line_number n line)
    line-number (lines.Old x) h = let low : x ≤ n = grind (arith, nat_tests, h) in sym (renumbered-low n m x low)
    line-number (lines.New i) h =
        let here : n + 1 + i ≡ n + i + 1 = omega arith in
        let there : m + i + 1 ≡ m + 1 + i = omega arith in
        sym (ap (renumbered n m) here ∙ renumbered-high n m i ∙ there)

    -- so has the anchor of a known edit
    anchor-renumbered : (node : ℕ) (e : Edit) → IsKnown node n e → anchor_of m e ≡ option_map (renumbered n m) (anchor_of n e)
    anchor-renumbered node (edits.New kind parent name) h = refl
    anchor-renumbered node (edits.Insert file after text) h = ap Some (line-number after h.1)
    anchor-renumbered node (edits.Delete file which) h = refl
    anchor-renumbered node (edits.Rename which name) h = refl
    anchor-renumbered node (edits.Move which parent) h = refl
    anchor-renumbered node (edits.Remove which) h = refl

    mapped : (o : Option ℕ) (xs : List ℕ) → cons_option (option_map (renumbered n m) o) (map (renumbered n m) xs) ≡ map (renumbered n m) (cons_option o xs)
    mapped None xs = refl
    mapped (Some x) xs = refl

    -- so have the anchors of known edits
    pub anchors-renumbered : (node : ℕ) (es : List Edit) → AreKnown node n es → anchors_of m es ≡ map (renumbered n m) (anchors_of n es)
    anchors-renumbered node [] h = refl
    anchors-renumbered node (e ∷ es) h = (λ i. cons_option (anchor-renumbered node e h.0 i) (anchors-renumbered node es h.1 i)) ∙ mapped (anchor_of n e) (anchors_of n es)

module _ (nb nh : Numbers) (more : length nb.addresses ≤ length nh.addresses) (tb th : List (List ℕ)) (table_b : IsTable tb) (table_h : IsTable th)
    (same : (y : ℕ) → address_in th (renumbered (length nb.addresses) (length nh.addresses) y) ≡ address_renumbered (length nb.addresses) (length nh.addresses) (address_in tb y))
    (node : ℕ) (old : node ≤ nb.nodes) (grown : nb.nodes ≤ nh.nodes) where
  abbrev n : ℕ
  n = length nb.addresses

  abbrev m : ℕ
  m = length nh.addresses

  -- one variant has the node's kind as the other, and its lines renumbered
  pub record IsAlike (v w : Variant) : Type 0 where
    pub kind : kind_of w.rows node ≡ kind_of v.rows node
    pub lines : lines_of w node ≡ map (line_renumbered n m) (lines_of v node)

  alike-left : (v v' w w' : Variant) → IsSameAt node v v' → IsSameAt node w w' → IsAlike v w → IsAlike v' w'
  alike-left v v' w w' f g h = record {
    kind = ap (kind_by node) g.row ∙ h.kind ∙ sym (ap (kind_by node) f.row);
    lines = g.lines ∙ h.lines ∙ sym (ap (map (line_renumbered n m)) f.lines);
  }

  -- a removed node is of no kind, unless it is the root
  kind-removed : (rows : List Row) → kind_of (changed rows (Removed node)) node ≡ kind_by node None
  kind-removed rows = ap (kind_by node) (row-removed node rows)

  address : (j lb lh : ℕ) → lb ≡ n + j → lh ≡ m + j → address_in th (lh + 1) ≡ address_renumbered n m (address_in tb (lb + 1))
  address j lb lh eb eh =
      let high : lh + 1 ≡ renumbered n m (lb + 1) = ap (λ k. k + 1) eh ∙ sym (renumbered-high n m j) ∙ ap (renumbered n m) (sym (ap (λ k. k + 1) eb)) in
      ap (address_in th) high ∙ same (lb + 1)

  insert-alike : (j lb lh : ℕ) (v w : Variant) (text : List ℕ) → lb ≡ n + j → lh ≡ m + j → AreInOrder line_address v.lines → AreInOrder line_address w.lines → IsAlike v w
      → IsAlike (edited v (Inserted node (address_in tb (lb + 1)) text)) (edited w (Inserted node (address_in th (lh + 1)) text))
  insert-alike j lb lh v w text eb eh ov ow h = record {
    kind = h.kind;
    lines =
        filter-placed line_address (λ l. nat_eq l.file node) new_h w.lines ow
        ∙ ap (λ b. cond b (placed line_address new_h (lines_of w node)) (lines_of w node)) own
        ∙ ap (λ a. placed line_address (record { file = node; address = a; text = text }) (lines_of w node)) (address j lb lh eb eh)
        ∙ ap (placed line_address (line_renumbered n m new_b)) h.lines
        ∙ placed-renumbered n m more new_b (lines_of v node)
        ∙ sym (ap (map (line_renumbered n m))
        (filter-placed line_address (λ l. nat_eq l.file node) new_b v.lines ov ∙ ap (λ b. cond b (placed line_address new_b (lines_of v node)) (lines_of v node)) own));
  }
    where
      own : nat_eq node node ≡ true
      own = grind (arith, nat_tests)

      new_b : Line
      new_b = record { file = node; address = address_in tb (lb + 1); text = text }

      new_h : Line
      new_h = record { file = node; address = address_in th (lh + 1); text = text }

  delete-alike : (v w : Variant) (which : LineRef) → is_known_line n which ≡ true → IsAlike v w
      → IsAlike (edited v (Deleted node (address_in tb (line_number n which)))) (edited w (Deleted node (address_in th (line_number m which))))
  delete-alike v w which known h = record {
    kind = h.kind;
    lines =
        filter-swap (λ l. nat_eq l.file node) (λ l. not (is_line node (address_in th (line_number m which)) l)) w.lines
        ∙ ap (λ a. filter (λ l. not (is_line node a l)) (lines_of w node)) (ap (address_in th) (line-number n m more which known) ∙ same (line_number n which))
        ∙ ap (filter (λ l. not (is_line node (address_renumbered n m (address_in tb (line_number n which))) l))) h.lines
        ∙ deleted-renumbered n m more node (address_in tb (line_number n which)) (lines_of v node)
        ∙ sym (ap (map (line_renumbered n m)) (filter-swap (λ l. nat_eq l.file node) (λ l. not (is_line node (address_in tb (line_number n which)) l)) v.lines));
  }

  -- an edit at a reference is of the node for both or for neither
  by_reference : (v w : Variant) (db dh : ℕ → NumberedEdit) → ((y : ℕ) → edited_node (db y) ≡ y) → ((y : ℕ) → edited_node (dh y) ≡ y)
      → IsAlike (edited v (db node)) (edited w (dh node)) → IsAlike v w → (which : NodeRef) → IsAlike (edited v (db (node_number nb.nodes which))) (edited w (dh (node_number nh.nodes which)))
  by_reference v w db dh of_b of_h own h (nodes.Old y) = at (nat_eq y node) refl
    where
      at : (b : Bool) → nat_eq y node ≡ b → IsAlike (edited v (db y)) (edited w (dh y))
      at true e = let is : node ≡ y = grind (arith, nat_tests, e) in subst (λ k. IsAlike (edited v (db k)) (edited w (dh k))) is own
      at false e =
          alike-left v (edited v (db y)) w (edited w (dh y))
          (edit-left node v (db y) (ap (λ k. nat_eq k node) (of_b y) ∙ e)) (edit-left node w (dh y) (ap (λ k. nat_eq k node) (of_h y) ∙ e)) h
  by_reference v w db dh of_b of_h own h (nodes.New i) =
      let other_b : nat_eq (nb.nodes + 1 + i) node ≡ false = grind (arith, nat_tests, old) in
      let other_h : nat_eq (nh.nodes + 1 + i) node ≡ false = grind (arith, nat_tests, old, grown) in
      alike-left v (edited v (db (nb.nodes + 1 + i))) w (edited w (dh (nh.nodes + 1 + i)))
      (edit-left node v (db (nb.nodes + 1 + i)) (ap (λ k. nat_eq k node) (of_b (nb.nodes + 1 + i)) ∙ other_b))
      (edit-left node w (dh (nh.nodes + 1 + i)) (ap (λ k. nat_eq k node) (of_h (nh.nodes + 1 + i)) ∙ other_h)) h

  -- a known edit leaves the variants alike
  edit-alike : (xb xh lb lh j : ℕ) (v w : Variant) (e : Edit) → nb.nodes ≤ xb → nh.nodes ≤ xh → lb ≡ n + j → lh ≡ m + j → IsKnown nb.nodes n e
      → AreInOrder line_address v.lines → AreInOrder line_address w.lines → IsAlike v w
      → IsAlike (edited v (numbered_edit nb tb xb lb e)) (edited w (numbered_edit nh th xh lh e))
  edit-alike xb xh lb lh j v w (edits.New kind parent name) ab ah eb eh known ov ow h =
      let rb = OnRows (Created (xb + 1) kind (node_number nb.nodes parent) name) in
      let rh = OnRows (Created (xh + 1) kind (node_number nh.nodes parent) name) in
      alike-left v (edited v rb) w (edited w rh) (edit-left node v rb (grind (arith, nat_tests, old, ab))) (edit-left node w rh (grind (arith, nat_tests, old, grown, ah))) h
  edit-alike xb xh lb lh j v w (edits.Insert file after text) ab ah eb eh known ov ow h =
      by_reference v w (λ y. Inserted y (address_in tb (lb + 1)) text) (λ y. Inserted y (address_in th (lh + 1)) text) (λ y. refl) (λ y. refl)
      (insert-alike j lb lh v w text eb eh ov ow h) h file
  edit-alike xb xh lb lh j v w (edits.Delete file which) ab ah eb eh known ov ow h =
      by_reference v w (λ y. Deleted y (address_in tb (line_number n which))) (λ y. Deleted y (address_in th (line_number m which))) (λ y. refl) (λ y. refl)
      (delete-alike v w which known.1 h) h file
  edit-alike xb xh lb lh j v w (edits.Rename which name) ab ah eb eh known ov ow h = record {
    kind = kind-renamed node w.rows (node_number nh.nodes which) name ∙ h.kind ∙ sym (kind-renamed node v.rows (node_number nb.nodes which) name);
    lines = h.lines;
  }
  edit-alike xb xh lb lh j v w (edits.Move which parent) ab ah eb eh known ov ow h = record {
    kind = kind-moved node w.rows (node_number nh.nodes which) (node_number nh.nodes parent) ∙ h.kind
        ∙ sym (kind-moved node v.rows (node_number nb.nodes which) (node_number nb.nodes parent));
    lines = h.lines;
  }
  edit-alike xb xh lb lh j v w (edits.Remove which) ab ah eb eh known ov ow h =
      by_reference v w (λ y. OnRows (Removed y)) (λ y. OnRows (Removed y)) (λ y. refl) (λ y. refl)
      (record { kind = kind-removed w.rows ∙ sym (kind-removed v.rows); lines = h.lines }) h which

  -- edits that a history before both positions knows leave the variants alike
  pub edits-alike : (xb xh lb lh j : ℕ) (v w : Variant) (es : List Edit) → nb.nodes ≤ xb → nh.nodes ≤ xh → lb ≡ n + j → lh ≡ m + j
      → lb + length (anchors_of n es) ≤ length tb → lh + length (anchors_of n es) ≤ length th → AreKnown nb.nodes n es
      → IsInTable tb lb v → IsInTable th lh w → IsAlike v w
      → IsAlike (fold edited v (numbered_from nb tb xb lb es)) (fold edited w (numbered_from nh th xh lh es))
  edits-alike xb xh lb lh j v w [] ab ah eb eh lob loh known iv iw h = h
  edits-alike xb xh lb lh j v w (e ∷ es) ab ah eb eh lob loh known iv iw h =
      let more_b = node_count_after-is xb 0 e in
      let more_h = node_count_after-is xh 0 e in
      let count_b = line_count_after-is lb n e (anchors_of n es) in
      let count_h = line_count_after-is lh n e (anchors_of n es) in
      let count = line_count_after-is j n e (anchors_of n es) in
      edits-alike (node_count_after xb e) (node_count_after xh e) (line_count_after lb e) (line_count_after lh e) (line_count_after j e)
      (edited v (numbered_edit nb tb xb lb e)) (edited w (numbered_edit nh th xh lh e)) es
      (omega (arith, ab, more_b)) (omega (arith, ah, more_h)) (omega (arith, eb, count_b, count)) (omega (arith, eh, count_h, count))
      (omega (arith, lob, count_b)) (omega (arith, loh, count_h)) known.1
      (in_table-edit nb tb xb lb v e table_b (omega (arith, lob, count_b)) iv) (in_table-edit nh th xh lh w e table_h (omega (arith, loh, count_h)) iw)
      (edit-alike xb xh lb lh j v w e ab ah eb eh known.0 iv.in_order iw.in_order h)
