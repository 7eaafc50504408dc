-- What a view finds is what each variant that it shows has.
use Rattle.std.proofs.Common.{◌≡◌, ℕ, zero, suc, Bool, true, false, cond, ◌&&◌, nat_eq, IfSome, IfOk, OnOk, Result, Ok, Err, nat_le, List, [], ◌∷◌, map, Option, Some, None, is_some, option_map, refl, sym, ap, subst, ◌∙◌, arith}
use Rattle.std.specs.Str.{bytes_eq}
use Rattle.std.specs.List.{find, AllByRecursion}
use Rattle.cov_view.proofs.Listed.{listed-shown}
use Rattle.std.proofs.lemmas.Bool.Decides.{nat_tests}
use Rattle.std.proofs.lemmas.Bool.{and_from, and_parts}
use Rattle.cov_base.specs.declared.number.Kind.{Kind}
use Rattle.cov_base.specs.declared.number.Kind.TheVariants as kinds
use Rattle.cov_base.specs.declared.number.NodeRef.{NodeRef}
use Rattle.cov_base.specs.declared.number.NodeRef.TheVariants as nodes
use Rattle.cov_base.specs.Rows.{Row, row_of}
use Rattle.cov_edit.specs.Numbering.{Numbers, node_number}
use Rattle.cov_edit.specs.Variant.{Variant}
use Rattle.cov_view.specs.Listing.{IsListingOf, in_listing_order, listed, listed_in}
use Rattle.cov_view.specs.declared.listing.DirRow.{DirRow}
use Rattle.cov_view.specs.References.{is_root, is_dir_kind, same_node, is_known_node, is_made_node}
use Rattle.cov_view.specs.Refusals.{shows_node, is_dir}
use Rattle.cov_view.specs.Paths.{from_number, child_node, path_node, kind_of, shown_kind, AreLinesOf}
use Rattle.cov_view.specs.Seen.{Seen, row_at, kind_in, kind_is_dir, child_in, from_node, node_at, file_lines, lines_in}
use Rattle.cov_view.specs.Views.{row_by_number, IsMade, Shows}
use Rattle.cov_view.specs.declared.line.ViewLine.{ViewLine}
use Rattle.cov_view.specs.declared.row.ViewRow.{ViewRow}
use Rattle.cov_view.proofs.Naming.{same-node, row-known, row-unknown, below_root, kind_below, there-known, dir}
use Rattle.cov_view.proofs.Refusing.{file_row, shown_lines, made_lines, here, is_dir-rows, there-made}
use Rattle.cov_view.proofs.Standing.{node-itself}

-- a row that is found is that of its node, which is there
found-there : (p : ViewRow → Bool) (rows : List ViewRow) (r : ViewRow) → find p rows ≡ Some r → is_some (row_at rows r.node) ≡ true
found-there p [] r e = absurd (cc)
found-there p (q ∷ rows) r e = at (p q) e (λ k. found-there p rows r k)
  where
    either : (b : Bool) (o : Option ViewRow) → is_some o ≡ true → is_some (cond b (Some q) o) ≡ true
    either true o h = refl
    either false o h = h

    at : (b : Bool) → cond b (Some q) (find p rows) ≡ Some r → (find p rows ≡ Some r → is_some (row_at rows r.node) ≡ true)
        → is_some (cond (same_node q.node r.node) (Some q) (row_at rows r.node)) ≡ true
    at true k rest =
        let same : q ≡ r = cc in
        subst (λ (x : ViewRow). is_some (cond (same_node q.node x.node) (Some q) (row_at rows x.node)) ≡ true) same
        (ap (λ b. is_some (cond b (Some q) (row_at rows q.node))) (node-itself q.node))
    at false k rest = either (same_node q.node r.node) (row_at rows r.node) (rest k)

kind_there : (rows : List ViewRow) (node : NodeRef) → is_some (row_at rows node) ≡ true → is_some (kind_in rows node) ≡ true
kind_there rows node h = at (is_root node) (row_at rows node) h
  where
    at : (b : Bool) (o : Option ViewRow) → is_some o ≡ true → is_some (cond b (Some kinds.Dir) (option_map (λ (r : ViewRow). r.kind) o)) ≡ true
    at true o k = refl
    at false None k = absurd (cc)
    at false (Some r) k = refl

-- a node that a directory has is there
pub child-there : (rows : List ViewRow) (dir : NodeRef) (name : List ℕ) (child : NodeRef) → child_in rows dir name ≡ Some child → is_some (kind_in rows child) ≡ true
child-there rows dir name child e = kind_there rows child (at (find (λ r. same_node r.parent dir && bytes_eq r.name name) rows) refl e)
  where
    at : (o : Option ViewRow) → find (λ r. same_node r.parent dir && bytes_eq r.name name) rows ≡ o → option_map (λ (r : ViewRow). r.node) o ≡ Some child → is_some (row_at rows child) ≡ true
    at None f k = absurd (cc)
    at (Some r) f k =
        let same : r.node ≡ child = cc in
        subst (λ (n : NodeRef). is_some (row_at rows n) ≡ true) same (found-there (λ r. same_node r.parent dir && bytes_eq r.name name) rows r f)

-- the node to which names lead is there
pub node-there : (rows : List ViewRow) (names : List (List ℕ)) (dir node : NodeRef) → is_some (kind_in rows dir) ≡ true → node_at rows dir names ≡ Some node → is_some (kind_in rows node) ≡ true
node-there rows [] dir node h e = let same : dir ≡ node = cc in subst (λ (n : NodeRef). is_some (kind_in rows n) ≡ true) same h
node-there rows (name ∷ names) dir node h e = at (child_in rows dir name) refl e (λ child k l. node-there rows names child node k l)
  where
    at : (o : Option NodeRef) → child_in rows dir name ≡ o → from_node o (λ child. node_at rows child names) ≡ Some node
        → ((child : NodeRef) → is_some (kind_in rows child) ≡ true → node_at rows child names ≡ Some node → is_some (kind_in rows node) ≡ true)
        → is_some (kind_in rows node) ≡ true
    at None f k rest = absurd (cc)
    at (Some child) f k rest = rest child (child-there rows dir name child f) k

module _ (ns : Numbers) (s : Seen) where
  -- a name leads from a directory to one node, by references and by numbers
  child-shown : (dir : NodeRef) (name : List ℕ) (rows : List ViewRow) → is_known_node ns.nodes dir ≡ true → AllByRecursion (IsMade ns s) rows
      → option_map (node_number ns.nodes) (child_in rows dir name) ≡ child_node (map (row_by_number ns) rows) (node_number ns.nodes dir) name
  child-shown dir name [] known made = refl
  child-shown dir name (r ∷ rows) known made =
      let own = (and_parts (is_made_node ns.nodes s.nodes_made r.node) (is_made_node ns.nodes s.nodes_made r.parent) made.0.0).1 in
      ap (λ b. option_map (node_number ns.nodes) (option_map (λ (q : ViewRow). q.node) (cond (b && bytes_eq r.name name) (Some r) (find (λ (q : ViewRow). same_node q.parent dir && bytes_eq q.name name) rows))))
      (same-node ns.nodes s.nodes_made r.parent dir own known)
      ∙ at (nat_eq (node_number ns.nodes r.parent) (node_number ns.nodes dir) && bytes_eq r.name name) (child-shown dir name rows known made.1)
    where
      at : (b : Bool) → option_map (node_number ns.nodes) (child_in rows dir name) ≡ child_node (map (row_by_number ns) rows) (node_number ns.nodes dir) name
          → option_map (node_number ns.nodes) (option_map (λ (q : ViewRow). q.node) (cond b (Some r) (find (λ (q : ViewRow). same_node q.parent dir && bytes_eq q.name name) rows)))
          ≡ option_map (λ (q : Row). q.node) (cond b (Some (row_by_number ns r)) (find (λ (q : Row). nat_eq q.parent (node_number ns.nodes dir) && bytes_eq q.name name) (map (row_by_number ns) rows)))
      at true rest = refl
      at false rest = rest

module _ (ns : Numbers) (s : Seen) (rows : List ViewRow) (made : AllByRecursion (IsMade ns s) rows) where
  -- a path leads to one node, by references and by numbers
  path-known : (names : List (List ℕ)) (dir : NodeRef) → is_known_node ns.nodes dir ≡ true
      → option_map (node_number ns.nodes) (node_at rows dir names) ≡ path_node (map (row_by_number ns) rows) (node_number ns.nodes dir) names
  path-known [] dir known = refl
  path-known (name ∷ names) dir known = at (child_in rows dir name) refl (child-shown ns s dir name rows known made) (λ child k. path-known names child k)
    where
      go : ℕ → Option ℕ
      go child = path_node (map (row_by_number ns) rows) child names

      at : (o : Option NodeRef) → child_in rows dir name ≡ o → option_map (node_number ns.nodes) o ≡ child_node (map (row_by_number ns) rows) (node_number ns.nodes dir) name
          → ((child : NodeRef) → is_known_node ns.nodes child ≡ true → option_map (node_number ns.nodes) (node_at rows child names) ≡ path_node (map (row_by_number ns) rows) (node_number ns.nodes child) names)
          → option_map (node_number ns.nodes) (from_node o (λ child. node_at rows child names))
          ≡ from_number (child_node (map (row_by_number ns) rows) (node_number ns.nodes dir) name) (λ child. path_node (map (row_by_number ns) rows) child names)
      at None e k rest = ap (λ o. from_number o go) k
      at (Some child) e k rest = rest child (there-known ns s rows made child (child-there rows dir name child e)) ∙ ap (λ o. from_number o go) k

  kind-known : (node : NodeRef) → is_root node ≡ false → is_known_node ns.nodes node ≡ true → kind_in rows node ≡ kind_of (map (row_by_number ns) rows) (node_number ns.nodes node)
  kind-known node root known =
      let no_root : nat_eq (node_number ns.nodes node) 0 ≡ false = (let z = below_root ns s rows made node root in grind (arith, nat_tests, z)) in
      kind_below ns s rows made node root
      ∙ of_row (row_at rows node)
      ∙ ap (option_map (λ (r : Row). r.kind)) (row-known ns s node rows known made)
      ∙ sym (ap (λ b. cond b (Some kinds.Dir) (option_map (λ (r : Row). r.kind) (row_of (map (row_by_number ns) rows) (node_number ns.nodes node)))) no_root)
    where
      of_row : (o : Option ViewRow) → option_map (λ (r : ViewRow). r.kind) o ≡ option_map (λ (r : Row). r.kind) (option_map (row_by_number ns) o)
      of_row None = refl
      of_row (Some r) = refl

  kind-below : (node : NodeRef) → is_root node ≡ false → kind_in rows node ≡ cond (is_known_node ns.nodes node) (kind_of (map (row_by_number ns) rows) (node_number ns.nodes node)) None
  kind-below node root = at (is_known_node ns.nodes node) refl
    where
      at : (b : Bool) → is_known_node ns.nodes node ≡ b → kind_in rows node ≡ cond b (kind_of (map (row_by_number ns) rows) (node_number ns.nodes node)) None
      at true known = kind-known node root known
      at false unknown = kind_below ns s rows made node root ∙ ap (option_map (λ (r : ViewRow). r.kind)) (row-unknown ns s node rows unknown made)

  kind-root : (node : NodeRef) → is_root node ≡ true → kind_in rows node ≡ cond (is_known_node ns.nodes node) (kind_of (map (row_by_number ns) rows) (node_number ns.nodes node)) None
  kind-root (nodes.Old zero) root = let e : nat_le 0 ns.nodes ≡ true = grind (arith, nat_tests) in sym (ap (λ b. cond b (Some kinds.Dir) None) e)
  kind-root (nodes.Old (suc x)) root = absurd (cc)
  kind-root (nodes.New i) root = absurd (cc)

  kind-either : (node : NodeRef) → kind_in rows node ≡ cond (is_known_node ns.nodes node) (kind_of (map (row_by_number ns) rows) (node_number ns.nodes node)) None
  kind-either node = at (is_root node) refl
    where
      at : (b : Bool) → is_root node ≡ b → kind_in rows node ≡ cond (is_known_node ns.nodes node) (kind_of (map (row_by_number ns) rows) (node_number ns.nodes node)) None
      at true root = kind-root node root
      at false root = kind-below node root

module _ (ns : Numbers) (table : List (List ℕ)) (s : Seen) (v : Variant) (shows : Shows ns table s v) where
  -- a path leads to the same node in a view and in its variant
  pub path-shown : (names : List (List ℕ)) → option_map (node_number ns.nodes) (node_at s.rows (nodes.Old 0) names) ≡ path_node v.rows 0 names
  path-shown names =
      let known : nat_le 0 ns.nodes ≡ true = grind (arith, nat_tests) in
      path-known ns s s.rows shows.made names (nodes.Old 0) known ∙ ap (λ (rows : List Row). path_node rows 0 names) (sym shows.rows)

  pub path-made : (names : List (List ℕ)) (node : NodeRef) → node_at s.rows (nodes.Old 0) names ≡ Some node → is_made_node ns.nodes s.nodes_made node ≡ true
  path-made names node e = there-made ns s node shows.made (node-there s.rows names (nodes.Old 0) node refl e)

  -- a node is of the same kind in a view and in its variant
  pub kind-shown : (node : NodeRef) → kind_in s.rows node ≡ shown_kind ns v node
  kind-shown node =
      kind-either ns s s.rows shows.made node
      ∙ ap (λ (rows : List Row). cond (is_known_node ns.nodes node) (kind_of rows (node_number ns.nodes node)) None) (sym shows.rows)

  -- a node that isn't there
  pub absent-shown : (node : NodeRef) → kind_in s.rows node ≡ None → shows_node ns v node ≡ false
  absent-shown node h = here ns table s v shows node ∙ ap is_some h

  pub there-shown : (node : NodeRef) (k : Kind) → kind_in s.rows node ≡ Some k → shows_node ns v node ≡ true
  there-shown node k h = here ns table s v shows node ∙ ap is_some h

  pub dir-shown : (node : NodeRef) (k : Kind) → kind_in s.rows node ≡ Some k → is_dir v.rows (node_number ns.nodes node) ≡ is_dir_kind k
  dir-shown node k h = is_dir-rows ns table s v shows node ∙ dir ns s s.rows shows.made node (ap is_some h) ∙ ap kind_is_dir h

  -- a node of a kind is there, and passes a test of directories where the kind does
  pub kind-there : (node : NodeRef) (k : Kind) (t : Bool → Bool) → kind_in s.rows node ≡ Some k → t (is_dir_kind k) ≡ true → (shows_node ns v node && t (is_dir v.rows (node_number ns.nodes node))) ≡ true
  kind-there node k t h passes =
      and_from (shows_node ns v node) (t (is_dir v.rows (node_number ns.nodes node))) (there-shown node k h) (ap t (dir-shown node k h) ∙ passes)

  -- the lines of a file in a view are those in its variant
  pub lines-shown : (file : NodeRef) (ls : List ViewLine) → kind_in s.rows file ≡ Some kinds.File → lines_in s.rows file ≡ Some ls → AreLinesOf ns s.lines_made v file ls
  lines-shown file ls kind e =
      let r = file_row s.rows file kind in
      let same : r.0.lines ≡ ls = lines-are r.0 (r.2) (ap file_lines (sym r.1) ∙ e) in
      subst (AreLinesOf ns s.lines_made v file) same (record {
        there = there-shown file kinds.File kind;
        is_file = dir-shown file kinds.File kind;
        lines = sym (shown_lines ns table s v shows file r.0 r.1 r.2);
        made = made_lines ns table s v shows file r.0 r.1;
      })
    where
      lines-are : (r : ViewRow) → r.kind ≡ kinds.File → file_lines (Some r) ≡ Some ls → r.lines ≡ ls
      lines-are r k f = (let g : Some r.lines ≡ Some ls = sym (ap (λ (x : Kind). cond (is_dir_kind x) None (Some r.lines)) k) ∙ f in cc)

  -- a listing in a view is one of its variant
  pub listing-shown : (node : NodeRef) (listing : List DirRow) → kind_in s.rows node ≡ Some kinds.Dir → listing ≡ listed_in s.rows node → IsListingOf ns v node listing
  listing-shown node listing kind h = record {
    there = there-shown node kinds.Dir kind;
    is_directory = dir-shown node kinds.Dir kind;
    rows = h
        ∙ sym (ap (λ (rows : List Row). listed rows (node_number ns.nodes node)) shows.rows
        ∙ ap in_listing_order (listed-shown ns s node s.rows (there-known ns s s.rows shows.made node (ap is_some kind)) shows.made));
  }

pub some : {A : Type 0} (o : Option A) (P : A → Type 0) → ((x : A) → o ≡ Some x → P x) → IfSome o P
some None P f = tt
some (Some x) P f = f x refl

pub ok : {A F : Type 0} (r : Result A F) (P : Type 0) (Q R : A → Type 0) → OnOk r P → IfOk r Q → ((x : A) → P → Q x → R x) → IfOk r R
ok (Ok x) P Q R p q f = f x p q
ok (Err e) P Q R p q f = tt

pub if-ok : {A F : Type 0} (r : Result A F) (P Q : A → Type 0) → IfOk r P → ((x : A) → P x → Q x) → IfOk r Q
if-ok (Ok x) P Q p f = f x p
if-ok (Err e) P Q p f = tt
