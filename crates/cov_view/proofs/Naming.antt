-- References and the numbers that they name.
use Rattle.std.proofs.Common.{◌≡◌, ℕ, zero, suc, ◌+◌, ◌<◌, ◌≤◌, Bool, true, false, cond, ◌&&◌, ◌||◌, nat_eq, nat_le, List, [], ◌∷◌, map, Option, Some, None, is_some, option_map, refl, sym, ap, ◌∙◌, arith}
use Rattle.std.specs.List.{list_any, AllByRecursion}
use Rattle.std.specs.Str.{bytes_eq}
use Rattle.std.proofs.lemmas.Bool.Decides.{nat_tests}
use Rattle.std.proofs.lemmas.Bool.{and_parts}
use Rattle.cov_base.proofs.CallerLemmas.{is_some-map}
use Rattle.cov_base.specs.declared.number.Kind.TheVariants as kinds
use Rattle.cov_base.specs.declared.number.NodeRef.{NodeRef}
use Rattle.cov_base.specs.declared.number.NodeRef.TheVariants as nodes
use Rattle.cov_base.specs.declared.number.LineRef.{LineRef}
use Rattle.cov_base.specs.declared.number.LineRef.TheVariants as lines
use Rattle.cov_base.specs.Rows.{Row, row_of, is_present}
use Rattle.cov_edit.specs.Numbering.{Numbers, node_number, line_number}
use Rattle.cov_view.specs.References.{is_head, is_root, same_node, same_line, is_known_node, is_known_line, is_made_node, is_made_line}
use Rattle.cov_view.specs.Refusals.{row_is_dir, is_dir, has_name}
use Rattle.cov_view.specs.Seen.{Seen, row_at, at_row, with_lines_by, kind_in, kind_is_dir, has_child}
use Rattle.cov_view.specs.Views.{row_by_number, IsMade}
use Rattle.cov_view.specs.declared.line.ViewLine.{ViewLine}
use Rattle.cov_view.specs.declared.row.ViewRow.{ViewRow}

-- the head has number 0
pub head-number : (n : ℕ) (line : LineRef) → is_head line ≡ true → line_number n line ≡ 0
head-number n (lines.Old zero) h = refl
head-number n (lines.Old (suc x)) h = absurd (cc)
head-number n (lines.New i) h = absurd (cc)

-- no other line has
pub below-head : (n : ℕ) (line : LineRef) → is_head line ≡ false → line_number n line ≡ 0 → ⊥
below-head n (lines.Old zero) h e = absurd (cc)
below-head n (lines.Old (suc x)) h e = omega (arith, e)
below-head n (lines.New i) h e = omega (arith, e)

-- of references to what is made, two are the same where their numbers are
pub same-node : (n made : ℕ) (a b : NodeRef) → is_made_node n made a ≡ true → is_known_node n b ≡ true → same_node a b ≡ nat_eq (node_number n a) (node_number n b)
same-node n made (nodes.Old x) (nodes.Old y) h k = refl
same-node n made (nodes.Old x) (nodes.New j) h k = sym (let e : nat_eq x (n + 1 + j) ≡ false = grind (arith, nat_tests, h) in e)
same-node n made (nodes.New i) (nodes.Old y) h k = sym (let e : nat_eq (n + 1 + i) y ≡ false = grind (arith, nat_tests, k) in e)
same-node n made (nodes.New i) (nodes.New j) h k = grind (arith, nat_tests)

pub other-node : (n made : ℕ) (a b : NodeRef) → is_made_node n made a ≡ true → is_known_node n b ≡ false → same_node a b ≡ false
other-node n made (nodes.Old x) (nodes.Old y) h k = grind (arith, nat_tests, h, k)
other-node n made (nodes.Old x) (nodes.New j) h k = refl
other-node n made (nodes.New i) (nodes.Old y) h k = refl
other-node n made (nodes.New i) (nodes.New j) h k = absurd (cc)

pub same-line : (n made : ℕ) (a b : LineRef) → is_made_line n made a ≡ true → is_known_line n b ≡ true → same_line a b ≡ nat_eq (line_number n a) (line_number n b)
same-line n made (lines.Old x) (lines.Old y) h k = refl
same-line n made (lines.Old x) (lines.New j) h k = sym (let e : nat_eq x (n + 1 + j) ≡ false = grind (arith, nat_tests, h) in e)
same-line n made (lines.New i) (lines.Old y) h k = sym (let e : nat_eq (n + 1 + i) y ≡ false = grind (arith, nat_tests, k) in e)
same-line n made (lines.New i) (lines.New j) h k = grind (arith, nat_tests)

pub other-line : (n made : ℕ) (a b : LineRef) → is_made_line n made a ≡ true → is_known_line n b ≡ false → same_line a b ≡ false
other-line n made (lines.Old x) (lines.Old y) h k = grind (arith, nat_tests, h, k)
other-line n made (lines.Old x) (lines.New j) h k = refl
other-line n made (lines.New i) (lines.Old y) h k = refl
other-line n made (lines.New i) (lines.New j) h k = absurd (cc)

pub node-same : (a b : NodeRef) → same_node a b ≡ true → a ≡ b
node-same (nodes.Old x) (nodes.Old y) h = let e : x ≡ y = grind (arith, nat_tests, h) in ap nodes.Old e
node-same (nodes.Old x) (nodes.New j) h = absurd (cc)
node-same (nodes.New i) (nodes.Old y) h = absurd (cc)
node-same (nodes.New i) (nodes.New j) h = let e : i ≡ j = grind (arith, nat_tests, h) in ap nodes.New e

pub line-same : (a b : LineRef) → same_line a b ≡ true → a ≡ b
line-same (lines.Old x) (lines.Old y) h = let e : x ≡ y = grind (arith, nat_tests, h) in ap lines.Old e
line-same (lines.Old x) (lines.New j) h = absurd (cc)
line-same (lines.New i) (lines.Old y) h = absurd (cc)
line-same (lines.New i) (lines.New j) h = let e : i ≡ j = grind (arith, nat_tests, h) in ap lines.New e

pub made-known : (n made : ℕ) (a : NodeRef) → is_made_node n made a ≡ true → is_known_node n a ≡ true
made-known n made (nodes.Old x) h = h
made-known n made (nodes.New i) h = refl

pub made-known_line : (n made : ℕ) (a : LineRef) → is_made_line n made a ≡ true → is_known_line n a ≡ true
made-known_line n made (lines.Old x) h = h
made-known_line n made (lines.New i) h = refl

pub made-number : (n made : ℕ) (a : NodeRef) → is_made_node n made a ≡ true → node_number n a ≤ n + made
made-number n made (nodes.Old x) h = let e : x ≤ n = grind (arith, nat_tests, h) in omega (arith, e)
made-number n made (nodes.New i) h = let e : i < made = grind (arith, nat_tests, h) in omega (arith, e)

pub made-line_number : (n made : ℕ) (a : LineRef) → is_made_line n made a ≡ true → line_number n a ≤ n + made
made-line_number n made (lines.Old x) h = let e : x ≤ n = grind (arith, nat_tests, h) in omega (arith, e)
made-line_number n made (lines.New i) h = let e : i < made = grind (arith, nat_tests, h) in omega (arith, e)

pub made-more : (n made : ℕ) (a : NodeRef) → is_made_node n made a ≡ true → is_made_node n (made + 1) a ≡ true
made-more n made (nodes.Old x) h = h
made-more n made (nodes.New i) h = grind (arith, nat_tests, h)

pub made-more_line : (n made : ℕ) (a : LineRef) → is_made_line n made a ≡ true → is_made_line n (made + 1) a ≡ true
made-more_line n made (lines.Old x) h = h
made-more_line n made (lines.New i) h = grind (arith, nat_tests, h)

-- rows whose file gets other lines have the same nodes
pub rows-same : (ns : Numbers) (file : NodeRef) (f : List ViewLine → List ViewLine) (rows : List ViewRow) → map (row_by_number ns) (at_row file (with_lines_by f) rows) ≡ map (row_by_number ns) rows
rows-same ns file f [] = refl
rows-same ns file f (r ∷ rows) = at (same_node r.node file) (rows-same ns file f rows)
  where
    at : (b : Bool) → map (row_by_number ns) (at_row file (with_lines_by f) rows) ≡ map (row_by_number ns) rows
        → map (row_by_number ns) (cond b (with_lines_by f r ∷ rows) (r ∷ at_row file (with_lines_by f) rows)) ≡ map (row_by_number ns) (r ∷ rows)
    at true rest = refl
    at false rest = ap (λ l. row_by_number ns r ∷ l) rest

option_map-cond : {X Y : Type 0} (g : X → Y) (b : Bool) (x : X) (o : Option X) → option_map g (cond b (Some x) o) ≡ cond b (Some (g x)) (option_map g o)
option_map-cond g true x o = refl
option_map-cond g false x o = refl

module _ (ns : Numbers) (s : Seen) where
  -- the row of a reference that is known is the row of its number
  pub row-known : (node : NodeRef) (rows : List ViewRow) → is_known_node ns.nodes node ≡ true → AllByRecursion (IsMade ns s) rows
      → option_map (row_by_number ns) (row_at rows node) ≡ row_of (map (row_by_number ns) rows) (node_number ns.nodes node)
  row-known node [] known made = refl
  row-known node (r ∷ rows) known made =
      let own = (and_parts (is_made_node ns.nodes s.nodes_made r.node) (is_made_node ns.nodes s.nodes_made r.parent) made.0.0).0 in
      option_map-cond (row_by_number ns) (same_node r.node node) r (row_at rows node)
      ∙ ap (λ b. cond b (Some (row_by_number ns r)) (option_map (row_by_number ns) (row_at rows node))) (same-node ns.nodes s.nodes_made r.node node own known)
      ∙ ap (λ o. cond (nat_eq (node_number ns.nodes r.node) (node_number ns.nodes node)) (Some (row_by_number ns r)) o) (row-known node rows known made.1)

  pub row-unknown : (node : NodeRef) (rows : List ViewRow) → is_known_node ns.nodes node ≡ false → AllByRecursion (IsMade ns s) rows → row_at rows node ≡ None
  row-unknown node [] unknown made = refl
  row-unknown node (r ∷ rows) unknown made =
      let own = (and_parts (is_made_node ns.nodes s.nodes_made r.node) (is_made_node ns.nodes s.nodes_made r.parent) made.0.0).0 in
      ap (λ b. cond b (Some r) (row_at rows node)) (other-node ns.nodes s.nodes_made r.node node own unknown) ∙ row-unknown node rows unknown made.1

  -- whether a directory has a name, by references and by numbers
  pub child-known : (dir : NodeRef) (name : List ℕ) (rows : List ViewRow) → is_known_node ns.nodes dir ≡ true → AllByRecursion (IsMade ns s) rows
      → has_name (map (row_by_number ns) rows) (node_number ns.nodes dir) name ≡ has_child rows dir name
  child-known dir name [] known made = refl
  child-known dir name (r ∷ rows) known made =
      let own = (and_parts (is_made_node ns.nodes s.nodes_made r.node) (is_made_node ns.nodes s.nodes_made r.parent) made.0.0).1 in
      ap (λ b. (b && bytes_eq r.name name) || has_name (map (row_by_number ns) rows) (node_number ns.nodes dir) name) (sym (same-node ns.nodes s.nodes_made r.parent dir own known))
      ∙ ap (λ b. (same_node r.parent dir && bytes_eq r.name name) || b) (child-known dir name rows known made.1)

any-row : (rows : List Row) (n : ℕ) → list_any (λ r. nat_eq r.node n) rows ≡ is_some (row_of rows n)
any-row [] n = refl
any-row (r ∷ rows) n = at (nat_eq r.node n) (any-row rows n)
  where
    at : (b : Bool) → list_any (λ q. nat_eq q.node n) rows ≡ is_some (row_of rows n) → (b || list_any (λ q. nat_eq q.node n) rows) ≡ is_some (cond b (Some r) (row_of rows n))
    at true rest = refl
    at false rest = rest

not_zero : (rows : List Row) (n : ℕ) → (n ≡ 0 → ⊥) → is_dir rows n ≡ row_is_dir (row_of rows n)
not_zero rows zero h = absurd (h refl)
not_zero rows (suc n) h = refl

module _ (ns : Numbers) (s : Seen) (rows : List ViewRow) (made : AllByRecursion (IsMade ns s) rows) where
  pub below_root : (node : NodeRef) → is_root node ≡ false → node_number ns.nodes node ≡ 0 → ⊥
  below_root (nodes.Old zero) root e = absurd (cc)
  below_root (nodes.Old (suc x)) root e = omega (arith, e)
  below_root (nodes.New i) root e = omega (arith, e)

  pub kind_below : (node : NodeRef) → is_root node ≡ false → kind_in rows node ≡ option_map (λ (r : ViewRow). r.kind) (row_at rows node)
  kind_below node root = ap (λ b. cond b (Some kinds.Dir) (option_map (λ (r : ViewRow). r.kind) (row_at rows node))) root

  there_below : (node : NodeRef) → is_root node ≡ false
      → (is_known_node ns.nodes node && is_present (map (row_by_number ns) rows) (node_number ns.nodes node)) ≡ is_some (kind_in rows node)
  there_below node root = at (is_known_node ns.nodes node) refl ∙ sym (ap is_some (kind_below node root) ∙ is_some-map (λ (r : ViewRow). r.kind) (row_at rows node))
    where
      at : (b : Bool) → is_known_node ns.nodes node ≡ b → (b && is_present (map (row_by_number ns) rows) (node_number ns.nodes node)) ≡ is_some (row_at rows node)
      at true known =
          let no_root : nat_eq (node_number ns.nodes node) 0 ≡ false = (let z = below_root node root in grind (arith, nat_tests, z)) in
          ap (λ b. b || list_any (λ (r : Row). nat_eq r.node (node_number ns.nodes node)) (map (row_by_number ns) rows)) no_root
          ∙ any-row (map (row_by_number ns) rows) (node_number ns.nodes node)
          ∙ ap is_some (sym (row-known ns s node rows known made))
          ∙ is_some-map (row_by_number ns) (row_at rows node)
      at false unknown = sym (ap is_some (row-unknown ns s node rows unknown made))

  there_root : (node : NodeRef) → is_root node ≡ true
      → (is_known_node ns.nodes node && is_present (map (row_by_number ns) rows) (node_number ns.nodes node)) ≡ is_some (kind_in rows node)
  there_root (nodes.Old zero) root = let e : nat_le 0 ns.nodes ≡ true = grind (arith, nat_tests) in ap (λ b. b && true) e
  there_root (nodes.Old (suc x)) root = absurd (cc)
  there_root (nodes.New i) root = absurd (cc)

  -- a node is there by its number where it is there by reference
  pub there : (node : NodeRef) → (is_known_node ns.nodes node && is_present (map (row_by_number ns) rows) (node_number ns.nodes node)) ≡ is_some (kind_in rows node)
  there node = at (is_root node) refl
    where
      at : (b : Bool) → is_root node ≡ b → (is_known_node ns.nodes node && is_present (map (row_by_number ns) rows) (node_number ns.nodes node)) ≡ is_some (kind_in rows node)
      at true root = there_root node root
      at false root = there_below node root

  -- what is there is known
  pub there-known : (node : NodeRef) → is_some (kind_in rows node) ≡ true → is_known_node ns.nodes node ≡ true
  there-known node h = (and_parts (is_known_node ns.nodes node) (is_present (map (row_by_number ns) rows) (node_number ns.nodes node)) (there node ∙ h)).0

  dir_root : (node : NodeRef) → is_root node ≡ true → is_dir (map (row_by_number ns) rows) (node_number ns.nodes node) ≡ kind_is_dir (kind_in rows node)
  dir_root (nodes.Old zero) root = refl
  dir_root (nodes.Old (suc x)) root = absurd (cc)
  dir_root (nodes.New i) root = absurd (cc)

  -- a node that is there is a directory by its number where it is one by reference
  pub dir : (node : NodeRef) → is_some (kind_in rows node) ≡ true → is_dir (map (row_by_number ns) rows) (node_number ns.nodes node) ≡ kind_is_dir (kind_in rows node)
  dir node h = at (is_root node) refl
    where
      of_row : (o : Option ViewRow) → row_is_dir (option_map (row_by_number ns) o) ≡ kind_is_dir (option_map (λ (r : ViewRow). r.kind) o)
      of_row None = refl
      of_row (Some r) = refl

      at : (b : Bool) → is_root node ≡ b → is_dir (map (row_by_number ns) rows) (node_number ns.nodes node) ≡ kind_is_dir (kind_in rows node)
      at true root = dir_root node root
      at false root =
          not_zero (map (row_by_number ns) rows) (node_number ns.nodes node) (below_root node root)
          ∙ ap row_is_dir (sym (row-known ns s node rows (there-known node h) made))
          ∙ of_row (row_at rows node)
          ∙ ap kind_is_dir (sym (kind_below node root))
