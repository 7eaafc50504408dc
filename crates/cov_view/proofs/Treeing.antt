-- The tree of a view is that of each variant that it shows.
use Rattle.std.proofs.Common.{◌≡◌, ℕ, zero, suc, ◌+◌, ◌≤◌, true, false, ◌||◌, nat_eq, Ordering, Less, Equal, Greater, List, [], ◌∷◌, ◌++◌, length, map, Option, Some, None, option_map, refl, sym, ap, ◌∙◌, subst, arith}
use Rattle.std.specs.List.{flat_map, AllByRecursion}
use Rattle.std.specs.Cmp.Lexicographic.{slice_cmp}
use Rattle.std.specs.Ordering.{nat_cmp, match_ordering}
use Rattle.std.proofs.lemmas.Bool.{and_parts, or_from}
use Rattle.std.proofs.lemmas.Bool.Decides.{nat_tests}
use Rattle.std.proofs.lemmas.List.{length-map}
use Rattle.cov_base.specs.declared.number.Kind.{Kind}
use Rattle.cov_base.specs.declared.number.Kind.TheVariants.{File, Dir}
use Rattle.cov_base.specs.declared.number.NodeRef.{NodeRef}
use Rattle.cov_base.specs.Faults.{fault_of}
use Rattle.cov_base.specs.Rows.{Row, row_of, has_node, AreDistinct, AreOnce}
use Rattle.cov_edit.specs.Numbering.{Numbers, node_number}
use Rattle.cov_edit.specs.Variant.{Variant, Line, lines_of}
use Rattle.cov_view.specs.References.{is_known_node, is_made_node, is_dir_kind}
use Rattle.cov_view.specs.Seen.{Seen, row_at, has_row, AreRows}
use Rattle.cov_view.specs.Views.{row_by_number, line_by_number, by_number, ShowsLines, IsMade, Shows}
use Rattle.cov_view.specs.SeenTree.{climbed_by, path_by, ended_lines, file_bytes, tree_row, with_view_rows, tree_in, AreNamed}
use Rattle.cov_view.specs.Tree.{joined, climbed, path_to, bytes_of, row_of_tree, with_tree_row, with_tree_rows, tree_of, AreSpelt, IsTreeOf}
use Rattle.cov_view.specs.declared.line.ViewLine.{ViewLine}
use Rattle.cov_view.specs.declared.row.ViewRow.{ViewRow}
use Rattle.cov_view.specs.declared.tree.TreeRow.{TreeRow}
use Rattle.cov_view.proofs.Naming.{below_root, made-known, row-known, same-node}
use Rattle.cov_view.proofs.Refusing.{found}
use Rattle.cov_view.proofs.WholeTree.{tree_whole}

-- the bytes of lines by their numbers and texts
ended-lines : (ns : Numbers) (ls : List ViewLine) → flat_map (λ p. p.1 ++ 10 ∷ []) (map (line_by_number ns) ls) ≡ ended_lines ls
ended-lines ns [] = refl
ended-lines ns (l ∷ ls) = ap (λ x. (l.text ++ 10 ∷ []) ++ x) (ended-lines ns ls)

ended-numbers : (ls : List Line) → flat_map (λ p. p.1 ++ 10 ∷ []) (map by_number ls) ≡ flat_map (λ l. l.text ++ 10 ∷ []) ls
ended-numbers [] = refl
ended-numbers (l ∷ ls) = ap (λ x. (l.text ++ 10 ∷ []) ++ x) (ended-numbers ls)

module _ (ns : Numbers) (table : List (List ℕ)) (s : Seen) (v : Variant) (shows : Shows ns table s v) where
  path-shown : (k : ℕ) (node : NodeRef) (path : List ℕ) → is_made_node ns.nodes s.nodes_made node ≡ true → path_by s.rows k node path ≡ path_to v.rows k (node_number ns.nodes node) path
  path-shown zero node path made = refl
  path-shown (suc k) node path made =
      by (row_at s.rows node) refl (path-shown k)
      ∙ ap (λ o. climbed o (path_to v.rows k) path) (row-known ns s node s.rows (made-known ns.nodes s.nodes_made node made) shows.made ∙ ap (λ rows. row_of rows (node_number ns.nodes node)) (sym shows.rows))
    where
      by : (o : Option ViewRow) → row_at s.rows node ≡ o
          → ((node : NodeRef) (path : List ℕ) → is_made_node ns.nodes s.nodes_made node ≡ true → path_by s.rows k node path ≡ path_to v.rows k (node_number ns.nodes node) path)
          → climbed_by o (path_by s.rows k) path ≡ climbed (option_map (row_by_number ns) o) (path_to v.rows k) path
      by None at rec = refl
      by (Some r) at rec =
          let own = found (IsMade ns s) s.rows node r shows.made at in
          rec r.parent (joined r.name path) (and_parts (is_made_node ns.nodes s.nodes_made r.node) (is_made_node ns.nodes s.nodes_made r.parent) own.0.0).1

  bytes-shown : (r : ViewRow) (k : Kind) → r.kind ≡ k → ShowsLines ns v r → file_bytes k r.lines ≡ bytes_of k (lines_of v (node_number ns.nodes r.node))
  bytes-shown r Dir is lines = refl
  bytes-shown r File is lines =
      sym (ended-lines ns r.lines) ∙ ap (λ ps. flat_map (λ p. p.1 ++ 10 ∷ []) ps) (sym (lines (ap is_dir_kind is))) ∙ ended-numbers (lines_of v (node_number ns.nodes r.node))

  row-in-tree : (r : ViewRow) → IsMade ns s r → ShowsLines ns v r → tree_row s.rows r ≡ row_of_tree v (row_by_number ns r)
  row-in-tree r made lines =
      let path = path-shown (length s.rows) r.node [] (and_parts (is_made_node ns.nodes s.nodes_made r.node) (is_made_node ns.nodes s.nodes_made r.parent) made.0).0 in
      let steps : length s.rows ≡ length v.rows = sym (length-map s.rows (row_by_number ns)) ∙ ap length (sym shows.rows) in
      let whole : path_by s.rows (length s.rows) r.node [] ≡ path_to v.rows (length v.rows) (node_number ns.nodes r.node) [] = path ∙ ap (λ n. path_to v.rows n (node_number ns.nodes r.node) []) steps in
      (λ j. record { path = whole j; kind = r.kind; bytes = bytes-shown r r.kind refl lines j })

  rows-in-tree : (rs : List ViewRow) (done : List TreeRow) → AllByRecursion (IsMade ns s) rs → AllByRecursion (ShowsLines ns v) rs
      → with_view_rows s.rows rs done ≡ with_tree_rows v (map (row_by_number ns) rs) done
  rows-in-tree [] done made lines = refl
  rows-in-tree (r ∷ rs) done made lines =
      ap (λ e. with_view_rows s.rows rs (with_tree_row e done)) (row-in-tree r made.0 lines.0)
      ∙ rows-in-tree rs (with_tree_row (row_of_tree v (row_by_number ns r)) done) made.1 lines.1

  pub tree_shown : tree_in s.rows ≡ tree_of v
  tree_shown = rows-in-tree s.rows [] shows.made shows.lines ∙ ap (λ rs. with_tree_rows v rs []) (sym shows.rows)

-- the rows of a variant that is shown stand once, and none is the root's
module _ (ns : Numbers) (s : Seen) where
  has-number : (node : NodeRef) (rs : List ViewRow) → is_known_node ns.nodes node ≡ true → AllByRecursion (IsMade ns s) rs
      → has_row rs node ≡ has_node (node_number ns.nodes node) (map (λ r. r.node) (map (row_by_number ns) rs))
  has-number node [] known made = refl
  has-number node (q ∷ rs) known made =
      let own = (and_parts (is_made_node ns.nodes s.nodes_made q.node) (is_made_node ns.nodes s.nodes_made q.parent) made.0.0).0 in
      λ j. same-node ns.nodes s.nodes_made q.node node own known j || has-number node rs known made.1 j

  distinct-shown : (made : ℕ) (rs : List ViewRow) → AreRows made rs → AllByRecursion (IsMade ns s) rs → AreDistinct (map (λ r. r.node) (map (row_by_number ns) rs))
  distinct-shown made [] once shown = tt
  distinct-shown made (r ∷ rs) once shown =
      let own = (and_parts (is_made_node ns.nodes s.nodes_made r.node) (is_made_node ns.nodes s.nodes_made r.parent) shown.0.0).0 in
      (sym (has-number r.node rs (made-known ns.nodes s.nodes_made r.node own) shown.1) ∙ once.2, distinct-shown made rs once.3 shown.1)

  root-shown : (made : ℕ) (rs : List ViewRow) → AreRows made rs → AllByRecursion (IsMade ns s) rs → has_node 0 (map (λ r. r.node) (map (row_by_number ns) rs)) ≡ false
  root-shown made [] once shown = refl
  root-shown made (r ∷ rs) once shown =
      let apart : nat_eq (node_number ns.nodes r.node) 0 ≡ false = (let z = below_root ns s (r ∷ rs) shown r.node once.0 in grind (arith, nat_tests, z)) in
      or_from (nat_eq (node_number ns.nodes r.node) 0) (has_node 0 (map (λ (q : Row). q.node) (map (row_by_number ns) rs))) apart (root-shown made rs once.3 shown.1)

pub once-shown : (ns : Numbers) (table : List (List ℕ)) (s : Seen) (v : Variant) → Shows ns table s v → AreRows s.nodes_made s.rows → AreOnce v.rows
once-shown ns table s v shows once =
    subst AreOnce (sym shows.rows) (root-shown ns s s.nodes_made s.rows once shows.made, distinct-shown ns s s.nodes_made s.rows once shows.made)

spelt-shown : (ns : Numbers) (rs : List ViewRow) → AreNamed rs → AreSpelt (map (row_by_number ns) rs)
spelt-shown ns [] h = tt
spelt-shown ns (r ∷ rs) h = (h.0, spelt-shown ns rs h.1)

-- the tree of a view that shows a sound variant has one row of each of its nodes
pub whole-shown : (ns : Numbers) (table : List (List ℕ)) (s : Seen) (v : Variant) → Shows ns table s v → AreRows s.nodes_made s.rows → AreNamed s.rows → fault_of v.rows ≡ None → IsTreeOf v (tree_in s.rows)
whole-shown ns table s v shows once named sound =
    subst (IsTreeOf v) (sym (tree_shown ns table s v shows))
    (tree_whole v (once-shown ns table s v shows once) (subst AreSpelt (sym shows.rows) (spelt-shown ns s.rows named)) sound)

-- a tree has no more rows than its variant
length-with : (e : TreeRow) (done : List TreeRow) → length (with_tree_row e done) ≤ suc (length done)
length-with e [] = omega arith
length-with e (f ∷ fs) = by (slice_cmp nat_cmp e.path f.path) (length-with e fs)
  where
    by : (o : Ordering) → length (with_tree_row e fs) ≤ suc (length fs)
        → length (match_ordering o (e ∷ f ∷ fs) (record { path = f.path; kind = e.kind; bytes = e.bytes } ∷ fs) (f ∷ with_tree_row e fs)) ≤ suc (suc (length fs))
    by Less rec = omega arith
    by Equal rec = omega arith
    by Greater rec = omega (arith, rec)

length-rows : (v : Variant) (rs : List Row) (done : List TreeRow) → length (with_tree_rows v rs done) ≤ length rs + length done
length-rows v [] done = omega arith
length-rows v (r ∷ rs) done =
    let rest = length-rows v rs (with_tree_row (row_of_tree v r) done) in
    let more = length-with (row_of_tree v r) done in
    omega (arith, rest, more)

pub length-tree : (v : Variant) → length (tree_of v) ≤ length v.rows
length-tree v = let most = length-rows v v.rows [] in omega (arith, most)
