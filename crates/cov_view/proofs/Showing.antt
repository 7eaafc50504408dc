-- A view still shows its variant after an edit of both.
use Rattle.std.proofs.Common.{◌≡◌, ℕ, ◌+◌, ◌≤◌, Bool, true, false, cond, nat_eq, nat_lt, List, [], ◌∷◌, ◌++◌, map, refl, sym, ap, ◌∙◌, arith}
use Rattle.std.specs.List.{filter, AllByRecursion}
use Rattle.std.proofs.lemmas.Bool.Decides.{nat_tests}
use Rattle.std.proofs.lemmas.Bool.{and_from, and_parts}
use Rattle.std.proofs.lemmas.List.{map-append}
use Rattle.cov_base.specs.declared.number.Kind.{Kind}
use Rattle.cov_base.specs.declared.number.NodeRef.{NodeRef}
use Rattle.cov_base.specs.declared.number.NodeRef.TheVariants as nodes
use Rattle.cov_base.specs.Rows.{Row, Created}
use Rattle.cov_base.proofs.CallerLemmas.{all-map, all-append}
use Rattle.cov_edit.specs.declared.edit.Edit.TheVariants as edits
use Rattle.cov_edit.specs.Numbering.{Numbers, OnRows, node_number}
use Rattle.cov_edit.specs.Variant.{Variant, Line, edited}
use Rattle.cov_view.specs.References.{is_made_node}
use Rattle.cov_view.specs.Seen.{Seen, seen_after}
use Rattle.cov_view.specs.Views.{row_by_number, by_number, ShowsLines, IsMade, Shows}
use Rattle.cov_view.specs.declared.row.ViewRow.{ViewRow}
use Rattle.cov_view.proofs.Naming.{made-more}

filter-none : {X : Type 0} (p : X → Bool) (xs : List X) → AllByRecursion (λ x. p x ≡ false) xs → filter p xs ≡ []
filter-none p [] h = refl
filter-none p (x ∷ xs) h = ap (λ b. cond b (x ∷ filter p xs) (filter p xs)) h.0 ∙ filter-none p xs h.1

-- the row of a node that is made next
abbrev next_row : Seen → Kind → NodeRef → List ℕ → ViewRow
next_row s kind parent name = record { node = nodes.New s.nodes_made; kind = kind; parent = parent; name = name; lines = [] }

module _ (ns : Numbers) (table : List (List ℕ)) (s : Seen) (v : Variant) (shows : Shows ns table s v) (kind : Kind) (parent : NodeRef) (name : List ℕ) where
  -- after a node is made
  pub shows-new : is_made_node ns.nodes s.nodes_made parent ≡ true
      → Shows ns table (seen_after s (edits.New kind parent name)) (edited v (OnRows (Created (ns.nodes + s.nodes_made + 1) kind (node_number ns.nodes parent) name)))
  shows-new known = record {
    rows =
        ap (λ (rows : List Row). rows ++ (let r : Row = record { node = ns.nodes + s.nodes_made + 1; kind = kind; parent = node_number ns.nodes parent; name = name } in r) ∷ []) shows.rows
        ∙ ap (λ (n : ℕ). map (row_by_number ns) s.rows ++ (let r : Row = record { node = n; kind = kind; parent = node_number ns.nodes parent; name = name } in r) ∷ []) number
        ∙ sym (map-append (row_by_number ns) s.rows (next_row s kind parent name ∷ []));
    lines = all-append (ShowsLines ns v) s.rows (next_row s kind parent name ∷ []) shows.lines ((λ e. ap (map by_number) none), tt);
    made = all-append (IsMade ns (seen_after s (edits.New kind parent name))) s.rows (next_row s kind parent name ∷ [])
        (all-map (IsMade ns s) (IsMade ns (seen_after s (edits.New kind parent name))) (λ r h. (
          and_from (is_made_node ns.nodes (s.nodes_made + 1) r.node) (is_made_node ns.nodes (s.nodes_made + 1) r.parent)
              (made-more ns.nodes s.nodes_made r.node (and_parts (is_made_node ns.nodes s.nodes_made r.node) (is_made_node ns.nodes s.nodes_made r.parent) h.0).0)
              (made-more ns.nodes s.nodes_made r.parent (and_parts (is_made_node ns.nodes s.nodes_made r.node) (is_made_node ns.nodes s.nodes_made r.parent) h.0).1),
          h.1,
        )) s.rows shows.made)
        ((and_from (nat_lt s.nodes_made (s.nodes_made + 1)) (is_made_node ns.nodes (s.nodes_made + 1) parent) (grind (arith, nat_tests)) (made-more ns.nodes s.nodes_made parent known), tt), tt);
    in_order = shows.in_order;
    files = all-map (λ (l : Line). l.file ≤ ns.nodes + s.nodes_made) (λ l. l.file ≤ ns.nodes + (s.nodes_made + 1)) (λ l h. omega (arith, h)) v.lines shows.files;
    addresses = shows.addresses;
    counted = shows.counted;
  }
    where
      number : ns.nodes + s.nodes_made + 1 ≡ ns.nodes + 1 + s.nodes_made
      number = omega arith

      none : filter (λ (l : Line). nat_eq l.file (ns.nodes + 1 + s.nodes_made)) v.lines ≡ []
      none = filter-none (λ (l : Line). nat_eq l.file (ns.nodes + 1 + s.nodes_made)) v.lines
          (all-map (λ (l : Line). l.file ≤ ns.nodes + s.nodes_made) (λ l. nat_eq l.file (ns.nodes + 1 + s.nodes_made) ≡ false) (λ l h. grind (arith, nat_tests, h)) v.lines shows.files)
