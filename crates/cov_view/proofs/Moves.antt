-- A view still shows its variant after a node got another name or directory in both, or was taken out.
use Rattle.std.proofs.Common.{◌≡◌, ℕ, Bool, true, false, cond, not, nat_eq, List, [], ◌∷◌, map, refl, sym, ap, ◌∙◌}
use Rattle.std.specs.List.{filter, AllByRecursion}
use Rattle.std.proofs.lemmas.Bool.{and_from, and_parts, or_parts}
use Rattle.cov_base.proofs.CallerLemmas.{all-filter}
use Rattle.cov_base.specs.declared.number.NodeRef.{NodeRef}
use Rattle.cov_base.specs.Rows.{Row, Renamed, Moved, Removed}
use Rattle.cov_edit.specs.declared.edit.Edit.TheVariants as edits
use Rattle.cov_edit.specs.Numbering.{Numbers, OnRows, node_number}
use Rattle.cov_edit.specs.Variant.{Variant, edited}
use Rattle.cov_view.specs.References.{same_node, is_known_node, is_made_node}
use Rattle.cov_view.specs.Seen.{Seen, has_row, at_row, with_name_by, with_parent_by, without_node, seen_after, AreRows}
use Rattle.cov_view.specs.Views.{row_by_number, ShowsLines, IsMade, Shows}
use Rattle.cov_view.specs.declared.row.ViewRow.{ViewRow}
use Rattle.cov_view.proofs.Naming.{same-node, node-same}
use Rattle.cov_view.proofs.Standing.{stand-once, all-at_row}

module _ (ns : Numbers) (s : Seen) (node : NodeRef) (known : is_known_node ns.nodes node ≡ true) where
  own-node : (r : ViewRow) → IsMade ns s r → nat_eq (node_number ns.nodes r.node) (node_number ns.nodes node) ≡ same_node r.node node
  own-node r made =
      sym (same-node ns.nodes s.nodes_made r.node node (and_parts (is_made_node ns.nodes s.nodes_made r.node) (is_made_node ns.nodes s.nodes_made r.parent) made.0).0 known)

  module _ (f : ViewRow → ViewRow) (h : Row → Row) (same : (r : ViewRow) → row_by_number ns (f r) ≡ h (row_by_number ns r)) where
    -- a change of the row of a number
    abbrev changed_by : Row → Row
    changed_by r = cond (nat_eq r.node (node_number ns.nodes node)) (h r) r

    none-changed : (rows : List ViewRow) → has_row rows node ≡ false → AllByRecursion (IsMade ns s) rows → map changed_by (map (row_by_number ns) rows) ≡ map (row_by_number ns) rows
    none-changed [] apart made = refl
    none-changed (r ∷ rows) apart made =
        let parts = or_parts (same_node r.node node) (has_row rows node) apart in
        ap (λ b. cond b (h (row_by_number ns r)) (row_by_number ns r) ∷ map changed_by (map (row_by_number ns) rows)) (own-node r made.0 ∙ parts.0)
        ∙ ap (λ l. row_by_number ns r ∷ l) (none-changed rows parts.1 made.1)

    -- the row of a node changes where that of its number does
    pub rows-by_number : (k : ℕ) (rows : List ViewRow) → AreRows k rows → AllByRecursion (IsMade ns s) rows → map changed_by (map (row_by_number ns) rows) ≡ map (row_by_number ns) (at_row node f rows)
    rows-by_number k [] once made = refl
    rows-by_number k (r ∷ rows) once made =
        ap (λ b. cond b (h (row_by_number ns r)) (row_by_number ns r) ∷ map changed_by (map (row_by_number ns) rows)) (own-node r made.0)
        ∙ at (same_node r.node node) refl (rows-by_number k rows once.3 made.1)
      where
        at : (b : Bool) → same_node r.node node ≡ b → map changed_by (map (row_by_number ns) rows) ≡ map (row_by_number ns) (at_row node f rows)
            → (cond b (h (row_by_number ns r)) (row_by_number ns r) ∷ map changed_by (map (row_by_number ns) rows)) ≡ map (row_by_number ns) (cond b (f r ∷ rows) (r ∷ at_row node f rows))
        at true e rest =
            ap (λ x. x ∷ map changed_by (map (row_by_number ns) rows)) (sym (same r))
            ∙ ap (λ l. row_by_number ns (f r) ∷ l) (none-changed rows (ap (has_row rows) (sym (node-same r.node node e)) ∙ once.2) made.1)
        at false e rest = ap (λ l. row_by_number ns r ∷ l) rest

  -- the row of a node goes where that of its number does
  rows-without : (rows : List ViewRow) → AllByRecursion (IsMade ns s) rows
      → filter (λ r. not (nat_eq r.node (node_number ns.nodes node))) (map (row_by_number ns) rows) ≡ map (row_by_number ns) (without_node node rows)
  rows-without [] made = refl
  rows-without (r ∷ rows) made =
      ap (λ b. cond (not b) (row_by_number ns r ∷ filter (λ q. not (nat_eq q.node (node_number ns.nodes node))) (map (row_by_number ns) rows)) (filter (λ q. not (nat_eq q.node (node_number ns.nodes node))) (map (row_by_number ns) rows)))
      (own-node r made.0)
      ∙ at (same_node r.node node) (rows-without rows made.1)
    where
      at : (b : Bool) → filter (λ q. not (nat_eq q.node (node_number ns.nodes node))) (map (row_by_number ns) rows) ≡ map (row_by_number ns) (without_node node rows)
          → cond (not b) (row_by_number ns r ∷ filter (λ q. not (nat_eq q.node (node_number ns.nodes node))) (map (row_by_number ns) rows)) (filter (λ q. not (nat_eq q.node (node_number ns.nodes node))) (map (row_by_number ns) rows))
          ≡ map (row_by_number ns) (cond (not b) (r ∷ without_node node rows) (without_node node rows))
      at true rest = rest
      at false rest = ap (λ l. row_by_number ns r ∷ l) rest

module _ (ns : Numbers) (table : List (List ℕ)) (s : Seen) (v : Variant) (shows : Shows ns table s v) (node : NodeRef) (known : is_known_node ns.nodes node ≡ true) (once : AreRows s.nodes_made s.rows) where
  -- after a node got another name
  pub shows-rename : (name : List ℕ) → Shows ns table (seen_after s (edits.Rename node name)) (edited v (OnRows (Renamed (node_number ns.nodes node) name)))
  shows-rename name = record {
    rows = ap (map (changed_by ns s node known (with_name_by name) named same)) shows.rows ∙ rows-by_number ns s node known (with_name_by name) named same s.nodes_made s.rows once shows.made;
    lines = all-at_row (ShowsLines ns v) (ShowsLines ns v) node (with_name_by name) (λ r e h. h) (λ r e h. h) s.rows (stand-once s.nodes_made s.rows once) shows.lines;
    made = all-at_row (IsMade ns s) (IsMade ns s) node (with_name_by name) (λ r e h. h) (λ r e h. h) s.rows (stand-once s.nodes_made s.rows once) shows.made;
    in_order = shows.in_order;
    files = shows.files;
    addresses = shows.addresses;
    counted = shows.counted;
  }
    where
      named : Row → Row
      named r = record { node = r.node; kind = r.kind; parent = r.parent; name = name }

      same : (r : ViewRow) → row_by_number ns (with_name_by name r) ≡ named (row_by_number ns r)
      same r = refl

  -- after a node got another directory
  pub shows-move : (parent : NodeRef) → is_made_node ns.nodes s.nodes_made parent ≡ true
      → Shows ns table (seen_after s (edits.Move node parent)) (edited v (OnRows (Moved (node_number ns.nodes node) (node_number ns.nodes parent))))
  shows-move parent parent_made = record {
    rows = ap (map (changed_by ns s node known (with_parent_by parent) below same)) shows.rows ∙ rows-by_number ns s node known (with_parent_by parent) below same s.nodes_made s.rows once shows.made;
    lines = all-at_row (ShowsLines ns v) (ShowsLines ns v) node (with_parent_by parent) (λ r e h. h) (λ r e h. h) s.rows (stand-once s.nodes_made s.rows once) shows.lines;
    made = all-at_row (IsMade ns s) (IsMade ns s) node (with_parent_by parent)
        (λ r e h. (
          and_from (is_made_node ns.nodes s.nodes_made r.node) (is_made_node ns.nodes s.nodes_made parent)
              (and_parts (is_made_node ns.nodes s.nodes_made r.node) (is_made_node ns.nodes s.nodes_made r.parent) h.0).0 parent_made,
          h.1,
        ))
        (λ r e h. h) s.rows (stand-once s.nodes_made s.rows once) shows.made;
    in_order = shows.in_order;
    files = shows.files;
    addresses = shows.addresses;
    counted = shows.counted;
  }
    where
      below : Row → Row
      below r = record { node = r.node; kind = r.kind; parent = node_number ns.nodes parent; name = r.name }

      same : (r : ViewRow) → row_by_number ns (with_parent_by parent r) ≡ below (row_by_number ns r)
      same r = refl

  -- after a node was taken out
  pub shows-remove : Shows ns table (seen_after s (edits.Remove node)) (edited v (OnRows (Removed (node_number ns.nodes node))))
  shows-remove = record {
    rows = ap (filter (λ r. not (nat_eq r.node (node_number ns.nodes node)))) shows.rows ∙ rows-without ns s node known s.rows shows.made;
    lines = all-filter (ShowsLines ns v) (λ r. not (same_node r.node node)) s.rows shows.lines;
    made = all-filter (IsMade ns s) (λ r. not (same_node r.node node)) s.rows shows.made;
    in_order = shows.in_order;
    files = shows.files;
    addresses = shows.addresses;
    counted = shows.counted;
  }
