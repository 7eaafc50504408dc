-- What is in a directory, row by row.
use Rattle.std.proofs.Common.{◌≡◌, ℕ, suc, ◌+◌, ◌<◌, ◌≤◌, Bool, true, false, cond, nat_eq, filter, List, [], ◌∷◌, ◌++◌, length, map, take, slice_index_or, refl, sym, ap, ◌∙◌, arith}
use Rattle.std.specs.List.{AllByRecursion}
use Rattle.std.proofs.Math.Seq.{take-suc}
use Rattle.std.proofs.lemmas.Bool.{and_parts}
use Rattle.std.proofs.lemmas.List.{map-append, take_all}
use Rattle.cov_base.specs.declared.number.NodeRef.{NodeRef}
use Rattle.cov_edit.specs.Numbering.{Numbers, node_number}
use Rattle.cov_view.specs.Listing.{dir_row, listed_row}
use Rattle.cov_view.specs.References.{same_node, is_known_node, is_made_node}
use Rattle.cov_view.specs.Seen.{Seen}
use Rattle.cov_view.specs.Views.{row_by_number, IsMade}
use Rattle.cov_view.specs.declared.row.ViewRow.{ViewRow}
use Rattle.cov_view.proofs.Naming.{same-node}

filter-append : (p : ViewRow → Bool) (xs ys : List ViewRow) → filter p (xs ++ ys) ≡ filter p xs ++ filter p ys
filter-append p [] ys = refl
filter-append p (x ∷ xs) ys = at (p x) (filter-append p xs ys)
  where
    at : (b : Bool) → filter p (xs ++ ys) ≡ filter p xs ++ filter p ys → cond b (x ∷ filter p (xs ++ ys)) (filter p (xs ++ ys)) ≡ cond b (x ∷ filter p xs) (filter p xs) ++ filter p ys
    at true rest = ap (λ l. x ∷ l) rest
    at false rest = rest

module _ (dir : NodeRef) (rows : List ViewRow) (i : ℕ) where
  -- one row more
  pub listed_more : (r : ViewRow) → i < length rows → r ≡ slice_index_or rows i r
      → map dir_row (filter (λ q. same_node q.parent dir) (take (i + 1) rows)) ≡ map dir_row (filter (λ q. same_node q.parent dir) (take i rows)) ++ map dir_row (filter (λ q. same_node q.parent dir) (r ∷ []))
  listed_more r below is =
      let one : i + 1 ≡ suc i = omega arith in
      let taken : take (i + 1) rows ≡ take i rows ++ r ∷ [] = ap (λ n. take n rows) one ∙ take-suc rows i r below ∙ ap (λ (q : ViewRow). take i rows ++ q ∷ []) (sym is) in
      ap (λ (l : List ViewRow). map dir_row (filter (λ q. same_node q.parent dir) l)) taken
      ∙ ap (map dir_row) (filter-append (λ q. same_node q.parent dir) (take i rows) (r ∷ []))
      ∙ map-append dir_row (filter (λ q. same_node q.parent dir) (take i rows)) (filter (λ q. same_node q.parent dir) (r ∷ []))

  -- all rows
  pub listed_all : length rows ≤ i → map dir_row (filter (λ q. same_node q.parent dir) (take i rows)) ≡ map dir_row (filter (λ q. same_node q.parent dir) rows)
  listed_all past = ap (λ (l : List ViewRow). map dir_row (filter (λ q. same_node q.parent dir) l)) (take_all i rows past)

-- the rows of a directory by references are those by numbers
pub listed-shown : (ns : Numbers) (s : Seen) (dir : NodeRef) (rows : List ViewRow) → is_known_node ns.nodes dir ≡ true → AllByRecursion (IsMade ns s) rows
    → map listed_row (filter (λ r. nat_eq r.parent (node_number ns.nodes dir)) (map (row_by_number ns) rows)) ≡ map dir_row (filter (λ r. same_node r.parent dir) rows)
listed-shown ns s dir [] known made = refl
listed-shown ns s dir (r ∷ rows) known made =
    let own = (and_parts (is_made_node ns.nodes s.nodes_made r.node) (is_made_node ns.nodes s.nodes_made r.parent) made.0.0).1 in
    ap (λ b. map listed_row (cond b (row_by_number ns r ∷ filter (λ q. nat_eq q.parent (node_number ns.nodes dir)) (map (row_by_number ns) rows)) (filter (λ q. nat_eq q.parent (node_number ns.nodes dir)) (map (row_by_number ns) rows))))
    (sym (same-node ns.nodes s.nodes_made r.parent dir own known))
    ∙ at (same_node r.parent dir) (listed-shown ns s dir rows known made.1)
  where
    at : (b : Bool) → map listed_row (filter (λ q. nat_eq q.parent (node_number ns.nodes dir)) (map (row_by_number ns) rows)) ≡ map dir_row (filter (λ q. same_node q.parent dir) rows)
        → map listed_row (cond b (row_by_number ns r ∷ filter (λ q. nat_eq q.parent (node_number ns.nodes dir)) (map (row_by_number ns) rows)) (filter (λ q. nat_eq q.parent (node_number ns.nodes dir)) (map (row_by_number ns) rows)))
        ≡ map dir_row (cond b (r ∷ filter (λ q. same_node q.parent dir) rows) (filter (λ q. same_node q.parent dir) rows))
    at true rest = ap (λ l. dir_row r ∷ l) rest
    at false rest = rest
