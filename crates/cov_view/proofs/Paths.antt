-- The way of a path.
use Rattle.std.proofs.Common.{◌≡◌, ℕ, zero, suc, ◌+◌, ◌<◌, ◌≤◌, List, [], ◌∷◌, length, get_or, drop, Some, None, refl, ap, ◌∙◌, arith}
use Rattle.cov_base.specs.declared.number.NodeRef.{NodeRef}
use Rattle.cov_view.specs.Seen.{child_in, from_node, node_at}
use Rattle.cov_view.specs.declared.row.ViewRow.{ViewRow}

at_name : (rows : List ViewRow) (node : NodeRef) (names : List (List ℕ)) (i : ℕ) (d : List ℕ) → i < length names
    → node_at rows node (drop i names) ≡ from_node (child_in rows node (get_or names i d)) (λ child. node_at rows child (drop (i + 1) names))
at_name rows node [] i d h = absurd (omega (arith, h))
at_name rows node (name ∷ names) zero d h = refl
at_name rows node (name ∷ names) (suc i) d h =
    let more : suc (i + 1) ≡ suc i + 1 = omega arith in
    at_name rows node names i d (omega (arith, h))
    ∙ ap (λ k. from_node (child_in rows node (get_or names i d)) (λ child. node_at rows child (drop k (name ∷ names)))) more

-- a name that is there leads on
pub name_found : (rows : List ViewRow) (node child : NodeRef) (names : List (List ℕ)) (i : ℕ) (d : List ℕ) → i < length names → child_in rows node (get_or names i d) ≡ Some child
    → node_at rows node (drop i names) ≡ node_at rows child (drop (i + 1) names)
name_found rows node child names i d h found = at_name rows node names i d h ∙ ap (λ o. from_node o (λ c. node_at rows c (drop (i + 1) names))) found

-- a name that isn't there ends the way
pub name_missing : (rows : List ViewRow) (node : NodeRef) (names : List (List ℕ)) (i : ℕ) (d : List ℕ) → i < length names → child_in rows node (get_or names i d) ≡ None
    → node_at rows node (drop i names) ≡ None
name_missing rows node names i d h missing = at_name rows node names i d h ∙ ap (λ o. from_node o (λ c. node_at rows c (drop (i + 1) names))) missing

pub names_done : (rows : List ViewRow) (node : NodeRef) (names : List (List ℕ)) (i : ℕ) → length names ≤ i → node_at rows node (drop i names) ≡ Some node
names_done rows node [] zero h = refl
names_done rows node [] (suc i) h = refl
names_done rows node (name ∷ names) zero h = absurd (omega (arith, h))
names_done rows node (name ∷ names) (suc i) h = names_done rows node names i (omega (arith, h))
