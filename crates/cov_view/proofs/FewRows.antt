-- A tree has no more rows than nodes were made.
use Rattle.std.proofs.Common.{◌≡◌, ℕ, suc, ◌<◌, ◌≤◌, Bool, true, false, ◌||◌, nat_eq, List, [], ◌∷◌, length, map, refl, arith, ◌∙◌}
use Rattle.std.specs.List.{list_any, AllByRecursion, IsDistinct}
use Rattle.std.proofs.Math.Dec.{eqb}
use Rattle.std.proofs.lemmas.Bool.{or_parts}
use Rattle.std.proofs.lemmas.Bool.Decides.{nat_tests}
use Rattle.std.proofs.lemmas.List.{length-map}
use Rattle.std.proofs.lemmas.Map.Steps.{length-le_from_distinct_below}
use Rattle.cov_base.specs.Rows.{Row, has_node, AreDistinct, AreOnce}
use Rattle.cov_base.proofs.CallerLemmas.{nat_eq-sym}
use Rattle.cov_edit.specs.Variant.{Variant}
use Rattle.cov_view.specs.Tree.{tree_of}
use Rattle.cov_view.proofs.Treeing.{length-tree}

apart : (x : ℕ) (xs : List ℕ) → has_node x xs ≡ false → AllByRecursion (λ y. eqb x y ≡ false) xs
apart x [] h = tt
apart x (y ∷ ys) h = let parts = or_parts (nat_eq y x) (has_node x ys) h in (nat_eq-sym x y ∙ parts.0, apart x ys parts.1)

distinct : (xs : List ℕ) → AreDistinct xs → IsDistinct eqb xs
unfolding IsDistinct
distinct [] once = tt
distinct (x ∷ xs) once = (apart x xs once.0, distinct xs once.1)

below : (n q : ℕ) (xs : List ℕ) → AllByRecursion (λ x. x ≤ n) xs → list_any (eqb q) xs ≡ true → q < suc n
below n q [] low met = absurd (cc)
below n q (x ∷ xs) low met = at (nat_eq q x) refl met (below n q xs low.1)
  where
    at : (b : Bool) → nat_eq q x ≡ b → (b || list_any (eqb q) xs) ≡ true → (list_any (eqb q) xs ≡ true → q < suc n) → q < suc n
    at true e met rest =
        let same : q ≡ x = grind (arith, nat_tests, e) in
        let least : x ≤ n = low.0 in
        omega (arith, same, least)
    at false e met rest = rest met

low_nodes : (n : ℕ) (rows : List Row) → AllByRecursion (λ r. r.node ≤ n) rows → AllByRecursion (λ x. x ≤ n) (map (λ r. r.node) rows)
low_nodes n [] low = tt
low_nodes n (r ∷ rows) low = (low.0, low_nodes n rows low.1)

-- rows of different nodes, none of them the root, are no more than the greatest number
few_rows : (n : ℕ) (rows : List Row) → AreOnce rows → AllByRecursion (λ r. r.node ≤ n) rows → length rows ≤ n
few_rows n rows once low =
    let most : suc (length (map (λ (r : Row). r.node) rows)) ≤ suc n =
    length-le_from_distinct_below (0 ∷ map (λ (r : Row). r.node) rows) (suc n) (distinct (0 ∷ map (λ (r : Row). r.node) rows) once)
    (λ q met. below n q (0 ∷ map (λ (r : Row). r.node) rows) (omega arith, low_nodes n rows low) met) in
    let same = length-map rows (λ (r : Row). r.node) in
    omega (arith, most, same)

pub few-tree : (n : ℕ) (v : Variant) → AreOnce v.rows → AllByRecursion (λ r. r.node ≤ n) v.rows → length (tree_of v) ≤ n
few-tree n v once low =
    let some = length-tree v in
    let few = few_rows n v.rows once low in
    omega (arith, some, few)
