-- Rows of nodes of a history, as views of them have them.
use Rattle.std.proofs.Common.{◌≡◌, refl, ap, sym, ◌∙◌, ℕ, zero, suc, true, false, ◌||◌, nat_eq, List, [], ◌∷◌, map, arith}
use Rattle.std.specs.List.{list_any}
use Rattle.std.proofs.lemmas.Bool.{or_parts}
use Rattle.std.proofs.lemmas.Bool.Decides.{nat_tests}
use Rattle.cov_base.specs.Rows.{Row, has_node, AreDistinct, AreOnce}
use Rattle.cov_base.specs.declared.number.NodeRef.TheVariants as nodes
use Rattle.cov_view.specs.References.{is_root}
use Rattle.cov_view.specs.Seen.{has_row, AreRows}
use Rattle.cov_view.specs.Shown.{bare_rows}

-- whether the row of a node is shown
pub has-bare : (node : ℕ) (rows : List Row) → has_row (bare_rows rows) (nodes.Old node) ≡ list_any (λ r. nat_eq r.node node) rows
has-bare node [] = refl
has-bare node (r ∷ rows) = ap (λ b. nat_eq r.node node || b) (has-bare node rows)

has-number : (node : ℕ) (rows : List Row) → has_row (bare_rows rows) (nodes.Old node) ≡ has_node node (map (λ (r : Row). r.node) rows)
has-number node [] = refl
has-number node (r ∷ rows) = ap (λ b. nat_eq r.node node || b) (has-number node rows)

-- whether a node is the root, by its number
pub root-number : (node : ℕ) → is_root (nodes.Old node) ≡ nat_eq node 0
root-number zero = let e : nat_eq 0 0 ≡ true = grind (arith, nat_tests) in sym e
root-number (suc x) = let e : nat_eq (suc x) 0 ≡ false = grind (arith, nat_tests) in sym e

no-root : (rows : List Row) → AreRows 0 (bare_rows rows) → has_node 0 (map (λ (r : Row). r.node) rows) ≡ false
no-root [] h = refl
no-root (r ∷ rows) h =
    ap (λ b. b || has_node 0 (map (λ (q : Row). q.node) rows)) (sym (root-number r.node) ∙ h.0) ∙ no-root rows h.3

distinct : (rows : List Row) → AreRows 0 (bare_rows rows) → AreDistinct (map (λ (r : Row). r.node) rows)
distinct [] h = tt
distinct (r ∷ rows) h = (sym (has-number r.node rows) ∙ h.2, distinct rows h.3)

-- rows that are shown are of different nodes but the root
pub once-bare : (rows : List Row) → AreRows 0 (bare_rows rows) → AreOnce rows
once-bare rows h = (no-root rows h, distinct rows h)

has-none : (node : ℕ) (rows : List Row) → has_node node (map (λ (r : Row). r.node) rows) ≡ false → has_row (bare_rows rows) (nodes.Old node) ≡ false
has-none node rows h = has-number node rows ∙ h

-- rows of different nodes but the root are those of a view, in which nothing is made
pub rows-bare : (rows : List Row) → AreOnce rows → AreRows 0 (bare_rows rows)
rows-bare [] h = tt
rows-bare (r ∷ rows) h =
    let parts = or_parts (nat_eq r.node 0) (has_node 0 (map (λ (q : Row). q.node) rows)) h.0 in
    (root-number r.node ∙ parts.0, refl, has-none r.node rows h.1.0, rows-bare rows (parts.1, h.1.1))
