-- Steps of the loops of a tree.
use Rattle.std.proofs.Common.{◌≡◌, ℕ, zero, suc, ◌-◌, ◌<◌, ◌≤◌, List, [], ◌∷◌, ◌++◌, length, map, get_or, Ordering, Less, Equal, Greater, Some, refl, sym, ap, ◌∙◌, subst, arith, append_assoc}
use Rattle.std.specs.List.{flat_map}
use Rattle.std.specs.Global.{Vec}
use Rattle.std.specs.Ordering.{nat_cmp, match_ordering}
use Rattle.std.specs.Cmp.Lexicographic.{slice_cmp}
use Rattle.std.specs.BTreeMap.{insert_entry}
use Rattle.cov_base.proofs.CallerLemmas.{rest_of, rest-is}
use Rattle.cov_base.specs.declared.number.NodeRef.{NodeRef}
use Rattle.cov_view.specs.Seen.{row_at}
use Rattle.cov_view.specs.SeenTree.{climbed_by, path_by, found_row}
use Rattle.cov_view.specs.Tree.{joined, row_bytes, with_tree_row}
use Rattle.cov_view.specs.declared.row.ViewRow.{ViewRow}
use Rattle.cov_view.specs.declared.tree.Content.{Content}
use Rattle.cov_view.specs.declared.tree.TreeRow.{TreeRow}

-- a hasher that holds what is done holds one row more
pub feed_more : (rows ahead : List TreeRow) (first d : TreeRow) (P Q R : List ℕ → Type 0) → first ≡ get_or ahead 0 d → 1 ≤ length ahead
    → ((m : List ℕ) → Q m → R (m ++ row_bytes first))
    → (done : List ℕ) × (done ++ flat_map row_bytes ahead ≡ flat_map row_bytes rows) × ((m : List ℕ) → P m → Q (m ++ done))
    → (done : List ℕ) × (done ++ flat_map row_bytes (rest_of ahead) ≡ flat_map row_bytes rows) × ((m : List ℕ) → P m → R (m ++ done))
feed_more rows [] first d P Q R is long step fed = absurd (omega (arith, long))
feed_more rows (e ∷ ahead) first d P Q R is long step fed = (
  fed.0 ++ row_bytes first,
  ap (λ l. (fed.0 ++ row_bytes first) ++ flat_map row_bytes l) (rest-is e ahead) ∙ append_assoc fed.0 (row_bytes first) (flat_map row_bytes ahead)
      ∙ ap (λ x. fed.0 ++ (row_bytes x ++ flat_map row_bytes ahead)) is ∙ fed.1,
  λ m held. subst R (append_assoc m fed.0 (row_bytes first)) (step (m ++ fed.0) (fed.2 m held)),
)

-- a step of the climb
pub climb_more : (rows : List ViewRow) (steps : ℕ) (node : NodeRef) (r : ViewRow) (name path more whole : List ℕ) → 0 < steps → row_at rows node ≡ Some r → name ≡ r.name → more ≡ joined name path
    → path_by rows steps node path ≡ whole → path_by rows (steps - 1) r.parent more ≡ whole
climb_more rows zero node r name path more whole h at named is path_is = absurd (omega (arith, h))
climb_more rows (suc s) node r name path more whole h at named is path_is =
    let one : suc s - 1 ≡ s = omega arith in
    ap (λ n. path_by rows n r.parent more) one
    ∙ ap (path_by rows s r.parent) (is ∙ ap (λ n. joined n path) named)
    ∙ ap (λ o. climbed_by o (path_by rows s) path) (sym at)
    ∙ path_is

-- a row put in its place in the map is put in its place in the list
pub put_more : (es : List (Vec ℕ × Content)) (k : Vec ℕ) (v : Content)
    → map found_row (insert_entry (λ x y. slice_cmp nat_cmp x.items y.items) es k v) ≡ with_tree_row (found_row (k, v)) (map found_row es)
put_more [] k v = refl
put_more (e ∷ es) k v = by (slice_cmp nat_cmp k.items e.0.items) (put_more es k v)
  where
    by : (o : Ordering) → map found_row (insert_entry (λ x y. slice_cmp nat_cmp x.items y.items) es k v) ≡ with_tree_row (found_row (k, v)) (map found_row es)
        → map found_row (match_ordering o ((k, v) ∷ e ∷ es) ((e.0, v) ∷ es) (e ∷ insert_entry (λ x y. slice_cmp nat_cmp x.items y.items) es k v))
        ≡ match_ordering o (found_row (k, v) ∷ found_row e ∷ map found_row es) (found_row (e.0, v) ∷ map found_row es) (found_row e ∷ with_tree_row (found_row (k, v)) (map found_row es))
    by Less rec = refl
    by Equal rec = refl
    by Greater rec = ap (λ l. found_row e ∷ l) rec
