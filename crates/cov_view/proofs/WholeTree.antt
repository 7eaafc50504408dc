-- The tree of a sound variant has one row of each node but the root, and their paths rise.
use Rattle.std.proofs.Common.{◌≡◌, ◌≢◌, ℕ, Bool, true, false, cond, ◌&&◌, ◌||◌, not, nat_eq, nat_lt, nat_le, List, [], ◌∷◌, ◌++◌, length, map, Option, Some, None, is_some, Ordering, Less, Equal, Greater, refl, sym, ap, ◌∙◌, subst, arith}
use Rattle.std.specs.List.{list_any, AllByRecursion}
use Rattle.std.specs.List.Sorted.{IsPermutation}
use Rattle.std.specs.Str.{bytes_eq, is_utf8}
use Rattle.std.specs.Ordering.{nat_cmp, match_ordering, ordering_reverse, is_eq}
use Rattle.std.specs.Cmp.Lexicographic.{slice_cmp}
use Rattle.std.proofs.lemmas.Bool.{and_parts, and_from, not-false, not-true, or_parts}
use Rattle.std.proofs.lemmas.Bool.Decides.{nat_tests}
use Rattle.std.proofs.lemmas.Cmp.{nat_list_cmp_total}
use Rattle.std.proofs.lemmas.List.{append-nil}
use Rattle.std.proofs.lemmas.List.Sorted.{IsPermutation-refl, IsPermutation-sym, IsPermutation-trans, IsPermutation-cons, IsPermutation-middle, IsPermutation-append_right}
use Rattle.std.proofs.lemmas.Map.Text.{is_eq-slice_cmp}
use Rattle.std.proofs.lemmas.Slice.Eq.{bytes_eq-Decides}
use Rattle.cov_base.specs.Faults.{is_reached, is_same_place, fault_of}
use Rattle.cov_base.specs.Reaching.{has_clash, has_lost}
use Rattle.cov_base.specs.Rows.{Row, row_of, has_node, AreDistinct, AreOnce}
use Rattle.cov_base.specs.Spelling.{is_outside_names, dot_names, is_name}
use Rattle.cov_base.specs.declared.limits.TheConstants.{MOST_NAME_BYTES}
use Rattle.cov_base.proofs.CallerLemmas.{faults_are_found, nat_eq-sym, same_place-sym}
use Rattle.cov_edit.specs.Variant.{Variant}
use Rattle.cov_view.specs.Laws.{TreeIsWhole}
use Rattle.cov_view.specs.Tree.{path_to, row_of_tree, with_tree_row, with_tree_rows, tree_of, AreSpelt, DoPathsRise, IsTreeOf}
use Rattle.cov_view.specs.declared.tree.TreeRow.{TreeRow}
use Rattle.cov_view.proofs.OnePath.{IsPart, one_path}

-- only equal paths compare as equal
same_path : (p q : List ℕ) → slice_cmp nat_cmp p q ≡ Equal → p ≡ q
same_path p q h = (bytes_eq-Decides p q).0 (sym (is_eq-slice_cmp p q) ∙ ap is_eq h)

-- what holds of the path of a row and of the others' holds of them all
all_with : (P : List ℕ → Type 0) (e : TreeRow) (done : List TreeRow) → P e.path → AllByRecursion (λ f. P f.path) done → AllByRecursion (λ f. P f.path) (with_tree_row e done)
all_with P e [] own h = (own, tt)
all_with P e (f ∷ fs) own h = by (slice_cmp nat_cmp e.path f.path) (all_with P e fs own h.1)
  where
    by : (o : Ordering) → AllByRecursion (λ f. P f.path) (with_tree_row e fs)
        → AllByRecursion (λ f. P f.path) (match_ordering o (e ∷ f ∷ fs) (record { path = f.path; kind = e.kind; bytes = e.bytes } ∷ fs) (f ∷ with_tree_row e fs))
    by Less rec = (own, h)
    by Equal rec = (h.0, h.1)
    by Greater rec = (h.0, rec)

-- a row with another path is one more
each_with : (e : TreeRow) (done : List TreeRow) → AllByRecursion (λ f. e.path ≢ f.path) done → IsPermutation (e ∷ done) (with_tree_row e done)
each_with e [] h = IsPermutation-refl (e ∷ [])
each_with e (f ∷ fs) h = by (slice_cmp nat_cmp e.path f.path) refl (each_with e fs h.1)
  where
    by : (o : Ordering) → slice_cmp nat_cmp e.path f.path ≡ o → IsPermutation (e ∷ fs) (with_tree_row e fs)
        → IsPermutation (e ∷ f ∷ fs) (match_ordering o (e ∷ f ∷ fs) (record { path = f.path; kind = e.kind; bytes = e.bytes } ∷ fs) (f ∷ with_tree_row e fs))
    by Less at rec = IsPermutation-refl (e ∷ f ∷ fs)
    by Equal at rec = absurd (h.0 (same_path e.path f.path at))
    by Greater at rec =
        IsPermutation-trans (e ∷ f ∷ fs) (f ∷ e ∷ fs) (f ∷ with_tree_row e fs) (IsPermutation-middle (e ∷ []) f fs) (IsPermutation-cons f (e ∷ fs) (with_tree_row e fs) rec)

-- and stands where paths rise
rising_with : (e : TreeRow) (done : List TreeRow) → AllByRecursion (λ f. e.path ≢ f.path) done → DoPathsRise done → DoPathsRise (with_tree_row e done)
rising_with e [] h up = (tt, tt)
rising_with e (f ∷ fs) h up = by (slice_cmp nat_cmp e.path f.path) refl (rising_with e fs h.1 up.1)
  where
    later : (gs : List TreeRow) → slice_cmp nat_cmp e.path f.path ≡ Less → AllByRecursion (λ g. slice_cmp nat_cmp f.path g.path ≡ Less) gs → AllByRecursion (λ g. slice_cmp nat_cmp e.path g.path ≡ Less) gs
    later [] at up = tt
    later (g ∷ gs) at up = (nat_list_cmp_total.trans e.path f.path g.path at up.0, later gs at up.1)

    by : (o : Ordering) → slice_cmp nat_cmp e.path f.path ≡ o → DoPathsRise (with_tree_row e fs)
        → DoPathsRise (match_ordering o (e ∷ f ∷ fs) (record { path = f.path; kind = e.kind; bytes = e.bytes } ∷ fs) (f ∷ with_tree_row e fs))
    by Less at rec = ((at, later fs at up.0), up)
    by Equal at rec = absurd (h.0 (same_path e.path f.path at))
    by Greater at rec =
        (all_with (λ p. slice_cmp nat_cmp f.path p ≡ Less) e fs (nat_list_cmp_total.antisymm f.path e.path ∙ ap ordering_reverse at) up.0, rec)

module _ (v : Variant) where
  abbrev own_path : Row → List ℕ
  own_path r = path_to v.rows (length v.rows) r.node []

  -- no two of the rows have one path
  abbrev ArePathsApart : List Row → Type 0
  ArePathsApart [] = Unit {0}
  ArePathsApart (r ∷ rs) = AllByRecursion (λ s. own_path s ≢ own_path r) rs × ArePathsApart rs

  -- no row has a path of those that are done
  abbrev AreNew : List Row → List TreeRow → Type 0
  AreNew rs done = AllByRecursion (λ s. AllByRecursion (λ f. own_path s ≢ f.path) done) rs

  more_apart : (r : Row) (done : List TreeRow) (rs : List Row) → AllByRecursion (λ s. own_path s ≢ own_path r) rs → AreNew rs done → AreNew rs (with_tree_row (row_of_tree v r) done)
  more_apart r done [] h k = tt
  more_apart r done (s ∷ rs) h k = (all_with (λ p. own_path s ≢ p) (row_of_tree v r) done h.0 k.0, more_apart r done rs h.1 k.1)

  all_rise : (rs : List Row) (done : List TreeRow) → ArePathsApart rs → AreNew rs done → DoPathsRise done → DoPathsRise (with_tree_rows v rs done)
  all_rise [] done apart new up = up
  all_rise (r ∷ rs) done apart new up =
      all_rise rs (with_tree_row (row_of_tree v r) done) apart.1 (more_apart r done rs apart.0 new.1) (rising_with (row_of_tree v r) done new.0 up)

  all_each : (rs : List Row) (done : List TreeRow) → ArePathsApart rs → AreNew rs done → IsPermutation (map (row_of_tree v) rs ++ done) (with_tree_rows v rs done)
  all_each [] done apart new = IsPermutation-refl done
  all_each (r ∷ rs) done apart new =
      IsPermutation-trans (row_of_tree v r ∷ (map (row_of_tree v) rs ++ done)) (map (row_of_tree v) rs ++ row_of_tree v r ∷ done) (with_tree_rows v (r ∷ rs) done)
      (IsPermutation-sym (map (row_of_tree v) rs ++ row_of_tree v r ∷ done) (row_of_tree v r ∷ (map (row_of_tree v) rs ++ done)) (IsPermutation-middle (map (row_of_tree v) rs) (row_of_tree v r) done))
      (IsPermutation-trans (map (row_of_tree v) rs ++ row_of_tree v r ∷ done) (map (row_of_tree v) rs ++ with_tree_row (row_of_tree v r) done) (with_tree_rows v (r ∷ rs) done)
      (IsPermutation-append_right (map (row_of_tree v) rs) (row_of_tree v r ∷ done) (with_tree_row (row_of_tree v r) done) (each_with (row_of_tree v r) done new.0))
      (all_each rs (with_tree_row (row_of_tree v r) done) apart.1 (more_apart r done rs apart.0 new.1)))

  none_done : (rs : List Row) → AreNew rs []
  none_done [] = tt
  none_done (r ∷ rs) = (tt, none_done rs)

  -- where paths differ, the tree has all rows
  tree_apart : ArePathsApart v.rows → IsTreeOf v (tree_of v)
  tree_apart apart = record {
    each = subst (λ l. IsPermutation l (tree_of v)) (append-nil (map (row_of_tree v) v.rows)) (all_each v.rows [] apart (none_done v.rows));
    rising = all_rise v.rows [] apart (none_done v.rows) tt;
  }

-- a byte that is no slash
no_slash : (name : List ℕ) → list_any is_outside_names name ≡ false → list_any (nat_eq 47) name ≡ false
no_slash [] h = refl
no_slash (b ∷ name) h =
    let parts = or_parts (is_outside_names b) (list_any is_outside_names name) h in
    let none : nat_eq b 47 ≡ false = (or_parts (nat_eq b 127) (nat_eq b 47) (or_parts (nat_lt b 33) (nat_eq b 127 || nat_eq b 47) parts.0).1).1 in
    λ j. (nat_eq-sym 47 b ∙ none) j || no_slash name parts.1 j

-- what is spelt as a name isn't empty and has no slash
part_of : (name : List ℕ) → is_name name ≡ true → IsPart name
part_of name h =
    let sides = and_parts (nat_le 1 (length name) && nat_le (length name) MOST_NAME_BYTES) (is_utf8 name && (not (list_any is_outside_names name) && not (list_any (bytes_eq name) dot_names))) h in
    let long : nat_le 1 (length name) ≡ true = (and_parts (nat_le 1 (length name)) (nat_le (length name) MOST_NAME_BYTES) sides.0).0 in
    let spelt = (and_parts (is_utf8 name) (not (list_any is_outside_names name) && not (list_any (bytes_eq name) dot_names)) sides.1).1 in
    record {
      some = grind (arith, nat_tests, long);
      plain = no_slash name (not-true (list_any is_outside_names name) (and_parts (not (list_any is_outside_names name)) (not (list_any (bytes_eq name) dot_names)) spelt).0);
    }

-- what all rows have has the row of a node
found_row : (P : Row → Type 0) (rows : List Row) (node : ℕ) (r : Row) → AllByRecursion P rows → row_of rows node ≡ Some r → P r
found_row P [] node r all at = absurd (cc)
found_row P (q ∷ rows) node r all at = by (nat_eq q.node node) at (found_row P rows node r all.1)
  where
    by : (b : Bool) → cond b (Some q) (row_of rows node) ≡ Some r → (row_of rows node ≡ Some r → P r) → P r
    by true at rest = let same : q ≡ r = cc in subst P same all.0
    by false at rest = rest at

-- a row that is found is the node's
own_node : (rows : List Row) (node : ℕ) (r : Row) → row_of rows node ≡ Some r → r.node ≡ node
own_node [] node r at = absurd (cc)
own_node (q ∷ rows) node r at = by (nat_eq q.node node) refl at (own_node rows node r)
  where
    by : (b : Bool) → nat_eq q.node node ≡ b → cond b (Some q) (row_of rows node) ≡ Some r → (row_of rows node ≡ Some r → r.node ≡ node) → r.node ≡ node
    by true e at rest =
        let same : q ≡ r = cc in
        let own : q.node ≡ node = grind (arith, nat_tests, e) in
        subst (λ (x : Row). x.node ≡ node) same own
    by false e at rest = rest at

-- and among the rows
any_found : (p : Row → Bool) (rows : List Row) (node : ℕ) (r : Row) → row_of rows node ≡ Some r → p r ≡ true → list_any p rows ≡ true
any_found p [] node r at h = absurd (cc)
any_found p (q ∷ rows) node r at h = by (nat_eq q.node node) at (λ k. any_found p rows node r k h)
  where
    later : (b c : Bool) → c ≡ true → (b || c) ≡ true
    later true c k = refl
    later false c k = k

    by : (b : Bool) → cond b (Some q) (row_of rows node) ≡ Some r → (row_of rows node ≡ Some r → list_any p rows ≡ true) → (p q || list_any p rows) ≡ true
    by true at rest = let same : q ≡ r = cc in let own : p q ≡ true = ap p same ∙ h in ap (λ b. b || list_any p rows) own
    by false at rest = later (p q) (list_any p rows) (rest at)

place_same : (r s : Row) → r.parent ≡ s.parent → r.name ≡ s.name → is_same_place r s ≡ true
place_same r s parent name =
    and_from (nat_eq r.parent s.parent) (bytes_eq r.name s.name) (grind (arith, nat_tests, parent)) ((bytes_eq-Decides r.name s.name).1 name)

-- without a clash, nodes of one place are one
one_place : (rows : List Row) → has_clash rows ≡ false → (a b : ℕ) (r s : Row) → row_of rows a ≡ Some r → row_of rows b ≡ Some s → r.parent ≡ s.parent → r.name ≡ s.name → a ≡ b
one_place [] h a b r s at to parent name = absurd (cc)
one_place (q ∷ rows) h a b r s at to parent name =
    let parts = or_parts (list_any (is_same_place q) rows) (has_clash rows) h in
    by (nat_eq q.node a) (nat_eq q.node b) refl refl at to parts.0 (λ i j. one_place rows parts.1 a b r s i j parent name)
  where
    both : is_same_place r s ≡ true
    both = place_same r s parent name

    by : (x y : Bool) → nat_eq q.node a ≡ x → nat_eq q.node b ≡ y → cond x (Some q) (row_of rows a) ≡ Some r → cond y (Some q) (row_of rows b) ≡ Some s → list_any (is_same_place q) rows ≡ false
        → (row_of rows a ≡ Some r → row_of rows b ≡ Some s → a ≡ b) → a ≡ b
    by true true e f at to none rest = grind (arith, nat_tests, e, f)
    by true false e f at to none rest =
        let same : q ≡ r = cc in
        let clash = any_found (is_same_place q) rows b s to (ap (λ (x : Row). is_same_place x s) same ∙ both) in
        absurd (cc)
    by false true e f at to none rest =
        let same : q ≡ s = cc in
        let clash = any_found (is_same_place q) rows a r at (ap (λ (x : Row). is_same_place x r) same ∙ same_place-sym s r ∙ both) in
        absurd (cc)
    by false false e f at to none rest = rest at to

-- nodes that each stand once are apart
abbrev AreNodesApart : List Row → Type 0
AreNodesApart [] = Unit {0}
AreNodesApart (r ∷ rs) = AllByRecursion (λ (s : Row). s.node ≢ r.node) rs × AreNodesApart rs

node_apart : (node : ℕ) (rs : List Row) → has_node node (map (λ r. r.node) rs) ≡ false → AllByRecursion (λ (s : Row). s.node ≢ node) rs
node_apart node [] h = tt
node_apart node (s ∷ rs) h =
    let parts = or_parts (nat_eq s.node node) (has_node node (map (λ (r : Row). r.node) rs)) h in
    let apart : nat_eq s.node node ≡ false = parts.0 in
    ((λ same. absurd (let met : nat_eq s.node node ≡ true = grind (arith, nat_tests, same) in cc)), node_apart node rs parts.1)

nodes_apart : (rs : List Row) → AreDistinct (map (λ r. r.node) rs) → AreNodesApart rs
nodes_apart [] once = tt
nodes_apart (r ∷ rs) once = (node_apart r.node rs once.0, nodes_apart rs once.1)

no_root : (rows : List Row) → has_node 0 (map (λ r. r.node) rows) ≡ false → row_of rows 0 ≡ None
no_root [] h = refl
no_root (r ∷ rows) h =
    let parts = or_parts (nat_eq r.node 0) (has_node 0 (map (λ (s : Row). s.node) rows)) h in
    ap (λ b. cond b (Some r) (row_of rows 0)) parts.0 ∙ no_root rows parts.1

none-some : {X : Type 0} (o : Option X) → o ≡ None → is_some o ≡ false
none-some None h = refl
none-some (Some x) h = absurd (cc)

-- of a sound variant
module _ (v : Variant) (once : AreOnce v.rows) (spelt : AreSpelt v.rows) (sound : fault_of v.rows ≡ None) where
  clash_or_lost : (has_clash v.rows || has_lost v.rows) ≡ false
  clash_or_lost = sym (faults_are_found v.rows once) ∙ none-some (fault_of v.rows) sound

  abbrev AreReached : List Row → Type 0
  AreReached rs = AllByRecursion (λ (r : Row). is_reached v.rows (length v.rows) r.node ≡ true) rs

  reached : (rs : List Row) → list_any (λ (r : Row). not (is_reached v.rows (length v.rows) r.node)) rs ≡ false → AreReached rs
  reached [] h = tt
  reached (r ∷ rs) h =
      let parts = or_parts (not (is_reached v.rows (length v.rows) r.node)) (list_any (λ (s : Row). not (is_reached v.rows (length v.rows) s.node)) rs) h in
      (not-false (is_reached v.rows (length v.rows) r.node) parts.0, reached rs parts.1)

  first_apart : (r : Row) (rs : List Row) → is_reached v.rows (length v.rows) r.node ≡ true → AllByRecursion (λ (s : Row). s.node ≢ r.node) rs → AreReached rs
      → AllByRecursion (λ s. own_path v s ≢ own_path v r) rs
  first_apart r [] own nodes reached = tt
  first_apart r (s ∷ rs) own nodes reached = (
    (λ same. nodes.0 (one_path v.rows (no_root v.rows once.0) (λ node q at. part_of q.name (found_row (λ x. is_name x.name ≡ true) v.rows node q spelt at))
        (one_place v.rows (or_parts (has_clash v.rows) (has_lost v.rows) clash_or_lost).0) (length v.rows) s.node r.node reached.0 own same)),
    first_apart r rs own nodes.1 reached.1,
  )

  paths_apart : (rs : List Row) → AreNodesApart rs → AreReached rs → ArePathsApart v rs
  paths_apart [] nodes reached = tt
  paths_apart (r ∷ rs) nodes reached = (first_apart r rs reached.0 nodes.0 reached.1, paths_apart rs nodes.1 reached.1)

  pub tree_whole : IsTreeOf v (tree_of v)
  tree_whole = tree_apart v (paths_apart v.rows (nodes_apart v.rows once.1) (reached v.rows (or_parts (has_clash v.rows) (has_lost v.rows) clash_or_lost).1))

pub tree_is_whole : TreeIsWhole
tree_is_whole v once spelt sound = tree_whole v once spelt sound
