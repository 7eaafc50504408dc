-- The index of names in directories.
use Rattle.std.specs.Global.{Vec}
use Rattle.std.proofs.Common.{◌≡◌, ℕ, Bool, true, false, cond, ◌&&◌, not, List, [], ◌∷◌, ◌++◌, Option, Some, None, option_map, true≢false, refl, sym, ap, subst, ◌∙◌}
use Rattle.std.specs.Cmp.Lexicographic.{nat_list_eq_equiv, bytes_decides}
use Rattle.std.specs.List.{find, AllByRecursion}
use Rattle.std.specs.Map.{lookup, lookup_key, IsKeyTest, AreApart, KeepsOthers}
use Rattle.std.specs.Option.{option_or}
use Rattle.std.specs.Str.{bytes_eq}
use Rattle.std.proofs.lemmas.Bool.{and_parts}
use Rattle.cov_base.proofs.CallerLemmas.{all-append, all-both, all-map}
use Rattle.cov_base.specs.declared.number.NodeRef.{NodeRef}
use Rattle.cov_view.specs.Keys.{is_child_key, is_child, ChildNodes, indexed, is_row_of, AreChildren, IsIndex, RemovesName}
use Rattle.cov_view.specs.References.{same_node}
use Rattle.cov_view.specs.Seen.{row_at, has_row, child_in, at_row, without_node, StandOnce}
use Rattle.cov_view.specs.declared.children.ChildKey.{ChildKey}
use Rattle.cov_view.specs.declared.row.ViewRow.{ViewRow}
use Rattle.cov_view.proofs.Keys.{same_key, agrees}
use Rattle.cov_view.proofs.Naming.{node-same}
use Rattle.cov_view.proofs.Refusing.{found}
use Rattle.cov_view.proofs.Standing.{node-itself, has_row-changed, has_row-without, has_row-more, has_row-last, none-without, none-among, all-fresh, all-at_row, only-found, row-there, found-among, same_node-sym}

-- a key of the index
abbrev pub Key : Type 0
Key = ChildKey NodeRef (Vec ℕ)

-- whether a key is the one that is asked for
abbrev pub is_asked : NodeRef → List ℕ → Key → Bool
is_asked dir name key = same_key dir key.dir && bytes_eq name key.name.items

-- the key of a name in a directory is that which is asked for
pub asked : (dir : NodeRef) (name : List ℕ) → is_asked dir name ≡ is_child_key dir name
asked dir name i key = at key i
  where
    at : (key : Key) → is_asked dir name key ≡ is_child_key dir name key
    at key = λ j. agrees dir key.dir j && nat_list_eq_equiv.symm name key.name.items j

-- whether two keys are the same, as they are compared
abbrev pub same_child : Key → Key → Bool
same_child key = is_asked key.dir key.name.items

pub asked_node : (nodes : ChildNodes) (dir : NodeRef) (name : List ℕ) → lookup (is_asked dir name) nodes ≡ indexed nodes dir name
asked_node nodes dir name = ap (λ test. lookup test nodes) (asked dir name)

-- what the key that is asked for has
pub asked_is : (dir : NodeRef) (name : List ℕ) (key : Key) → is_asked dir name key ≡ true → (dir ≡ key.dir) × (name ≡ key.name.items)
asked_is dir name key h =
    let parts = and_parts (same_key dir key.dir) (bytes_eq name key.name.items) h in (
      sym (node-same key.dir dir (sym (agrees dir key.dir) ∙ parts.0)),
      (bytes_decides name key.name.items).0 parts.1,
    )

key_test : (dir : NodeRef) (name : List ℕ) → IsKeyTest same_child (is_asked dir name)
key_test dir name x y h = let is = asked_is dir name x h in (λ i. is_asked (is.0 i) (is.1 i) y)

-- an index without a key no longer has its name, and has each other
pub removes_by : (dir : NodeRef) (name : List ℕ) (old new : ChildNodes) → lookup (is_asked dir name) new ≡ None → KeepsOthers same_child (is_asked dir name) old new → RemovesName dir name old new
unfolding KeepsOthers
removes_by dir name old new gone kept = (
  sym (asked_node new dir name) ∙ gone,
  λ other text apart. sym (asked_node new other text) ∙ kept (is_asked other text) (key_test other text) (differs other text apart) ∙ asked_node old other text,
)
  where
    differs : (other : NodeRef) (text : List ℕ) → (same_node dir other && bytes_eq name text) ≡ false → AreApart (is_asked dir name) (is_asked other text)
    differs other text apart k h =
        let is = asked_is dir name k h in
        (λ i. same_key other (sym is.0 i) && bytes_eq text (sym is.1 i))
        ∙ (λ i. agrees other dir i && nat_list_eq_equiv.symm text name i) ∙ apart

-- a key that is found is the one asked for
pub key_found : (dir : NodeRef) (name : List ℕ) (nodes : ChildNodes) (key : Key) → lookup_key (is_asked dir name) nodes ≡ Some key → (dir ≡ key.dir) × (name ≡ key.name.items)
key_found dir name [] key h = absurd (cc)
key_found dir name (e ∷ nodes) key h = at (is_asked dir name e.0) refl h (λ k. key_found dir name nodes key k)
  where
    at : (b : Bool) → is_asked dir name e.0 ≡ b → cond b (Some e.0) (lookup_key (is_asked dir name) nodes) ≡ Some key
        → (lookup_key (is_asked dir name) nodes ≡ Some key → (dir ≡ key.dir) × (name ≡ key.name.items)) → (dir ≡ key.dir) × (name ≡ key.name.items)
    at true t k rest = let same : e.0 ≡ key = cc in subst (λ (x : Key). (dir ≡ x.dir) × (name ≡ x.name.items)) same (asked_is dir name e.0 t)
    at false t k rest = rest k

find-same : (p q : ViewRow → Bool) (rows : List ViewRow) → AllByRecursion (λ r. p r ≡ q r) rows → find p rows ≡ find q rows
find-same p q [] h = refl
find-same p q (r ∷ rows) h = ap (λ b. cond b (Some r) (find p rows)) h.0 ∙ ap (λ o. cond (q r) (Some r) o) (find-same p q rows h.1)

find-none : (rows : List ViewRow) → find (λ r. false) rows ≡ None
find-none [] = refl
find-none (r ∷ rows) = find-none rows

-- what an index has is the first node of the name
pub child_found : (rows : List ViewRow) (nodes : ChildNodes) (dir : NodeRef) (name : List ℕ) → AreChildren rows nodes → indexed nodes dir name ≡ child_in rows dir name
child_found rows nodes dir name h = sym (at (indexed nodes dir name) (h dir name).0 (h dir name).1)
  where
    at : (o : Option NodeRef) → AllByRecursion (λ r. is_child dir name r ≡ is_row_of o r) rows → ((node : NodeRef) → o ≡ Some node → has_row rows node ≡ true)
        → option_map (λ (r : ViewRow). r.node) (find (is_child dir name) rows) ≡ o
    at None all there = ap (option_map (λ (r : ViewRow). r.node)) (find-same (is_child dir name) (λ r. false) rows all ∙ find-none rows)
    at (Some node) all there = ap (option_map (λ (r : ViewRow). r.node)) (find-same (is_child dir name) (λ r. same_node r.node node) rows all) ∙ row-there rows node (there node refl)

module _ {K X : Type 0} where
  lookup-append : (test : K → Bool) (es : List (K × X)) (e : K × X) → lookup test (es ++ e ∷ []) ≡ option_or (lookup test es) (cond (test e.0) (Some e.1) None)
  lookup-append test [] e = refl
  lookup-append test (d ∷ es) e = at (test d.0) (lookup-append test es e)
    where
      at : (b : Bool) → lookup test (es ++ e ∷ []) ≡ option_or (lookup test es) (cond (test e.0) (Some e.1) None)
          → cond b (Some d.1) (lookup test (es ++ e ∷ [])) ≡ option_or (cond b (Some d.1) (lookup test es)) (cond (test e.0) (Some e.1) None)
      at true rest = refl
      at false rest = rest

-- the directory and the name of a row are those that it is found by
place_is : (r : ViewRow) (dir : NodeRef) (name : List ℕ) → is_child dir name r ≡ true → (r.parent ≡ dir) × (r.name ≡ name)
place_is r dir name h =
    let parts = and_parts (same_node r.parent dir) (bytes_eq r.name name) h in
    (node-same r.parent dir parts.0, (bytes_decides r.name name).0 parts.1)

-- an index has all names but that of one node
abbrev AreOthers : NodeRef → List ViewRow → ChildNodes → Type 0
AreOthers node rows nodes =
    (dir : NodeRef) (name : List ℕ)
    → AllByRecursion (λ q. same_node q.node node ≡ false → is_child dir name q ≡ is_row_of (indexed nodes dir name) q) rows
    × ((m : NodeRef) → indexed nodes dir name ≡ Some m → (has_row rows m ≡ true) × (same_node m node ≡ false))

-- after the key of a node was taken out
others_left : (rows : List ViewRow) (node : NodeRef) (r : ViewRow) (old new : ChildNodes) → row_at rows node ≡ Some r → AreChildren rows old → RemovesName r.parent r.name old new → AreOthers node rows new
others_left rows node r old new at h left = λ dir name. by dir name (is_child dir name r) refl
  where
    same : same_node r.node node ≡ true
    same = (found (λ q. Unit {0}) rows node r (every rows) at).1
      where
        every : (qs : List ViewRow) → AllByRecursion (λ (q : ViewRow). Unit {0}) qs
        every [] = tt
        every (q ∷ qs) = (tt, every qs)

    own : (dir : NodeRef) (name : List ℕ) → is_child dir name r ≡ is_row_of (indexed old dir name) r
    own dir name = (found (λ q. is_child dir name q ≡ is_row_of (indexed old dir name) q) rows node r (h dir name).0 at).0

    one_of : (o : Option NodeRef) → is_row_of o r ≡ true → o ≡ Some node
    one_of None k = absurd (cc)
    one_of (Some m) k = ap Some (sym (node-same r.node m k) ∙ node-same r.node node same)

    by : (dir : NodeRef) (name : List ℕ) (b : Bool) → is_child dir name r ≡ b
        → AllByRecursion (λ q. same_node q.node node ≡ false → is_child dir name q ≡ is_row_of (indexed new dir name) q) rows
        × ((m : NodeRef) → indexed new dir name ≡ Some m → (has_row rows m ≡ true) × (same_node m node ≡ false))
    by dir name true e =
        let is = place_is r dir name e in
        let gone : indexed new dir name ≡ None = sym (λ i. indexed new (is.0 i) (is.1 i)) ∙ left.0 in
        let had : indexed old dir name ≡ Some node = one_of (indexed old dir name) (sym (own dir name) ∙ e) in (
          all-map (λ q. is_child dir name q ≡ is_row_of (indexed old dir name) q) (λ q. same_node q.node node ≡ false → is_child dir name q ≡ is_row_of (indexed new dir name) q)
              (λ q k apart. k ∙ ap (λ o. is_row_of o q) had ∙ apart ∙ sym (ap (λ o. is_row_of o q) gone)) rows (h dir name).0,
          λ m k. absurd (let z : None ≡ Some m = sym gone ∙ k in cc),
        )
    by dir name false e =
        let kept : indexed new dir name ≡ indexed old dir name = left.1 dir name e in (
          all-map (λ q. is_child dir name q ≡ is_row_of (indexed old dir name) q) (λ q. same_node q.node node ≡ false → is_child dir name q ≡ is_row_of (indexed new dir name) q)
              (λ q k apart. k ∙ sym (ap (λ o. is_row_of o q) kept)) rows (h dir name).0,
          λ m k. ((h dir name).1 m (sym kept ∙ k), not_own dir name e m (sym kept ∙ k) (same_node m node) refl),
        )
      where
        not_own : (dir : NodeRef) (name : List ℕ) → is_child dir name r ≡ false → (m : NodeRef) → indexed old dir name ≡ Some m → (b : Bool) → same_node m node ≡ b → b ≡ false
        not_own dir name e m k true t = absurd (true≢false (sym same ∙ sym (ap (λ n. same_node r.node n) (node-same m node t)) ∙ sym (ap (λ o. is_row_of o r) k) ∙ sym (own dir name) ∙ e))
        not_own dir name e m k false t = refl

all-without : (P : ViewRow → Type 0) (node : NodeRef) (rows : List ViewRow) → AllByRecursion (λ q. same_node q.node node ≡ false → P q) rows → AllByRecursion P (without_node node rows)
all-without P node [] h = tt
all-without P node (r ∷ rows) h = at (same_node r.node node) refl (all-without P node rows h.1)
  where
    at : (b : Bool) → same_node r.node node ≡ b → AllByRecursion P (without_node node rows) → AllByRecursion P (cond (not b) (r ∷ without_node node rows) (without_node node rows))
    at true e rest = rest
    at false e rest = (h.0 e, rest)

others_alone : (node : NodeRef) (rows : List ViewRow) (nodes : ChildNodes) → AreOthers node rows nodes → AreChildren (without_node node rows) nodes
others_alone node rows nodes h = λ dir name. (
  all-without (λ q. is_child dir name q ≡ is_row_of (indexed nodes dir name) q) node rows (h dir name).0,
  λ m k. let own = (h dir name).1 m k in has_row-without node m rows own.1 ∙ own.0,
)

-- a key behind others
indexed-append : (nodes : ChildNodes) (key : Key) (node : NodeRef) (dir : NodeRef) (name : List ℕ)
    → indexed (nodes ++ (key, node) ∷ []) dir name ≡ option_or (indexed nodes dir name) (cond (is_child_key dir name key) (Some node) None)
indexed-append nodes key node dir name = lookup-append (is_child_key dir name) nodes (key, node)

-- a key that wasn't there is that of no name that is
other_key : (nodes : ChildNodes) (key : Key) → indexed nodes key.dir key.name.items ≡ None → (dir : NodeRef) (name : List ℕ) (m : NodeRef) → indexed nodes dir name ≡ Some m → is_child_key dir name key ≡ false
other_key nodes key none dir name m h = at (is_child_key dir name key) refl
  where
    at : (b : Bool) → is_child_key dir name key ≡ b → b ≡ false
    at true e =
        let parts = and_parts (same_node key.dir dir) (bytes_eq key.name.items name) e in
        let k : None ≡ Some m = sym none ∙ (λ i. indexed nodes (node-same key.dir dir parts.0 i) ((bytes_decides key.name.items name).0 parts.1 i)) ∙ h in absurd (cc)
    at false e = refl

-- a node that joins others under a new name
pub children_added : (rows : List ViewRow) (nodes : ChildNodes) (r : ViewRow) (key : Key) → key.dir ≡ r.parent → key.name.items ≡ r.name → has_row rows r.node ≡ false → indexed nodes key.dir key.name.items ≡ None
    → AreChildren rows nodes → AreChildren (rows ++ r ∷ []) (nodes ++ (key, r.node) ∷ [])
children_added rows nodes r key dir_is name_is fresh none h = λ dir name.
    by dir name (indexed nodes dir name) refl (is_child_key dir name key) refl (λ i. same_node (dir_is i) dir && bytes_eq (name_is i) name)
  where
    apart : (m : NodeRef) → has_row rows m ≡ true → same_node r.node m ≡ false
    apart m there = at (same_node r.node m) refl
      where
        at : (b : Bool) → same_node r.node m ≡ b → b ≡ false
        at true e = absurd (true≢false (sym there ∙ sym (ap (has_row rows) (node-same r.node m e)) ∙ fresh))
        at false e = refl

    by : (dir : NodeRef) (name : List ℕ) (o : Option NodeRef) → indexed nodes dir name ≡ o → (b : Bool) → is_child_key dir name key ≡ b → is_child_key dir name key ≡ is_child dir name r
        → AllByRecursion (λ q. is_child dir name q ≡ is_row_of (indexed (nodes ++ (key, r.node) ∷ []) dir name) q) (rows ++ r ∷ [])
        × ((node : NodeRef) → indexed (nodes ++ (key, r.node) ∷ []) dir name ≡ Some node → has_row (rows ++ r ∷ []) node ≡ true)
    by dir name (Some m) e b t same =
        let now : indexed (nodes ++ (key, r.node) ∷ []) dir name ≡ Some m = indexed-append nodes key r.node dir name ∙ ap (λ o. option_or o (cond (is_child_key dir name key) (Some r.node) None)) e in
        let there = (h dir name).1 m e in (
          all-append (λ q. is_child dir name q ≡ is_row_of (indexed (nodes ++ (key, r.node) ∷ []) dir name) q) rows (r ∷ [])
              (all-map (λ q. is_child dir name q ≡ is_row_of (indexed nodes dir name) q) (λ q. is_child dir name q ≡ is_row_of (indexed (nodes ++ (key, r.node) ∷ []) dir name) q)
              (λ q k. k ∙ ap (λ o. is_row_of o q) (e ∙ sym now)) rows (h dir name).0)
              (sym same ∙ other_key nodes key none dir name m e ∙ sym (apart m there) ∙ sym (ap (λ o. is_row_of o r) now), tt),
          λ node k. has_row-more rows r node (let z : m ≡ node = (let y : Some m ≡ Some node = sym now ∙ k in cc) in sym (ap (has_row rows) z) ∙ there),
        )
    by dir name None e true t same =
        let now : indexed (nodes ++ (key, r.node) ∷ []) dir name ≡ Some r.node =
        indexed-append nodes key r.node dir name ∙ ap (λ o. option_or o (cond (is_child_key dir name key) (Some r.node) None)) e ∙ ap (λ c. cond c (Some r.node) None) t in (
          all-append (λ q. is_child dir name q ≡ is_row_of (indexed (nodes ++ (key, r.node) ∷ []) dir name) q) rows (r ∷ [])
              (all-both (λ q. is_child dir name q ≡ is_row_of (indexed nodes dir name) q) (λ q. same_node q.node r.node ≡ false) (λ q. is_child dir name q ≡ is_row_of (indexed (nodes ++ (key, r.node) ∷ []) dir name) q)
              (λ q k f. k ∙ ap (λ o. is_row_of o q) e ∙ sym f ∙ sym (ap (λ o. is_row_of o q) now)) rows (h dir name).0 (all-fresh rows r.node fresh))
              (sym same ∙ t ∙ sym (node-itself r.node) ∙ sym (ap (λ o. is_row_of o r) now), tt),
          λ node k. (let z : r.node ≡ node = (let y : Some r.node ≡ Some node = sym now ∙ k in cc) in ap (has_row (rows ++ r ∷ [])) (sym z) ∙ has_row-last rows r),
        )
    by dir name None e false t same =
        let now : indexed (nodes ++ (key, r.node) ∷ []) dir name ≡ None =
        indexed-append nodes key r.node dir name ∙ ap (λ o. option_or o (cond (is_child_key dir name key) (Some r.node) None)) e ∙ ap (λ c. cond c (Some r.node) None) t in (
          all-append (λ q. is_child dir name q ≡ is_row_of (indexed (nodes ++ (key, r.node) ∷ []) dir name) q) rows (r ∷ [])
              (all-map (λ q. is_child dir name q ≡ is_row_of (indexed nodes dir name) q) (λ q. is_child dir name q ≡ is_row_of (indexed (nodes ++ (key, r.node) ∷ []) dir name) q)
              (λ q k. k ∙ ap (λ o. is_row_of o q) (e ∙ sym now)) rows (h dir name).0)
              (sym same ∙ t ∙ sym (ap (λ o. is_row_of o r) now), tt),
          λ node k. absurd (let z : None ≡ Some node = sym now ∙ k in cc),
        )

-- a node that gets another directory or name
module _ (rows : List ViewRow) (node : NodeRef) (f : ViewRow → ViewRow) (same : (q : ViewRow) → (f q).node ≡ q.node) (r : ViewRow) (at : row_at rows node ≡ Some r) (once : StandOnce rows)
    (nodes : ChildNodes) (key : Key) (dir_is : key.dir ≡ (f r).parent) (name_is : key.name.items ≡ (f r).name) (none : indexed nodes key.dir key.name.items ≡ None) (others : AreOthers node rows nodes) where
  module _ (dir : NodeRef) (name : List ℕ) where
    -- what is found with the key
    abbrev N : Option NodeRef
    N = indexed (nodes ++ (key, node) ∷ []) dir name

    -- what is known of each row
    abbrev Before : ViewRow → Type 0
    Before q = (same_node q.node node ≡ false → is_child dir name q ≡ is_row_of (indexed nodes dir name) q) × (same_node q.node node ≡ true → is_child dir name (f q) ≡ is_child_key dir name key)

    before : AllByRecursion Before rows
    before =
        all-both (λ q. same_node q.node node ≡ false → is_child dir name q ≡ is_row_of (indexed nodes dir name) q) (λ q. same_node q.node node ≡ true → is_child dir name (f q) ≡ is_child_key dir name key) Before
        (λ q h k. (h, k)) rows (others dir name).0
        (only-found node (λ q. is_child dir name (f q) ≡ is_child_key dir name key) rows once
        (λ q found. let e : r ≡ q = (let y : Some r ≡ Some q = sym at ∙ found in cc) in
        subst (λ (x : ViewRow). is_child dir name (f x) ≡ is_child_key dir name key) e (λ i. same_node (sym dir_is i) dir && bytes_eq (sym name_is i) name)))

    after : (n : Option NodeRef) → N ≡ n
        → ((q : ViewRow) → same_node q.node node ≡ true → is_row_of n (f q) ≡ is_child_key dir name key)
        → ((q : ViewRow) → same_node q.node node ≡ false → is_row_of n q ≡ is_row_of (indexed nodes dir name) q)
        → ((m : NodeRef) → n ≡ Some m → has_row rows m ≡ true)
        → AllByRecursion (λ q. is_child dir name q ≡ is_row_of N q) (at_row node f rows) × ((m : NodeRef) → N ≡ Some m → has_row (at_row node f rows) m ≡ true)
    after n now one other there = (
      all-at_row Before (λ q. is_child dir name q ≡ is_row_of N q) node f
          (λ q e h. h.1 e ∙ sym (one q e) ∙ sym (ap (λ o. is_row_of o (f q)) now))
          (λ q e h. h.0 e ∙ sym (other q e) ∙ sym (ap (λ o. is_row_of o q) now))
          rows once before,
      λ m k. has_row-changed node f same m rows ∙ there m (sym now ∙ k),
    )

    by : (o : Option NodeRef) → indexed nodes dir name ≡ o → (b : Bool) → is_child_key dir name key ≡ b
        → AllByRecursion (λ q. is_child dir name q ≡ is_row_of N q) (at_row node f rows) × ((m : NodeRef) → N ≡ Some m → has_row (at_row node f rows) m ≡ true)
    by (Some m) e b t =
        let own = (others dir name).1 m e in
        after (Some m) (indexed-append nodes key node dir name ∙ ap (λ o. option_or o (cond (is_child_key dir name key) (Some node) None)) e)
        (λ q k. ap (λ x. same_node x m) (same q ∙ node-same q.node node k) ∙ same_node-sym node m ∙ own.1 ∙ sym (other_key nodes key none dir name m e))
        (λ q k. sym (ap (λ o. is_row_of o q) e))
        (λ x k. let z : m ≡ x = cc in ap (has_row rows) (sym z) ∙ own.0)
    by None e true t =
        after (Some node) (indexed-append nodes key node dir name ∙ ap (λ o. option_or o (cond (is_child_key dir name key) (Some node) None)) e ∙ ap (λ c. cond c (Some node) None) t)
        (λ q k. ap (λ x. same_node x node) (same q) ∙ k ∙ sym t)
        (λ q k. k ∙ sym (ap (λ o. is_row_of o q) e))
        (λ x k. let z : node ≡ x = cc in ap (has_row rows) (sym z) ∙ found-among rows node r at)
    by None e false t =
        after None (indexed-append nodes key node dir name ∙ ap (λ o. option_or o (cond (is_child_key dir name key) (Some node) None)) e ∙ ap (λ c. cond c (Some node) None) t)
        (λ q k. sym t)
        (λ q k. sym (ap (λ o. is_row_of o q) e))
        (λ x k. absurd (cc))

  pub children_changed : AreChildren (at_row node f rows) (nodes ++ (key, node) ∷ [])
  children_changed = λ dir name. by dir name (indexed nodes dir name) refl (is_child_key dir name key) refl

-- lines don't matter to an index
children_same : (rows : List ViewRow) (nodes : ChildNodes) (node : NodeRef) (f : ViewRow → ViewRow) → ((q : ViewRow) → (f q).node ≡ q.node)
    → ((dir : NodeRef) (name : List ℕ) (q : ViewRow) → is_child dir name (f q) ≡ is_child dir name q) → AreChildren rows nodes → AreChildren (at_row node f rows) nodes
children_same rows nodes node f same place h = λ dir name. (
  all rows dir name (h dir name).0,
  λ m k. has_row-changed node f same m rows ∙ (h dir name).1 m k,
)
  where
    one : (o : Option NodeRef) (q : ViewRow) → is_row_of o (f q) ≡ is_row_of o q
    one None q = refl
    one (Some m) q = ap (λ x. same_node x m) (same q)

    all : (qs : List ViewRow) (dir : NodeRef) (name : List ℕ) → AllByRecursion (λ q. is_child dir name q ≡ is_row_of (indexed nodes dir name) q) qs
        → AllByRecursion (λ q. is_child dir name q ≡ is_row_of (indexed nodes dir name) q) (at_row node f qs)
    all [] dir name k = tt
    all (q ∷ qs) dir name k = at (same_node q.node node) (all qs dir name k.1)
      where
        at : (b : Bool) → AllByRecursion (λ x. is_child dir name x ≡ is_row_of (indexed nodes dir name) x) (at_row node f qs)
            → AllByRecursion (λ x. is_child dir name x ≡ is_row_of (indexed nodes dir name) x) (cond b (f q ∷ qs) (q ∷ at_row node f qs))
        at true rest = (place dir name q ∙ k.0 ∙ sym (one (indexed nodes dir name) q), k.1)
        at false rest = (k.0, rest)

-- an index of rows without the row of a node
pub index-removes : (kept now : Bool) (rows : List ViewRow) (node : NodeRef) (r : ViewRow) (old new : ChildNodes) → row_at rows node ≡ Some r → RemovesName r.parent r.name old new → now ≡ kept
    → IsIndex kept rows old → IsIndex now (without_node node rows) new
index-removes true true rows node r old new at left same h = others_alone node rows new (others_left rows node r old new at h left)
index-removes true false rows node r old new at left same h = tt
index-removes false true rows node r old new at left same h = absurd (true≢false same)
index-removes false false rows node r old new at left same h = tt

-- an index of rows that don't have a node
pub index-stays : (kept : Bool) (rows : List ViewRow) (node : NodeRef) (nodes : ChildNodes) → row_at rows node ≡ None → IsIndex kept rows nodes → IsIndex kept (without_node node rows) nodes
index-stays kept rows node nodes none h = subst (λ (rs : List ViewRow). IsIndex kept rs nodes) (sym (none-without node rows (none-among rows node none))) h

-- an index of rows where one row got other lines
pub index-same : (kept : Bool) (rows : List ViewRow) (nodes : ChildNodes) (node : NodeRef) (f : ViewRow → ViewRow) → ((q : ViewRow) → (f q).node ≡ q.node)
    → ((dir : NodeRef) (name : List ℕ) (q : ViewRow) → is_child dir name (f q) ≡ is_child dir name q) → IsIndex kept rows nodes → IsIndex kept (at_row node f rows) nodes
index-same true rows nodes node f same place h = children_same rows nodes node f same place h
index-same false rows nodes node f same place h = tt

-- a key is noted, or the index is given up
abbrev pub IsPut : Bool → ChildNodes → Key → NodeRef → Bool → ChildNodes → Type 0
IsPut kept old key node now new = now ≡ true → (kept ≡ true) × (indexed old key.dir key.name.items ≡ None) × (new ≡ old ++ (key, node) ∷ [])

-- an index of rows with one more
pub index-joins : (kept now : Bool) (rows : List ViewRow) (r : ViewRow) (old new : ChildNodes) (key : Key) → key.dir ≡ r.parent → key.name.items ≡ r.name → has_row rows r.node ≡ false
    → IsPut kept old key r.node now new → IsIndex kept rows old → IsIndex now (rows ++ r ∷ []) new
index-joins kept false rows r old new key dir_is name_is fresh put h = tt
index-joins kept true rows r old new key dir_is name_is fresh put h =
    let is = put refl in
    subst (AreChildren (rows ++ r ∷ [])) (sym is.2)
    (children_added rows old r key dir_is name_is fresh is.1 (subst (λ b. IsIndex b rows old) is.0 h))

-- an index of rows where a node got another name or directory
pub index-changes : (kept mid_kept now : Bool) (rows : List ViewRow) (node : NodeRef) (f : ViewRow → ViewRow) (r : ViewRow) (old mid new : ChildNodes) (key : Key) → ((q : ViewRow) → (f q).node ≡ q.node) → row_at rows node ≡ Some r → StandOnce rows
    → mid_kept ≡ kept → RemovesName r.parent r.name old mid → key.dir ≡ (f r).parent → key.name.items ≡ (f r).name → IsPut mid_kept mid key node now new → IsIndex kept rows old → IsIndex now (at_row node f rows) new
index-changes kept mid_kept false rows node f r old mid new key same at once kept_is left dir_is name_is put h = tt
index-changes kept mid_kept true rows node f r old mid new key same at once kept_is left dir_is name_is put h =
    let is = put refl in
    subst (AreChildren (at_row node f rows)) (sym is.2)
    (children_changed rows node f same r at once mid key dir_is name_is is.1
    (others_left rows node r old mid at (subst (λ b. IsIndex b rows old) (sym kept_is ∙ is.0) h) left))
