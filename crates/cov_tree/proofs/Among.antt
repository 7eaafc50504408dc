-- The rows of some nodes alone.
use Rattle.std.proofs.Common.{◌≡◌, ℕ, zero, suc, ◌<◌, Bool, true, false, true≢false, cond, ◌||◌, nat_eq, List, [], ◌∷◌, ◌++◌, map, get_or, length, Option, Some, None, append-nil, append_assoc, refl, sym, ap, subst, ◌∙◌, arith}
use Rattle.std.specs.List.{filter, find, AllByRecursion}
use Rattle.std.specs.Option.{option_map_or, option_or}
use Rattle.std.proofs.lemmas.Bool.{or_from, or_parts}
use Rattle.std.proofs.lemmas.Bool.Decides.{nat_tests}
use Rattle.std.proofs.lemmas.List.{map-append}
use Rattle.std.proofs.lemmas.List.Elements.{filter-append}
use Rattle.std.proofs.lemmas.List.Folds.{find-append, list_any-append}
use Rattle.cov_base.specs.Rows.{Row, row_of, has_node, AreDistinct, AreOnce}
use Rattle.cov_base.specs.declared.number.Kind.{Kind}
use Rattle.cov_base.proofs.CallerLemmas.{all-append, all-filter}
use Rattle.cov_dd.specs.declared.triple.Triple.{Triple}
use Rattle.cov_dd.specs.Diagrams.{value_in}
use Rattle.cov_tree.specs.declared.entry.Entry.{Entry}
use Rattle.cov_tree.specs.declared.entry.Place.{Place}
use Rattle.cov_tree.specs.Dated.{among}
use Rattle.cov_tree.specs.Entries.{row_at, rows_of, rows_in, nodes_of}
use Rattle.cov_tree.proofs.Once.{distinct_filtered, has_filtered, nodes}

abbrev pub is_of : ℕ → Row → Bool
is_of x r = nat_eq r.node x

-- the rows of one node are all its own
own_rows : (node : ℕ) (kind : Kind) (x : ℕ) (b : Bool) → nat_eq node x ≡ b → (places : List Place) → filter (is_of x) (map (row_at node kind) places) ≡ cond b (map (row_at node kind) places) []
own_rows node kind x true e [] = refl
own_rows node kind x false e [] = refl
own_rows node kind x b e (q ∷ places) =
    ap (λ t. cond t (row_at node kind q ∷ filter (is_of x) (map (row_at node kind) places)) (filter (is_of x) (map (row_at node kind) places))) e ∙ by b (own_rows node kind x b e places)
  where
    by : (t : Bool) → filter (is_of x) (map (row_at node kind) places) ≡ cond t (map (row_at node kind) places) []
        → cond t (row_at node kind q ∷ filter (is_of x) (map (row_at node kind) places)) (filter (is_of x) (map (row_at node kind) places)) ≡ cond t (row_at node kind q ∷ map (row_at node kind) places) []
    by true rest = ap (λ rows. row_at node kind q ∷ rows) rest
    by false rest = rest

-- a node that isn't there isn't found
pub find_none : (x : ℕ) (es : List Entry) → has_node x (nodes_of es) ≡ false → find (λ e. nat_eq e.node x) es ≡ None
find_none x [] h = refl
find_none x (e ∷ es) h =
    let parts = or_parts (nat_eq e.node x) (has_node x (nodes_of es)) h in ap (λ b. cond b (Some e) (find (λ f. nat_eq f.node x) es)) parts.0 ∙ find_none x es parts.1

module _ (table : List Triple) (c : List Bool) (x : ℕ) where
  abbrev of_entry : Entry → List Row
  of_entry e = rows_of table c e.node e.kind e.places

  -- nodes that stand once: the rows of one are those of its entry
  pub rows_found : (es : List Entry) → AreDistinct (nodes_of es) → filter (is_of x) (rows_in table c es) ≡ option_map_or of_entry (find (λ e. nat_eq e.node x) es) []
  rows_found [] distinct = refl
  rows_found (e ∷ es) distinct =
      filter-append (is_of x) (of_entry e) (rows_in table c es)
      ∙ ap (λ rows. rows ++ filter (is_of x) (rows_in table c es)) (own_rows e.node e.kind x (nat_eq e.node x) refl (filter (λ p. value_in table p.vis c) e.places))
      ∙ by (nat_eq e.node x) refl (rows_found es distinct.1)
    where
      by : (b : Bool) → nat_eq e.node x ≡ b → filter (is_of x) (rows_in table c es) ≡ option_map_or of_entry (find (λ f. nat_eq f.node x) es) []
          → cond b (of_entry e) [] ++ filter (is_of x) (rows_in table c es) ≡ option_map_or of_entry (cond b (Some e) (find (λ f. nat_eq f.node x) es)) []
      by true same rest =
          let is : e.node ≡ x = grind (arith, nat_tests, same) in
          ap (λ rows. of_entry e ++ rows) (rest ∙ ap (λ o. option_map_or of_entry o []) (find_none x es (ap (λ y. has_node y (nodes_of es)) (sym is) ∙ distinct.0))) ∙ append-nil (of_entry e)
      by false other rest = rest

-- an entry of a node is the first of it
pub entry_first : (es : List Entry) (i x : ℕ) (e : Entry) → AreDistinct (nodes_of es) → i < length es → e ≡ get_or es i e → nat_eq e.node x ≡ true → find (λ f. nat_eq f.node x) es ≡ Some e
entry_first [] i x e distinct within h same = absurd (omega (arith, within))
entry_first (f ∷ es) zero x e distinct within h same = ap (λ b. cond b (Some f) (find (λ g. nat_eq g.node x) es)) (ap (λ (g : Entry). nat_eq g.node x) (sym h) ∙ same) ∙ ap Some (sym h)
entry_first (f ∷ es) (suc i) x e distinct within h same =
    ap (λ b. cond b (Some f) (find (λ g. nat_eq g.node x) es)) (differs (nat_eq f.node x) refl) ∙ entry_first es i x e distinct.1 (omega (arith, within)) h same
  where
    there : (gs : List Entry) (k : ℕ) → k < length gs → e ≡ get_or gs k e → has_node x (nodes_of gs) ≡ true
    there [] k below at = absurd (omega (arith, below))
    there (g ∷ gs) zero below at = ap (λ b. b || has_node x (nodes_of gs)) (ap (λ (y : Entry). nat_eq y.node x) (sym at) ∙ same)
    there (g ∷ gs) (suc k) below at = ap (λ b. nat_eq g.node x || b) (there gs k (omega (arith, below)) at) ∙ either (nat_eq g.node x)
      where
        either : (b : Bool) → (b || true) ≡ true
        either true = refl
        either false = refl

    differs : (b : Bool) → nat_eq f.node x ≡ b → b ≡ false
    differs true is =
        let own : f.node ≡ x = grind (arith, nat_tests, is) in absurd (true≢false (sym (there es i (omega (arith, within)) h) ∙ ap (λ y. has_node y (nodes_of es)) (sym own) ∙ distinct.0))
    differs false is = refl

-- the rows of one node more
pub among_more : (ns : List ℕ) (x : ℕ) (rows : List Row) → among (ns ++ x ∷ []) rows ≡ among ns rows ++ filter (is_of x) rows
among_more [] x rows = append-nil (filter (is_of x) rows)
among_more (n ∷ ns) x rows = ap (λ rs. filter (is_of n) rows ++ rs) (among_more ns x rows) ∙ sym (append_assoc (filter (is_of n) rows) (among ns rows) (filter (is_of x) rows))

-- what all rows have
pub among_all : (P : Row → Type 0) (ns : List ℕ) (rows : List Row) → AllByRecursion P rows → AllByRecursion P (among ns rows)
among_all P [] rows all = tt
among_all P (n ∷ ns) rows all = all-append P (filter (is_of n) rows) (among ns rows) (all-filter P (is_of n) rows all) (among_all P ns rows all)

-- the row of each of the nodes, and of no other
pub among_row : (ns : List ℕ) (rows : List Row) (x : ℕ) → row_of (among ns rows) x ≡ cond (has_node x ns) (row_of rows x) None
among_row [] rows x = refl
among_row (n ∷ ns) rows x =
    find-append (λ r. nat_eq r.node x) (filter (is_of n) rows) (among ns rows)
    ∙ (λ i. option_or (first (nat_eq n x) refl i) (among_row ns rows x i))
    ∙ both (nat_eq n x) (has_node x ns) (row_of rows x)
  where
    both : (a b : Bool) (o : Option Row) → option_or (cond a o None) (cond b o None) ≡ cond (a || b) o None
    both true true None = refl
    both true true (Some r) = refl
    both true false None = refl
    both true false (Some r) = refl
    both false b o = refl

    first : (b : Bool) → nat_eq n x ≡ b → row_of (filter (is_of n) rows) x ≡ cond b (row_of rows x) None
    first b e = from rows
      where
        at : (r : Row) (rs : List Row) (s t : Bool) → nat_eq r.node n ≡ s → nat_eq r.node x ≡ t → row_of (filter (is_of n) rs) x ≡ cond b (row_of rs x) None
            → row_of (cond s (r ∷ filter (is_of n) rs) (filter (is_of n) rs)) x ≡ cond b (cond t (Some r) (row_of rs x)) None
        at r rs true t f g rest =
            let own : r.node ≡ n = grind (arith, nat_tests, f) in
            let same : t ≡ b = sym g ∙ ap (λ y. nat_eq y x) own ∙ e in
            ap (λ k. cond k (Some r) (row_of (filter (is_of n) rs) x)) (g ∙ same) ∙ ap (cond b (Some r)) rest ∙ two b ∙ ap (λ k. cond b (cond k (Some r) (row_of rs x)) None) (sym same)
          where
            two : (k : Bool) → cond k (Some r) (cond k (row_of rs x) None) ≡ cond k (cond k (Some r) (row_of rs x)) None
            two true = refl
            two false = refl
        at r rs false true f g rest =
            let own : r.node ≡ x = grind (arith, nat_tests, g) in
            let other : b ≡ false = sym e ∙ (let no : nat_eq n x ≡ false = grind (arith, nat_tests, f, own) in no) in
            rest ∙ ap (λ k. cond k (row_of rs x) None) other ∙ ap (λ k. cond k (Some r) None) (sym other)
        at r rs false false f g rest = rest

        none : (k : Bool) → ◌≡◌ {A = Option Row} None (cond k None None)
        none true = refl
        none false = refl

        from : (rs : List Row) → row_of (filter (is_of n) rs) x ≡ cond b (row_of rs x) None
        from [] = none b
        from (r ∷ rs) = at r rs (nat_eq r.node n) (nat_eq r.node x) refl refl (from rs)

-- no node that isn't among them
not_among : (ns : List ℕ) (rows : List Row) (x : ℕ) → has_node x ns ≡ false → has_node x (nodes (among ns rows)) ≡ false
not_among [] rows x h = refl
not_among (n ∷ ns) rows x h =
    ap (has_node x) (map-append (λ (r : Row). r.node) (filter (is_of n) rows) (among ns rows))
    ∙ list_any-append (λ y. nat_eq y x) (nodes (filter (is_of n) rows)) (nodes (among ns rows))
    ∙ or_from (has_node x (nodes (filter (is_of n) rows))) (has_node x (nodes (among ns rows))) (others rows) (not_among ns rows x parts.1)
  where
    parts : (nat_eq n x ≡ false) × (has_node x ns ≡ false)
    parts = or_parts (nat_eq n x) (has_node x ns) h

    others : (rs : List Row) → has_node x (nodes (filter (is_of n) rs)) ≡ false
    others [] = refl
    others (r ∷ rs) = at (nat_eq r.node n) refl (others rs)
      where
        at : (b : Bool) → nat_eq r.node n ≡ b → has_node x (nodes (filter (is_of n) rs)) ≡ false → has_node x (nodes (cond b (r ∷ filter (is_of n) rs) (filter (is_of n) rs))) ≡ false
        at true e rest =
            let other = parts.0 in
            let differs : nat_eq r.node x ≡ false = grind (arith, nat_tests, e, other) in or_from (nat_eq r.node x) (has_node x (nodes (filter (is_of n) rs))) differs rest
        at false e rest = rest

distinct_append : (xs ys : List ℕ) → AreDistinct xs → AreDistinct ys → AllByRecursion (λ x. has_node x ys ≡ false) xs → AreDistinct (xs ++ ys)
distinct_append [] ys dx dy apart = dy
distinct_append (x ∷ xs) ys dx dy apart =
    (list_any-append (λ y. nat_eq y x) xs ys ∙ or_from (has_node x xs) (has_node x ys) dx.0 apart.0, distinct_append xs ys dx.1 dy apart.1)

-- of nodes that stand once, the rows of different ones are so too
pub among_once : (ns : List ℕ) (rows : List Row) → AreDistinct ns → AreOnce rows → AreOnce (among ns rows)
among_once ns rows distinct once = (root ns, from ns distinct)
  where
    root : (ns : List ℕ) → has_node 0 (nodes (among ns rows)) ≡ false
    root [] = refl
    root (n ∷ ns) =
        ap (has_node 0) (map-append (λ (r : Row). r.node) (filter (is_of n) rows) (among ns rows))
        ∙ list_any-append (λ y. nat_eq y 0) (nodes (filter (is_of n) rows)) (nodes (among ns rows))
        ∙ or_from (has_node 0 (nodes (filter (is_of n) rows))) (has_node 0 (nodes (among ns rows))) (has_filtered (is_of n) 0 rows once.0) (root ns)

    apart : (n : ℕ) (ns : List ℕ) (rs : List Row) → has_node n ns ≡ false → AllByRecursion (λ x. has_node x (nodes (among ns rows)) ≡ false) (nodes (filter (is_of n) rs))
    apart n ns [] h = tt
    apart n ns (r ∷ rs) h = at (nat_eq r.node n) refl (apart n ns rs h)
      where
        at : (b : Bool) → nat_eq r.node n ≡ b → AllByRecursion (λ x. has_node x (nodes (among ns rows)) ≡ false) (nodes (filter (is_of n) rs))
            → AllByRecursion (λ x. has_node x (nodes (among ns rows)) ≡ false) (nodes (cond b (r ∷ filter (is_of n) rs) (filter (is_of n) rs)))
        at true e rest =
            let own : r.node ≡ n = grind (arith, nat_tests, e) in
            (not_among ns rows r.node (ap (λ x. has_node x ns) own ∙ h), rest)
        at false e rest = rest

    from : (ns : List ℕ) → AreDistinct ns → AreDistinct (nodes (among ns rows))
    from [] distinct = tt
    from (n ∷ ns) distinct =
        subst AreDistinct (sym (map-append (λ (r : Row). r.node) (filter (is_of n) rows) (among ns rows)))
        (distinct_append (nodes (filter (is_of n) rows)) (nodes (among ns rows)) (distinct_filtered (is_of n) rows once.1) (from ns distinct.1) (apart n ns rows distinct.0))
