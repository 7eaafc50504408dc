-- Rows have a fault exactly where two clash or one isn't reached, in whatever order they stand.
use Rattle.std.proofs.Common.{◌≡◌, ◌||◌, ◌&&◌, ℕ, zero, suc, Bool, true, false, cond, not, nat_eq, nat_lt, List, [], ◌∷◌, map, length, Option, Some, None, option_map, refl, sym, ap, ◌∙◌, arith}
use Rattle.std.specs.List.{find, list_any, AllByRecursion}
use Rattle.std.specs.Option.{is_some, option_or}
use Rattle.std.specs.Str.{bytes_eq}
use Rattle.std.proofs.lemmas.Bool.Decides.{nat_tests}
use Rattle.std.proofs.lemmas.Slice.Eq.{bytes_eq-Decides}
use Rattle.std.proofs.lemmas.Bool.{or_parts, or_from, not-true}
use Rattle.cov_base.proofs.Lists.{or_left_comm, nat_eq-sym}
use Rattle.cov_base.specs.Rows.{Row, row_of, is_present, has_node, AreDistinct, AreOnce}
use Rattle.cov_base.specs.Faults.{Fault, Clash, Orphan, Loop, from_parent, is_reached, is_same_place, with_row, in_node_order, first_clash, first_fault}
use Rattle.cov_base.specs.Reaching.{has_clash, has_lost, FaultsAreFound}

pub both_ways : (a b : Bool) → (a ≡ true → b ≡ true) → (b ≡ true → a ≡ true) → a ≡ b
both_ways true b f g = sym (f refl)
both_ways false true f g = g refl
both_ways false false f g = refl

absorbed : (a b : Bool) → (a ≡ true → b ≡ true) → (a || b) ≡ b
absorbed true b f = sym (f refl)
absorbed false b f = refl

bytes_eq-sym : (xs ys : List ℕ) → bytes_eq xs ys ≡ bytes_eq ys xs
bytes_eq-sym xs ys =
    both_ways (bytes_eq xs ys) (bytes_eq ys xs)
    (λ e. (bytes_eq-Decides ys xs).1 (sym ((bytes_eq-Decides xs ys).0 e))) (λ e. (bytes_eq-Decides xs ys).1 (sym ((bytes_eq-Decides ys xs).0 e)))

pub same_place-sym : (r s : Row) → is_same_place r s ≡ is_same_place s r
same_place-sym r s = λ j. nat_eq-sym r.parent s.parent j && bytes_eq-sym r.name s.name j

pub is_some-map : {X Y : Type 0} (f : X → Y) (o : Option X) → is_some (option_map f o) ≡ is_some o
is_some-map f None = refl
is_some-map f (Some x) = refl

is_some-or : {X : Type 0} (a b : Option X) → is_some (option_or a b) ≡ (is_some a || is_some b)
is_some-or None b = refl
is_some-or (Some x) b = refl

-- one is found exactly where one passes
pub is_some-find : {X : Type 0} (p : X → Bool) (xs : List X) → is_some (find p xs) ≡ list_any p xs
is_some-find p [] = refl
is_some-find p (x ∷ xs) = at (p x) (is_some-find p xs)
  where
    at : (b : Bool) → is_some (find p xs) ≡ list_any p xs → is_some (cond b (Some x) (find p xs)) ≡ (b || list_any p xs)
    at true h = refl
    at false h = h

pub any-map : {X Y : Type 0} (p : Y → Bool) (f : X → Y) (xs : List X) → list_any p (map f xs) ≡ list_any (λ x. p (f x)) xs
any-map p f [] = refl
any-map p f (x ∷ xs) = ap (λ b. p (f x) || b) (any-map p f xs)

clash_some : (rows : List Row) → is_some (first_clash rows) ≡ has_clash rows
clash_some [] = refl
clash_some (r ∷ rows) =
    is_some-or (option_map (λ (s : Row). Clash r.node s.node) (find (is_same_place r) rows)) (first_clash rows)
    ∙ (λ j. (is_some-map (λ (s : Row). Clash r.node s.node) (find (is_same_place r) rows) ∙ is_some-find (is_same_place r) rows) j || clash_some rows j)

-- each row is that of its node
pub own_rows : (rows : List Row) → AreDistinct (map (λ r. r.node) rows) → AllByRecursion (λ r. row_of rows r.node ≡ Some r) rows
own_rows [] d = tt
own_rows (r ∷ rows) d = (let same : nat_eq r.node r.node ≡ true = grind (arith, nat_tests) in ap (λ b. cond b (Some r) (row_of rows r.node)) same, later rows (own_rows rows d.1) d.0)
  where
    later : (ss : List Row) → AllByRecursion (λ s. row_of rows s.node ≡ Some s) ss → has_node r.node (map (λ s. s.node) ss) ≡ false → AllByRecursion (λ s. row_of (r ∷ rows) s.node ≡ Some s) ss
    later [] h k = tt
    later (s ∷ ss) h k = (
      ap (λ b. cond b (Some r) (row_of rows s.node)) (nat_eq-sym r.node s.node ∙ (or_parts (nat_eq s.node r.node) (has_node r.node (map (λ (t : Row). t.node) ss)) k).0) ∙ h.0,
      later ss h.1 (or_parts (nat_eq s.node r.node) (has_node r.node (map (λ (t : Row). t.node) ss)) k).1,
    )

pub any_implies : {X : Type 0} (p q : X → Bool) (xs : List X) → AllByRecursion (λ x. p x ≡ true → q x ≡ true) xs → list_any p xs ≡ true → list_any q xs ≡ true
any_implies p q [] h k = k
any_implies p q (x ∷ xs) h k = at (p x) (q x) h.0 k (any_implies p q xs h.1)
  where
    at : (a b : Bool) → (a ≡ true → b ≡ true) → (a || list_any p xs) ≡ true → (list_any p xs ≡ true → list_any q xs ≡ true) → (b || list_any q xs) ≡ true
    at a true f k rest = refl
    at true false f k rest = absurd (let no = f refl in cc)
    at false false f k rest = rest k

none_found : {X : Type 0} (p : X → Bool) (xs : List X) → list_any p xs ≡ false → find p xs ≡ None
none_found p [] h = refl
none_found p (x ∷ xs) h = ap (λ b. cond b (Some x) (find p xs)) (or_parts (p x) (list_any p xs) h).0 ∙ none_found p xs (or_parts (p x) (list_any p xs) h).1

-- a node that isn't present reaches nothing
absent_lost : (rows : List Row) (k x : ℕ) → is_present rows x ≡ false → is_reached rows k x ≡ false
absent_lost rows k zero h = absurd (cc)
absent_lost rows zero (suc m) h = refl
absent_lost rows (suc k) (suc m) h = ap (λ o. from_parent o (is_reached rows k)) (none_found (λ (r : Row). nat_eq r.node (suc m)) rows (or_parts (nat_eq (suc m) 0) (list_any (λ (r : Row). nat_eq r.node (suc m)) rows) h).1)

orphan_lost : (rows : List Row) (k x : ℕ) (r : Row) → nat_eq x 0 ≡ false → row_of rows x ≡ Some r → is_present rows r.parent ≡ false → is_reached rows k x ≡ false
orphan_lost rows k zero r z is h = absurd (cc)
orphan_lost rows zero (suc m) r z is h = refl
orphan_lost rows (suc k) (suc m) r z is h = ap (λ o. from_parent o (is_reached rows k)) is ∙ absent_lost rows k r.parent h

orphans_lost : (rows : List Row) → AreOnce rows → list_any (λ r. not (is_present rows r.parent)) rows ≡ true → has_lost rows ≡ true
orphans_lost rows once = any_implies (λ r. not (is_present rows r.parent)) (λ r. not (is_reached rows (length rows) r.node)) rows (all rows (own_rows rows once.1) once.0)
  where
    all : (ss : List Row) → AllByRecursion (λ s. row_of rows s.node ≡ Some s) ss → has_node 0 (map (λ s. s.node) ss) ≡ false
        → AllByRecursion (λ s. not (is_present rows s.parent) ≡ true → not (is_reached rows (length rows) s.node) ≡ true) ss
    all [] h k = tt
    all (s ∷ ss) h k = (
      λ o. ap not (orphan_lost rows (length rows) s.node s (or_parts (nat_eq s.node 0) (has_node 0 (map (λ (t : Row). t.node) ss)) k).0 h.0 (not-true (is_present rows s.parent) o)),
      all ss h.1 (or_parts (nat_eq s.node 0) (has_node 0 (map (λ (t : Row). t.node) ss)) k).1,
    )

abbrev is_orphan : List Row → Row → Bool
is_orphan rows r = not (is_present rows r.parent)

abbrev is_lost : List Row → Row → Bool
is_lost rows r = not (is_reached rows (length rows) r.node)

abbrev orphan : List Row → Option Fault
orphan rows = option_map (λ (r : Row). Orphan r.node) (find (is_orphan rows) rows)

abbrev loop : List Row → Option Fault
loop rows = option_map (λ (r : Row). Loop r.node) (find (is_lost rows) rows)

found_orphan : (rows : List Row) → is_some (orphan rows) ≡ list_any (is_orphan rows) rows
found_orphan rows = is_some-map (λ (r : Row). Orphan r.node) (find (is_orphan rows) rows) ∙ is_some-find (is_orphan rows) rows

found_loop : (rows : List Row) → is_some (loop rows) ≡ has_lost rows
found_loop rows = is_some-map (λ (r : Row). Loop r.node) (find (is_lost rows) rows) ∙ is_some-find (is_lost rows) rows

fault_some : (rows : List Row) → AreOnce rows → is_some (first_fault rows) ≡ (has_clash rows || has_lost rows)
fault_some rows once =
    is_some-or (first_clash rows) (option_or (orphan rows) (loop rows))
    ∙ (λ j.
    clash_some rows j
    || (is_some-or (orphan rows) (loop rows) ∙ (λ i. found_orphan rows i || found_loop rows i) ∙ absorbed (list_any (is_orphan rows) rows) (has_lost rows) (orphans_lost rows once)) j)

any-with : (p : Row → Bool) (r : Row) (rows : List Row) → list_any p (with_row r rows) ≡ (p r || list_any p rows)
any-with p r [] = refl
any-with p r (s ∷ rows) = at (nat_lt r.node s.node) (any-with p r rows)
  where
    at : (b : Bool) → list_any p (with_row r rows) ≡ (p r || list_any p rows) → list_any p (cond b (r ∷ s ∷ rows) (s ∷ with_row r rows)) ≡ (p r || (p s || list_any p rows))
    at true h = refl
    at false h = ap (λ b. p s || b) h ∙ or_left_comm (p s) (p r) (list_any p rows)

any-order : (p : Row → Bool) (rows : List Row) → list_any p (in_node_order rows) ≡ list_any p rows
any-order p [] = refl
any-order p (r ∷ rows) = any-with p r (in_node_order rows) ∙ ap (λ b. p r || b) (any-order p rows)

length-with : (r : Row) (rows : List Row) → length (with_row r rows) ≡ suc (length rows)
length-with r [] = refl
length-with r (s ∷ rows) = at (nat_lt r.node s.node) (length-with r rows)
  where
    at : (b : Bool) → length (with_row r rows) ≡ suc (length rows) → length (cond b (r ∷ s ∷ rows) (s ∷ with_row r rows)) ≡ suc (suc (length rows))
    at true h = refl
    at false h = ap suc h

-- how many rows in the order of their nodes
pub length-order : (rows : List Row) → length (in_node_order rows) ≡ length rows
length-order [] = refl
length-order (r ∷ rows) = length-with r (in_node_order rows) ∙ ap suc (length-order rows)

regrouped : (sr ss rr c : Bool) → ((sr || ss) || (rr || c)) ≡ ((sr || rr) || (ss || c))
regrouped true ss rr c = refl
regrouped false true true c = refl
regrouped false true false c = refl
regrouped false false rr c = refl

clash-with : (r : Row) (rows : List Row) → has_clash (with_row r rows) ≡ (list_any (is_same_place r) rows || has_clash rows)
clash-with r [] = refl
clash-with r (s ∷ rows) = at (nat_lt r.node s.node) (clash-with r rows)
  where
    at : (b : Bool) → has_clash (with_row r rows) ≡ (list_any (is_same_place r) rows || has_clash rows)
        → has_clash (cond b (r ∷ s ∷ rows) (s ∷ with_row r rows)) ≡ ((is_same_place r s || list_any (is_same_place r) rows) || (list_any (is_same_place s) rows || has_clash rows))
    at true h = refl
    at false h =
        (λ j. any-with (is_same_place s) r rows j || h j)
        ∙ (λ j. (same_place-sym s r j || list_any (is_same_place s) rows) || (list_any (is_same_place r) rows || has_clash rows))
        ∙ regrouped (is_same_place r s) (list_any (is_same_place s) rows) (list_any (is_same_place r) rows) (has_clash rows)

clash-order : (rows : List Row) → has_clash (in_node_order rows) ≡ has_clash rows
clash-order [] = refl
clash-order (r ∷ rows) = clash-with r (in_node_order rows) ∙ (λ j. any-order (is_same_place r) rows j || clash-order rows j)

node_of : Row → ℕ
node_of r = r.node

has_node-with : (x : ℕ) (r : Row) (rows : List Row) → has_node x (map (λ s. s.node) (with_row r rows)) ≡ (nat_eq r.node x || has_node x (map (λ s. s.node) rows))
has_node-with x r rows =
    any-map (λ n. nat_eq n x) (λ (s : Row). s.node) (with_row r rows)
    ∙ any-with (λ s. nat_eq s.node x) r rows
    ∙ ap (λ b. nat_eq r.node x || b) (sym (any-map (λ n. nat_eq n x) (λ (s : Row). s.node) rows))

has_node-order : (x : ℕ) (rows : List Row) → has_node x (map (λ s. s.node) (in_node_order rows)) ≡ has_node x (map (λ s. s.node) rows)
has_node-order x rows =
    any-map (λ n. nat_eq n x) (λ (s : Row). s.node) (in_node_order rows)
    ∙ any-order (λ s. nat_eq s.node x) rows
    ∙ sym (any-map (λ n. nat_eq n x) (λ (s : Row). s.node) rows)

distinct-with : (r : Row) (rows : List Row) → has_node r.node (map (λ s. s.node) rows) ≡ false → AreDistinct (map (λ s. s.node) rows) → AreDistinct (map (λ s. s.node) (with_row r rows))
distinct-with r [] h d = (refl, tt)
distinct-with r (s ∷ rows) h d = at (nat_lt r.node s.node) (distinct-with r rows (or_parts (nat_eq s.node r.node) (has_node r.node (map (λ (t : Row). t.node) rows)) h).1 d.1)
  where
    at : (b : Bool) → AreDistinct (map (λ s. s.node) (with_row r rows)) → AreDistinct (map (λ s. s.node) (cond b (r ∷ s ∷ rows) (s ∷ with_row r rows)))
    at true rest = (h, d)
    at false rest = (
      has_node-with s.node r rows
          ∙ or_from (nat_eq r.node s.node) (has_node s.node (map (λ (t : Row). t.node) rows)) (nat_eq-sym r.node s.node ∙ (or_parts (nat_eq s.node r.node) (has_node r.node (map (λ (t : Row). t.node) rows)) h).0) d.0,
      rest,
    )

distinct-order : (rows : List Row) → AreDistinct (map (λ s. s.node) rows) → AreDistinct (map (λ s. s.node) (in_node_order rows))
distinct-order [] d = tt
distinct-order (r ∷ rows) d = distinct-with r (in_node_order rows) (has_node-order r.node rows ∙ d.0) (distinct-order rows d.1)

row_of-with : (r : Row) (rows : List Row) → has_node r.node (map (λ s. s.node) rows) ≡ false → (x : ℕ) → row_of (with_row r rows) x ≡ cond (nat_eq r.node x) (Some r) (row_of rows x)
row_of-with r [] h x = refl
row_of-with r (s ∷ rows) h x = at (nat_lt r.node s.node) (row_of-with r rows (or_parts (nat_eq s.node r.node) (has_node r.node (map (λ (t : Row). t.node) rows)) h).1 x)
  where
    either : (a b : Bool) → nat_eq s.node x ≡ a → nat_eq r.node x ≡ b → cond a (Some s) (cond b (Some r) (row_of rows x)) ≡ cond b (Some r) (cond a (Some s) (row_of rows x))
    either true true e f =
        let other : nat_eq s.node r.node ≡ false = (or_parts (nat_eq s.node r.node) (has_node r.node (map (λ (t : Row). t.node) rows)) h).0 in
        absurd (grind (arith, nat_tests, e, f, other))
    either true false e f = refl
    either false b e f = refl

    at : (b : Bool) → row_of (with_row r rows) x ≡ cond (nat_eq r.node x) (Some r) (row_of rows x)
        → row_of (cond b (r ∷ s ∷ rows) (s ∷ with_row r rows)) x ≡ cond (nat_eq r.node x) (Some r) (cond (nat_eq s.node x) (Some s) (row_of rows x))
    at true rest = refl
    at false rest = ap (λ o. cond (nat_eq s.node x) (Some s) o) rest ∙ either (nat_eq s.node x) (nat_eq r.node x) refl refl

-- in the order of nodes, each row is the same node's
pub row_of-order : (rows : List Row) → AreDistinct (map (λ s. s.node) rows) → (x : ℕ) → row_of (in_node_order rows) x ≡ row_of rows x
row_of-order [] d x = refl
row_of-order (r ∷ rows) d x =
    row_of-with r (in_node_order rows) (has_node-order r.node rows ∙ d.0) x
    ∙ ap (λ o. cond (nat_eq r.node x) (Some r) o) (row_of-order rows d.1 x)

-- reaching asks for the rows of nodes alone
reached-same : (rs ss : List Row) → ((x : ℕ) → row_of rs x ≡ row_of ss x) → (k x : ℕ) → is_reached rs k x ≡ is_reached ss k x
reached-same rs ss h k zero = refl
reached-same rs ss h zero (suc m) = refl
reached-same rs ss h (suc k) (suc m) = λ j. from_parent (h (suc m) j) (λ y. reached-same rs ss h k y j)

lost-order : (rows : List Row) → AreDistinct (map (λ s. s.node) rows) → has_lost (in_node_order rows) ≡ has_lost rows
lost-order rows d =
    (λ j. list_any (λ r. not (is_reached (in_node_order rows) (length-order rows j) r.node)) (in_node_order rows))
    ∙ (λ j. list_any (λ r. not (reached-same (in_node_order rows) rows (row_of-order rows d) (length rows) r.node j)) (in_node_order rows))
    ∙ any-order (λ r. not (is_reached rows (length rows) r.node)) rows

pub faults_are_found : FaultsAreFound
faults_are_found rows once =
    fault_some (in_node_order rows) (has_node-order 0 rows ∙ once.0, distinct-order rows once.1)
    ∙ (λ j. clash-order rows j || lost-order rows once.1 j)
