-- The root is reached round by round.
use Rattle.std.proofs.Common.{◌≡◌, ◌||◌, ℕ, zero, suc, ◌<◌, ◌≤◌, Bool, true, false, cond, nat_eq, List, [], ◌∷◌, ◌++◌, map, get_or, length, Option, Some, None, refl, sym, ap, subst, ◌∙◌, arith}
use mathlib.Core.Bool.{or-true}
use Rattle.std.specs.List.{find, filter, list_any, AllByRecursion}
use Rattle.std.specs.Option.{option_or}
use Rattle.std.proofs.lemmas.Bool.Decides.{nat_tests}
use Rattle.std.proofs.lemmas.Bool.{or_parts, eqb-true}
use Rattle.cov_base.specs.declared.number.Kind.{Kind}
use Rattle.cov_base.specs.Rows.{Row, row_of, has_node, AreDistinct, AreOnce}
use Rattle.cov_base.specs.Faults.{is_reached}
use Rattle.cov_base.proofs.CallerLemmas.{all-map, all-append, up, down, in_time, ways_are_short, both_ways, own_rows}
use Rattle.cov_base.specs.Reaching.{Reaches, root, below}
use Rattle.cov_dd.specs.declared.triple.Triple.{Triple}
use Rattle.cov_dd.specs.Diagrams.{value_in}
use Rattle.cov_tree.specs.declared.entry.Place.{Place}
use Rattle.cov_tree.specs.declared.entry.Entry.{Entry}
use Rattle.cov_tree.specs.Entries.{row_at, rows_of, rows_in, nodes_of}
use Rattle.cov_tree.specs.Spreading.{Holds, AreReached, Turns, Rounds}

-- a step more
later : (rows : List Row) (k x : ℕ) → is_reached rows k x ≡ true → is_reached rows (suc k) x ≡ true
later rows k zero h = refl
later rows zero (suc m) h = absurd (cc)
later rows (suc k) (suc m) h = let u = up rows k m h in down rows (suc k) (suc m) u.0 u.1 (later rows k u.0.parent u.2)

up_from : (rows : List Row) (k x : ℕ) → nat_eq x 0 ≡ false → is_reached rows (suc k) x ≡ true → (r : Row) × (row_of rows x ≡ Some r) × (is_reached rows k r.parent ≡ true)
up_from rows k zero z h = absurd (cc)
up_from rows k (suc m) z h = up rows k m h

not_at_once : (rows : List Row) (x : ℕ) → nat_eq x 0 ≡ false → is_reached rows 0 x ≡ true → {A : Type 0} → A
not_at_once rows zero z h = absurd (cc)
not_at_once rows (suc m) z h = absurd (cc)

some_true : {X : Type 0} (P : X → Type 0) (p : X → Bool) (xs : List X) → AllByRecursion P xs → list_any p xs ≡ true → (x : X) × P x × (p x ≡ true)
some_true P p [] h k = absurd (cc)
some_true P p (x ∷ xs) h k = at (p x) refl k (some_true P p xs h.1)
  where
    at : (b : Bool) → p x ≡ b → (b || list_any p xs) ≡ true → (list_any p xs ≡ true → (y : _) × P y × (p y ≡ true)) → (y : _) × P y × (p y ≡ true)
    at true e g rest = (x, h.0, e)
    at false e g rest = rest g

module _ (rows : List Row) (node : ℕ) (own : List Row) (inner : nat_eq node 0 ≡ false)
    (owned : AllByRecursion (λ r. row_of rows node ≡ Some r) own) (named : AllByRecursion (λ r. r.node ≡ node) own)
    (whole : (r : Row) → row_of rows node ≡ Some r → (p : Row → Bool) → p r ≡ true → list_any p own ≡ true) where
  at_node : (k : ℕ) (v w : ℕ → Bool) (b : Bool) → Holds rows k v → Turns node own v w b → is_reached rows (suc k) node ≡ true → w node ≡ true
  at_node k v w b h t is = let u = up_from rows k node inner is in t.at ∙ whole u.0 u.1 (λ r. v r.parent) (h u.0.parent u.2)

  holds_on : (k : ℕ) (v w : ℕ → Bool) (b : Bool) → Holds rows k v → Turns node own v w b → Holds rows k w
  holds_on k v w b h t x is = at (nat_eq x node) refl
    where
      here : (k : ℕ) → Holds rows k v → is_reached rows k node ≡ true → w node ≡ true
      here zero g i = not_at_once rows node inner i
      here (suc k) g i = at_node k v w b (λ y j. g y (later rows k y j)) t i

      at : (a : Bool) → nat_eq x node ≡ a → w x ≡ true
      at true e = let same : x ≡ node = eqb-true x node e in ap w same ∙ here k h (ap (is_reached rows k) (sym same) ∙ is)
      at false e = t.others x e ∙ h x is

  -- one node's turn more
  pub turn_more : (done : List Row) (u v w : ℕ → Bool) (changed b : Bool) → Rounds rows done u v changed → Turns node own v w b → Rounds rows (done ++ own) u w (b || changed)
  turn_more done u v w changed b m t = record {
    reached = λ a x is. reached_at a x is (nat_eq x node) refl;
    holds = λ k h. holds_on k v w b (m.holds k h) t;
    more = λ k h.
        all-append (λ r. is_reached rows (suc k) r.node ≡ true → w r.node ≡ true) done own
        (all-map (λ r. is_reached rows (suc k) r.node ≡ true → v r.node ≡ true) (λ r. is_reached rows (suc k) r.node ≡ true → w r.node ≡ true) (λ r f. more_at k h r.node f (nat_eq r.node node) refl) done (m.more k h))
        (all-map (λ r. r.node ≡ node) (λ r. is_reached rows (suc k) r.node ≡ true → w r.node ≡ true)
        (λ r e is. ap w e ∙ at_node k v w b (m.holds k h) t (ap (is_reached rows (suc k)) (sym e) ∙ is)) own named);
    same = λ e x. t.same (or_parts b changed e).0 x ∙ m.same (or_parts b changed e).1 x;
    closed = λ e.
        all-append (λ r. u r.parent ≡ true → u r.node ≡ true) done own (m.closed (or_parts b changed e).1)
        (all_both own owned named
        (λ r o n g.
        ap u n ∙ sym (t.same (or_parts b changed e).0 node ∙ m.same (or_parts b changed e).1 node)
        ∙ t.at ∙ whole r o (λ s. v s.parent) (m.same (or_parts b changed e).1 r.parent ∙ g)));
  }
    where
      reached_at : AreReached rows u → (x : ℕ) → w x ≡ true → (a : Bool) → nat_eq x node ≡ a → Reaches rows x
      reached_at a x is true e =
          let same : x ≡ node = eqb-true x node e in
          let s = some_true (λ r. row_of rows node ≡ Some r) (λ r. v r.parent) own owned (sym t.at ∙ ap w (sym same) ∙ is) in
          subst (Reaches rows) (sym same) (below node s.0 s.1 (m.reached a s.0.parent s.2))
      reached_at a x is false e = m.reached a x (sym (t.others x e) ∙ is)

      more_at : (k : ℕ) → Holds rows k u → (x : ℕ) → (is_reached rows (suc k) x ≡ true → v x ≡ true) → (a : Bool) → nat_eq x node ≡ a → is_reached rows (suc k) x ≡ true → w x ≡ true
      more_at k h x f true e is =
          let same : x ≡ node = eqb-true x node e in
          ap w same ∙ at_node k v w b (m.holds k h) t (ap (is_reached rows (suc k)) (sym same) ∙ is)
      more_at k h x f false e is = t.others x e ∙ f is

      all_both : (xs : List Row) → AllByRecursion (λ r. row_of rows node ≡ Some r) xs → AllByRecursion (λ r. r.node ≡ node) xs
          → ((r : Row) → row_of rows node ≡ Some r → r.node ≡ node → u r.parent ≡ true → u r.node ≡ true) → AllByRecursion (λ r. u r.parent ≡ true → u r.node ≡ true) xs
      all_both [] o n f = tt
      all_both (x ∷ xs) o n f = (f x o.0 n.0, all_both xs o.1 n.1 f)

-- before the first node's turn
pub no_turn : (rows : List Row) (u : ℕ → Bool) → Rounds rows [] u u false
no_turn rows u = record { reached = λ a. a; holds = λ k h. h; more = λ k h. tt; same = λ e x. refl; closed = λ e. tt }

-- what holds of each row holds of a node's
found_row : (P : Row → Type 0) (rows : List Row) (x : ℕ) (r : Row) → AllByRecursion P rows → row_of rows x ≡ Some r → P r × (r.node ≡ x)
found_row P [] x r h is = absurd (cc)
found_row P (s ∷ rows) x r h is = at (nat_eq s.node x) refl is (found_row P rows x r h.1)
  where
    at : (b : Bool) → nat_eq s.node x ≡ b → cond b (Some s) (row_of rows x) ≡ Some r → (row_of rows x ≡ Some r → P r × (r.node ≡ x)) → P r × (r.node ≡ x)
    at true e g rest = let same : s ≡ r = cc in (subst P same h.0, ap (λ (t : Row). t.node) (sym same) ∙ eqb-true s.node x e)
    at false e g rest = rest g

-- a set that has each node with a parent in it has all from which the root is reached
closed_all : (rows : List Row) (u : ℕ → Bool) → u 0 ≡ true → AllByRecursion (λ r. u r.parent ≡ true → u r.node ≡ true) rows → (x : ℕ) → Reaches rows x → u x ≡ true
closed_all rows u z h x root = z
closed_all rows u z h x (below node r is rest) =
    let f = found_row (λ r. u r.parent ≡ true → u r.node ≡ true) rows node r h is in
    ap u (sym f.1) ∙ f.0 (closed_all rows u z h r.parent rest)

-- each round takes a step more
pub step_more : (rows : List Row) (u v : ℕ → Bool) (b : Bool) (k : ℕ) → Rounds rows rows u v b → Holds rows k u → Holds rows (suc k) v
step_more rows u v b k m h zero is = m.holds k h 0 refl
step_more rows u v b k m h (suc x) is =
    let s = up rows k x is in
    let f = found_row (λ r. is_reached rows (suc k) r.node ≡ true → v r.node ≡ true) rows (suc x) s.0 (m.more k h) s.1 in
    ap v (sym f.1) ∙ f.0 (ap (is_reached rows (suc k)) f.1 ∙ is)

-- after as many rounds as there are rows the set is right
pub right_in_time : (rows : List Row) (n : ℕ) (v : ℕ → Bool) → length rows ≤ n → Holds rows n v → AreReached rows v → (x : ℕ) → v x ≡ is_reached rows (length rows) x
right_in_time rows n v len h a x =
    both_ways (v x) (is_reached rows (length rows) x) (λ e. (ways_are_short rows x).0 (a x e)) (λ e. h x (in_time n rows len (length rows) x e))

-- and it is after a round that changes nothing
pub right_at_rest : (rows : List Row) (u v : ℕ → Bool) (k : ℕ) → Holds rows k u → AreReached rows u → Rounds rows rows u v false → (x : ℕ) → v x ≡ is_reached rows (length rows) x
right_at_rest rows u v k h a m x =
    m.same refl x
    ∙ both_ways (u x) (is_reached rows (length rows) x) (λ e. (ways_are_short rows x).0 (a x e)) (λ e. closed_all rows u (h 0 refl) (m.closed refl) x ((ways_are_short rows x).1 e))

-- the rows of one node among all
option_or-none : {X : Type 0} (o : Option X) → option_or o None ≡ o
option_or-none None = refl
option_or-none (Some x) = refl

row_of-append : (rows more : List Row) (x : ℕ) → row_of (rows ++ more) x ≡ option_or (row_of rows x) (row_of more x)
row_of-append [] more x = refl
row_of-append (r ∷ rows) more x = at (nat_eq r.node x) (row_of-append rows more x)
  where
    at : (b : Bool) → row_of (rows ++ more) x ≡ option_or (row_of rows x) (row_of more x)
        → cond b (Some r) (row_of (rows ++ more) x) ≡ option_or (cond b (Some r) (row_of rows x)) (row_of more x)
    at true h = refl
    at false h = h

no_row : (node : ℕ) (kind : Kind) (ps : List Place) (x : ℕ) → nat_eq node x ≡ false → row_of (map (row_at node kind) ps) x ≡ None
no_row node kind [] x h = refl
no_row node kind (p ∷ ps) x h = ap (λ b. cond b (Some (row_at node kind p)) (row_of (map (row_at node kind) ps) x)) h ∙ no_row node kind ps x h

named_rows : (node : ℕ) (kind : Kind) (ps : List Place) → AllByRecursion (λ r. r.node ≡ node) (map (row_at node kind) ps)
named_rows node kind [] = tt
named_rows node kind (p ∷ ps) = (refl, named_rows node kind ps)

pub all_left : {X : Type 0} (P : X → Type 0) (xs ys : List X) → AllByRecursion P (xs ++ ys) → AllByRecursion P xs
all_left P [] ys h = tt
all_left P (x ∷ xs) ys h = (h.0, all_left P xs ys h.1)

pub all_right : {X : Type 0} (P : X → Type 0) (xs ys : List X) → AllByRecursion P (xs ++ ys) → AllByRecursion P ys
all_right P [] ys h = h
all_right P (x ∷ xs) ys h = all_right P xs ys h.1

find_any : {X : Type 0} (p q : X → Bool) (xs : List X) (x : X) → find q xs ≡ Some x → p x ≡ true → list_any p xs ≡ true
find_any p q [] x h k = absurd (cc)
find_any p q (y ∷ ys) x h k = at (q y) h (find_any p q ys x)
  where
    at : (b : Bool) → cond b (Some y) (find q ys) ≡ Some x → (find q ys ≡ Some x → p x ≡ true → list_any p ys ≡ true) → (p y || list_any p ys) ≡ true
    at true g rest = let same : y ≡ x = cc in ap (λ b. b || list_any p ys) (ap p same ∙ k)
    at false g rest = (λ j. p y || rest g k j) ∙ or-true (p y)

module _ (table : List Triple) (c : List Bool) where
  no_rows : (es : List Entry) (x : ℕ) → has_node x (nodes_of es) ≡ false → row_of (rows_in table c es) x ≡ None
  no_rows [] x h = refl
  no_rows (e ∷ es) x h =
      row_of-append (rows_of table c e.node e.kind e.places) (rows_in table c es) x
      ∙ (λ j.
      option_or (no_row e.node e.kind (filter (λ (p : Place). value_in table p.vis c) e.places) x (or_parts (nat_eq e.node x) (has_node x (nodes_of es)) h).0 j)
      (no_rows es x (or_parts (nat_eq e.node x) (has_node x (nodes_of es)) h).1 j))

  -- a node's row is among its own
  row_among : (es : List Entry) (i : ℕ) (e : Entry) → i < length es → e ≡ get_or es i e → AreDistinct (nodes_of es)
      → row_of (rows_in table c es) e.node ≡ row_of (rows_of table c e.node e.kind e.places) e.node
  row_among [] i e here at d = absurd (omega (arith, here))
  row_among (f ∷ es) zero e here at d =
      let none : has_node e.node (nodes_of es) ≡ false = ap (λ (g : Entry). has_node g.node (nodes_of es)) at ∙ d.0 in
      ap (λ (g : Entry). row_of (rows_of table c g.node g.kind g.places ++ rows_in table c es) e.node) (sym at)
      ∙ row_of-append (rows_of table c e.node e.kind e.places) (rows_in table c es) e.node
      ∙ ap (option_or (row_of (rows_of table c e.node e.kind e.places) e.node)) (no_rows es e.node none)
      ∙ option_or-none (row_of (rows_of table c e.node e.kind e.places) e.node)
  row_among (f ∷ es) (suc i) e here at d =
      row_of-append (rows_of table c f.node f.kind f.places) (rows_in table c es) e.node
      ∙ ap (λ o. option_or o (row_of (rows_in table c es) e.node)) (no_row f.node f.kind (filter (λ (p : Place). value_in table p.vis c) f.places) e.node (other es i e (omega (arith, here)) at f.node d.0))
      ∙ row_among es i e (omega (arith, here)) at d.1
    where
      other : (es : List Entry) (i : ℕ) (e : Entry) → i < length es → e ≡ get_or es i e → (x : ℕ) → has_node x (nodes_of es) ≡ false → nat_eq x e.node ≡ false
      other [] i e here at x h = absurd (omega (arith, here))
      other (g ∷ es) zero e here at x h =
          let first : nat_eq g.node x ≡ false = (or_parts (nat_eq g.node x) (has_node x (nodes_of es)) h).0 in
          let same : e.node ≡ g.node = ap (λ (k : Entry). k.node) at in
          grind (arith, nat_tests, first, same)
      other (g ∷ es) (suc i) e here at x h = other es i e (omega (arith, here)) at x (or_parts (nat_eq g.node x) (has_node x (nodes_of es)) h).1

  all_own : (P : Row → Type 0) (es : List Entry) (i : ℕ) (e : Entry) → i < length es → e ≡ get_or es i e → AllByRecursion P (rows_in table c es) → AllByRecursion P (rows_of table c e.node e.kind e.places)
  all_own P [] i e here at h = absurd (omega (arith, here))
  all_own P (f ∷ es) zero e here at h =
      subst (λ (g : Entry). AllByRecursion P (rows_of table c g.node g.kind g.places)) (sym at) (all_left P (rows_of table c f.node f.kind f.places) (rows_in table c es) h)
  all_own P (f ∷ es) (suc i) e here at h = all_own P es i e (omega (arith, here)) at (all_right P (rows_of table c f.node f.kind f.places) (rows_in table c es) h)

  module _ (es : List Entry) (i : ℕ) (e : Entry) (here : i < length es) (at : e ≡ get_or es i e) (distinct : AreDistinct (0 ∷ nodes_of es)) (once : AreOnce (rows_in table c es)) where
    owned_rows : AllByRecursion (λ r. row_of (rows_in table c es) e.node ≡ Some r) (rows_of table c e.node e.kind e.places)
    owned_rows = both (rows_of table c e.node e.kind e.places)
        (all_own (λ r. row_of (rows_in table c es) r.node ≡ Some r) es i e here at (own_rows (rows_in table c es) once.1))
        (named_rows e.node e.kind (filter (λ (p : Place). value_in table p.vis c) e.places))
      where
        both : (xs : List Row) → AllByRecursion (λ r. row_of (rows_in table c es) r.node ≡ Some r) xs → AllByRecursion (λ r. r.node ≡ e.node) xs
            → AllByRecursion (λ r. row_of (rows_in table c es) e.node ≡ Some r) xs
        both [] h k = tt
        both (x ∷ xs) h k = (ap (row_of (rows_in table c es)) (sym k.0) ∙ h.0, both xs h.1 k.1)

    inner_node : nat_eq e.node 0 ≡ false
    inner_node = others es i e here at distinct.0
      where
        others : (es : List Entry) (i : ℕ) (e : Entry) → i < length es → e ≡ get_or es i e → has_node 0 (nodes_of es) ≡ false → nat_eq e.node 0 ≡ false
        others [] i e here at h = absurd (omega (arith, here))
        others (g ∷ es) zero e here at h = ap (λ (k : Entry). nat_eq k.node 0) at ∙ (or_parts (nat_eq g.node 0) (has_node 0 (nodes_of es)) h).0
        others (g ∷ es) (suc i) e here at h = others es i e (omega (arith, here)) at (or_parts (nat_eq g.node 0) (has_node 0 (nodes_of es)) h).1

    -- an entry's turn more
    pub entry_more : (done : List Row) (u v w : ℕ → Bool) (changed b : Bool) → Rounds (rows_in table c es) done u v changed
        → Turns e.node (rows_of table c e.node e.kind e.places) v w b → Rounds (rows_in table c es) (done ++ rows_of table c e.node e.kind e.places) u w (b || changed)
    entry_more done u v w changed b m t =
        turn_more (rows_in table c es) e.node (rows_of table c e.node e.kind e.places) inner_node owned_rows
        (named_rows e.node e.kind (filter (λ (p : Place). value_in table p.vis c) e.places))
        (λ r is p. find_any p (λ s. nat_eq s.node e.node) (rows_of table c e.node e.kind e.places) r (sym (row_among es i e here at distinct.1) ∙ is))
        done u v w changed b m t

  -- each node has one row at most
  pub few_rows : (es : List Entry) → AreDistinct (map (λ r. r.node) (rows_in table c es)) → length (rows_in table c es) ≤ length es
  few_rows [] d = omega arith
  few_rows (e ∷ es) d = few (filter (λ (p : Place). value_in table p.vis c) e.places) d (few_rows es)
    where
      rest : (xs : List Row) (ys : List Row) → AreDistinct (map (λ r. r.node) (xs ++ ys)) → AreDistinct (map (λ r. r.node) ys)
      rest [] ys d = d
      rest (x ∷ xs) ys d = rest xs ys d.1

      few : (ps : List Place) → AreDistinct (map (λ r. r.node) (map (row_at e.node e.kind) ps ++ rows_in table c es))
          → (AreDistinct (map (λ r. r.node) (rows_in table c es)) → length (rows_in table c es) ≤ length es)
          → length (map (row_at e.node e.kind) ps ++ rows_in table c es) ≤ suc (length es)
      few [] d f = let h = f d in omega (arith, h)
      few (p ∷ []) d f = let h = f d.1 in omega (arith, h)
      few (p ∷ q ∷ ps) d f =
          let same : nat_eq e.node e.node ≡ true = grind (arith, nat_tests) in
          absurd (let no = (or_parts (nat_eq e.node e.node) (has_node e.node (map (λ (r : Row). r.node) (map (row_at e.node e.kind) ps ++ rows_in table c es))) d.0).0 in cc)
