-- Rows that clash, place by place.
use Rattle.std.proofs.Common.{◌≡◌, ◌||◌, ◌&&◌, ℕ, ◌+◌, ◌<◌, Bool, true, false, cond, List, [], ◌∷◌, ◌++◌, take, get_or, length, Some, None, unwrap_or, append-nil, append_assoc, refl, sym, ap, ◌∙◌, arith}
use Rattle.std.specs.List.{list_any}
use Rattle.std.specs.Map.{lookup}
use Rattle.std.proofs.lemmas.List.Folds.{list_any-append}
use Rattle.indexmap.specs.IndexMap.{insert_entry}
use Rattle.cov_base.specs.declared.number.Kind.{Kind}
use Rattle.cov_base.specs.Rows.{Row}
use Rattle.cov_base.specs.Faults.{is_same_place}
use Rattle.cov_base.proofs.CallerLemmas.{all-map, same_place-sym}
use Rattle.cov_base.specs.Reaching.{has_clash}
use Rattle.cov_dd.specs.declared.triple.Triple.{Triple}
use Rattle.cov_dd.specs.Diagrams.{diagram_size, value_in, Extends}
use Rattle.cov_dd.proofs.CallerLemmas.{some_nodes, value-constant}
use Rattle.cov_tree.specs.declared.entry.Place.{Place}
use Rattle.cov_tree.specs.declared.entry.Entry.{Entry}
use Rattle.cov_tree.specs.declared.grouping.PlaceKey.{PlaceKey}
use Rattle.cov_tree.specs.Entries.{row_at, rows_of, rows_in, AreWithin, AllAreWithin, is_one_place}
use Rattle.cov_tree.specs.Grouping.{joined_at, GroupsWithin, IsClash}
use Rattle.cov_tree.proofs.Apart.{one_parts, one_of}
use Rattle.cov_tree.proofs.Rows.{rows_of-append, row_of_place, rows_of-grown, rows_in-append, taken, holds_at}

-- whether two keys are one, as they are compared
abbrev pub same_key : PlaceKey → PlaceKey → Bool
same_key k l = is_one_place k.parent k.name.now l.parent l.name.now

-- what is found once the choices of a place are set
pub joined_put : (groups : List (PlaceKey × ℕ)) (key : PlaceKey) (node : ℕ) (p : ℕ) (n : List ℕ)
    → joined_at (insert_entry same_key groups key node) p n ≡ cond (is_one_place p n key.parent key.name.now) node (joined_at groups p n)
joined_put [] key node p n = at (is_one_place p n key.parent key.name.now)
  where
    at : (b : Bool) → unwrap_or (cond b (Some node) None) 0 ≡ cond b node 0
    at true = refl
    at false = refl
joined_put (g ∷ groups) key node p n = at (same_key key g.0) refl (joined_put groups key node p n)
  where
    one : Bool
    one = is_one_place p n key.parent key.name.now

    own : (b : Bool) → unwrap_or (cond b (Some node) (lookup (λ k. is_one_place p n k.parent k.name.now) groups)) 0 ≡ cond b node (unwrap_or (cond b (Some g.1) (lookup (λ k. is_one_place p n k.parent k.name.now) groups)) 0)
    own true = refl
    own false = refl

    here : (a b : Bool) → is_one_place p n g.0.parent g.0.name.now ≡ a → is_one_place p n key.parent key.name.now ≡ b → same_key key g.0 ≡ false
        → joined_at (insert_entry same_key groups key node) p n ≡ cond b node (joined_at groups p n)
        → unwrap_or (cond a (Some g.1) (lookup (λ k. is_one_place p n k.parent k.name.now) (insert_entry same_key groups key node))) 0
        ≡ cond b node (unwrap_or (cond a (Some g.1) (lookup (λ k. is_one_place p n k.parent k.name.now) groups)) 0)
    here true true e f d rest =
        let x = one_parts p n g.0.parent g.0.name.now e in
        let y = one_parts p n key.parent key.name.now f in
        absurd (let yes = one_of key.parent key.name.now g.0.parent g.0.name.now (sym y.0 ∙ x.0) (sym y.1 ∙ x.1) in cc)
    here true false e f d rest = refl
    here false b e f d rest = rest

    at : (b : Bool) → same_key key g.0 ≡ b → joined_at (insert_entry same_key groups key node) p n ≡ cond (is_one_place p n key.parent key.name.now) node (joined_at groups p n)
        → joined_at (cond b ((g.0, node) ∷ groups) (g ∷ insert_entry same_key groups key node)) p n ≡ cond (is_one_place p n key.parent key.name.now) node (joined_at (g ∷ groups) p n)
    at true e rest =
        let x = one_parts key.parent key.name.now g.0.parent g.0.name.now e in
        let same : is_one_place p n g.0.parent g.0.name.now ≡ is_one_place p n key.parent key.name.now = λ j. is_one_place p n (sym x.0 j) (sym x.1 j) in
        own (is_one_place p n g.0.parent g.0.name.now)
        ∙ ap (λ b. cond b node (unwrap_or (cond (is_one_place p n g.0.parent g.0.name.now) (Some g.1) (lookup (λ k. is_one_place p n k.parent k.name.now) groups)) 0)) same
    at false e rest = here (is_one_place p n g.0.parent g.0.name.now) (is_one_place p n key.parent key.name.now) refl refl e rest

pub within_put : (table : List Triple) (groups : List (PlaceKey × ℕ)) (key : PlaceKey) (node : ℕ) → node < diagram_size table → GroupsWithin table groups → GroupsWithin table (insert_entry same_key groups key node)
within_put table [] key node h k = (h, tt)
within_put table (g ∷ groups) key node h k = at (same_key key g.0) (within_put table groups key node h k.1)
  where
    at : (b : Bool) → GroupsWithin table (insert_entry same_key groups key node) → GroupsWithin table (cond b ((g.0, node) ∷ groups) (g ∷ insert_entry same_key groups key node))
    at true rest = (h, k.1)
    at false rest = (k.0, rest)

pub joined_within : (table : List Triple) (groups : List (PlaceKey × ℕ)) (p : ℕ) (n : List ℕ) → GroupsWithin table groups → joined_at groups p n < diagram_size table
joined_within table [] p n h = let two : 1 < diagram_size table = some_nodes table in omega (arith, two)
joined_within table (g ∷ groups) p n h = at (is_one_place p n g.0.parent g.0.name.now) (joined_within table groups p n h.1)
  where
    at : (b : Bool) → joined_at groups p n < diagram_size table → unwrap_or (cond b (Some g.1) (lookup (λ k. is_one_place p n k.parent k.name.now) groups)) 0 < diagram_size table
    at true rest = h.0
    at false rest = rest

pub groups_grown : (old new : List Triple) → Extends old new → (groups : List (PlaceKey × ℕ)) → GroupsWithin old groups → GroupsWithin new groups
groups_grown old new grows groups h = all-map (λ g. g.1 < diagram_size old) (λ g. g.1 < diagram_size new) (λ g k. omega (arith, k, grows.count)) groups h

-- a row more clashes where it has the place of one before
clash_last : (rows : List Row) (r : Row) → has_clash (rows ++ r ∷ []) ≡ (has_clash rows || list_any (is_same_place r) rows)
clash_last [] r = refl
clash_last (s ∷ rows) r =
    (λ j. (list_any-append (is_same_place s) rows (r ∷ []) j) || clash_last rows r j)
    ∙ (λ j. (list_any (is_same_place s) rows || (same_place-sym s r j || false)) || (has_clash rows || list_any (is_same_place r) rows))
    ∙ sorted (list_any (is_same_place s) rows) (is_same_place r s) (has_clash rows) (list_any (is_same_place r) rows)
  where
    sorted : (a b c d : Bool) → ((a || (b || false)) || (c || d)) ≡ ((a || c) || (b || d))
    sorted true b c d = refl
    sorted false true true d = refl
    sorted false true false d = refl
    sorted false false c d = refl

clash_more : (rows : List Row) (r : Row) (b : Bool) → has_clash (rows ++ cond b (r ∷ []) []) ≡ (has_clash rows || (list_any (is_same_place r) rows && b))
clash_more rows r true = clash_last rows r ∙ ap (λ x. has_clash rows || x) (sym (and_true (list_any (is_same_place r) rows)))
  where
    and_true : (x : Bool) → (x && true) ≡ x
    and_true true = refl
    and_true false = refl
clash_more rows r false = ap has_clash (append-nil rows) ∙ sym (or_none (has_clash rows) (list_any (is_same_place r) rows))
  where
    or_none : (x y : Bool) → (x || (y && false)) ≡ x
    or_none true y = refl
    or_none false true = refl
    or_none false false = refl

any_row : (test : Row → Bool) (rows : List Row) (r : Row) (b : Bool) → list_any test (rows ++ cond b (r ∷ []) []) ≡ (list_any test rows || (b && test r))
any_row test rows r b = list_any-append test rows (cond b (r ∷ []) []) ∙ ap (λ x. list_any test rows || x) (at b (test r) refl)
  where
    at : (a t : Bool) → test r ≡ t → list_any test (cond a (r ∷ []) []) ≡ (a && t)
    at true true e = ap (λ x. x || false) e
    at true false e = ap (λ x. x || false) e
    at false t e = refl

-- a place is noted
pub place_noted : (t new : List Triple) → Extends t new → (groups next : List (PlaceKey × ℕ)) → GroupsWithin t groups → (p : Place) (clash r more : ℕ) → (rows : List Bool → List Row) (node : ℕ) (kind : Kind)
    → IsClash t groups clash rows
    → ((c : List Bool) → value_in new r c ≡ (value_in t clash c || (value_in t (joined_at groups p.parent p.name) c && value_in t p.vis c)))
    → ((c : List Bool) → value_in new more c ≡ (value_in t (joined_at groups p.parent p.name) c || value_in t p.vis c))
    → ((q : ℕ) (m : List ℕ) → joined_at next q m ≡ cond (is_one_place q m p.parent p.name) more (joined_at groups q m))
    → IsClash new next r (λ c. rows c ++ rows_of t c node kind (p ∷ []))
place_noted t new grows groups next within p clash r more rows node kind known found joins puts = record {
  value = λ c.
      found c
      ∙ (λ j. known.value c j || (known.joined c p.parent p.name j && value_in t p.vis c))
      ∙ sym (clash_more (rows c) (row_at node kind p) (value_in t p.vis c))
      ∙ ap (λ rs. has_clash (rows c ++ rs)) (sym (row_of_place t c node kind p));
  joined = λ c q m.
      ap (λ n. value_in new n c) (puts q m)
      ∙ at c q m (is_one_place q m p.parent p.name) refl
      ∙ sym (any_row (λ s. is_one_place q m s.parent s.name) (rows c) (row_at node kind p) (value_in t p.vis c))
      ∙ ap (λ rs. list_any (λ s. is_one_place q m s.parent s.name) (rows c ++ rs)) (sym (row_of_place t c node kind p));
}
  where
    both_true : (a b x : Bool) → x ≡ true → (a || b) ≡ (a || (b && x))
    both_true a true true e = refl
    both_true a false true e = refl
    both_true a b false e = absurd (cc)

    none_true : (a b x : Bool) → x ≡ false → a ≡ (a || (b && x))
    none_true true b false e = refl
    none_true false true false e = refl
    none_true false false false e = refl
    none_true a b true e = absurd (cc)

    at : (c : List Bool) (q : ℕ) (m : List ℕ) (b : Bool) → is_one_place q m p.parent p.name ≡ b
        → value_in new (cond b more (joined_at groups q m)) c ≡ (list_any (λ s. is_one_place q m s.parent s.name) (rows c) || (value_in t p.vis c && is_one_place q m p.parent p.name))
    at c q m true e =
        let same = one_parts q m p.parent p.name e in
        joins c
        ∙ ap (λ x. x || value_in t p.vis c) (known.joined c p.parent p.name)
        ∙ (λ j. list_any (λ s. is_one_place (sym same.0 j) (sym same.1 j) s.parent s.name) (rows c) || value_in t p.vis c)
        ∙ both_true (list_any (λ s. is_one_place q m s.parent s.name) (rows c)) (value_in t p.vis c) (is_one_place q m p.parent p.name) e
    at c q m false e =
        grows.value (joined_at groups q m) (joined_within t groups q m within) c
        ∙ known.joined c q m
        ∙ none_true (list_any (λ s. is_one_place q m s.parent s.name) (rows c)) (value_in t p.vis c) (is_one_place q m p.parent p.name) e

pub clash_same : (t : List Triple) (groups : List (PlaceKey × ℕ)) (clash : ℕ) (rows rows' : List Bool → List Row) → ((c : List Bool) → rows c ≡ rows' c) → IsClash t groups clash rows → IsClash t groups clash rows'
clash_same t groups clash rows rows' same known = record {
  value = λ c. known.value c ∙ ap has_clash (same c);
  joined = λ c p n. known.joined c p n ∙ ap (list_any (λ r. is_one_place p n r.parent r.name)) (same c);
}

-- before the first row
pub none_noted : (t : List Triple) → IsClash t [] 0 (λ c. [])
none_noted t = record { value = λ c. value-constant t 0 c (omega arith); joined = λ c p n. value-constant t 0 c (omega arith) }

-- the rows with those of one place more
pub place_behind : (t0 t : List Triple) → Extends t0 t → (c : List Bool) (node : ℕ) (kind : Kind) (ps : List Place) (i : ℕ) (p : Place) → i < length ps → p ≡ get_or ps i p → AreWithin t0 ps → (rows : List Row)
    → (rows ++ rows_of t0 c node kind (take i ps)) ++ rows_of t c node kind (p ∷ []) ≡ rows ++ rows_of t0 c node kind (take (i + 1) ps)
place_behind t0 t grows c node kind ps i p here at within rows =
    append_assoc rows (rows_of t0 c node kind (take i ps)) (rows_of t c node kind (p ∷ []))
    ∙ ap (λ rs. rows ++ rs)
    (ap (λ rs. rows_of t0 c node kind (take i ps) ++ rs) (rows_of-grown t0 t grows c node kind (p ∷ []) (holds_at (λ q. q.vis < diagram_size t0) ps i p within here at, tt))
    ∙ sym (rows_of-append t0 c node kind (take i ps) (p ∷ []))
    ∙ ap (rows_of t0 c node kind) (sym (taken ps i p here at)))

-- and with those of one node more
pub entry_behind : (t0 t : List Triple) → Extends t0 t → (c : List Bool) (es : List Entry) (i : ℕ) (e : Entry) → i < length es → e ≡ get_or es i e → AllAreWithin t0 es
    → rows_in t0 c (take i es) ++ rows_of t c e.node e.kind e.places ≡ rows_in t0 c (take (i + 1) es)
entry_behind t0 t grows c es i e here at within =
    ap (λ rs. rows_in t0 c (take i es) ++ rs)
    (rows_of-grown t0 t grows c e.node e.kind e.places (holds_at (λ f. AreWithin t0 f.places) es i e within here at) ∙ sym (append-nil (rows_of t0 c e.node e.kind e.places)))
    ∙ sym (rows_in-append t0 c (take i es) (e ∷ []))
    ∙ ap (rows_in t0 c) (sym (taken es i e here at))
