-- Trees of what nodes show, row by row.
use Rattle.std.specs.Prelude.{filter}
use Rattle.std.proofs.Common.{◌≡◌, ◌<◌, ◌≤◌, ℕ, Bool, true, false, ◌||◌, cond, nat_eq, List, [], ◌∷◌, ◌++◌, map, length, get_or, append-nil, append_assoc, refl, sym, ap, subst, ◌∙◌, arith}
use Rattle.std.proofs.lemmas.Bool.{or_parts}
use Rattle.std.proofs.lemmas.List.{map-append}
use Rattle.std.proofs.lemmas.List.Folds.{list_any-append}
use Rattle.cov_base.specs.Rows.{Row, has_node, is_present, AreDistinct, AreOnce}
use Rattle.cov_base.specs.declared.number.Kind.{Kind}
use Rattle.cov_base.proofs.CallerLemmas.{any-map, nat_eq-sym, rest-is, rest_of}
use Rattle.cov_dd.specs.declared.triple.Triple.{Triple}
use Rattle.cov_values.specs.Values.{on_choice}
use Rattle.cov_tree.specs.declared.entry.Entry.{Entry}
use Rattle.cov_tree.specs.declared.entry.Place.{Place}
use Rattle.cov_tree.specs.declared.dated.DatedEntry.{DatedEntry}
use Rattle.cov_tree.specs.Dated.{Dated, entry_at, rows_at, AreUntil}
use Rattle.cov_tree.specs.Entries.{row_at, rows_in, rows_of}
use Rattle.cov_tree.specs.Shown.{rows_by, rows_of_by}
use Rattle.cov_tree.proofs.Installing.{nodes_are}
use Rattle.cov_tree.proofs.Once.{nodes}

-- what is on a choice is by its values
pub on_values : (table : List Triple) (c : List Bool) (es : List Entry) → rows_in table c es ≡ rows_by (on_choice table c) es
on_values table c [] = refl
on_values table c (e ∷ es) = ap (λ rs. rows_of table c e.node e.kind e.places ++ rs) (on_values table c es)

-- what nodes have at a position is what they show there
pub rows_there : (table : List Triple) (c : List Bool) (at : ℕ) (given : List DatedEntry) (seen d : Dated) → given ≡ seen.entries → seen ≡ d → AreUntil seen.from seen.entries
    → rows_in table c (map (entry_at at) given) ≡ rows_at table c at d
rows_there table c at given seen d same view until =
    ap (λ es. rows_in table c (map (entry_at at) es)) same ∙ ap (rows_in table c) (sym (nodes_are at seen until)) ∙ ap (rows_at table c at) view

-- the rows of items one after another, to the end
module _ {X : Type 0} (one : X → List Row) (whole : List X → List Row) (none : whole [] ≡ []) (step : (x : X) (xs : List X) → whole (x ∷ xs) ≡ one x ++ whole xs) where
  pub rows_next : (ahead : List X) (x : X) (rows new end : List Row) → 1 ≤ length ahead → x ≡ get_or ahead 0 x → new ≡ rows ++ one x → rows ++ whole ahead ≡ end
      → new ++ whole (rest_of ahead) ≡ end
  rows_next [] x rows new end some at is h = absurd (omega (arith, some))
  rows_next (y ∷ ys) x rows new end some at is h =
      ap (λ zs. new ++ whole zs) (rest-is y ys) ∙ ap (λ rs. rs ++ whole ys) (is ∙ ap (λ z. rows ++ one z) at) ∙ append_assoc rows (one y) (whole ys) ∙ ap (λ rs. rows ++ rs) (sym (step y ys)) ∙ h

  pub rows_end : (ahead : List X) (rows end : List Row) → length ahead < 1 → rows ++ whole ahead ≡ end → rows ≡ end
  rows_end [] rows end long h = sym (append-nil rows) ∙ ap (λ rs. rows ++ rs) (sym none) ∙ h
  rows_end (x ∷ xs) rows end long h = absurd (omega (arith, long))

  -- where no node would have two rows, the first item ahead adds none of a node that has one
  pub next_once : (ahead : List X) (x : X) (rows : List Row) → 1 ≤ length ahead → x ≡ get_or ahead 0 x → AreOnce (rows ++ whole ahead) → AreOnce (rows ++ one x)
  next_once [] x rows some at once = absurd (omega (arith, some))
  next_once (y ∷ ys) x rows some at once =
      front (rows ++ one x) (whole ys)
      (subst AreOnce (ap (λ rs. rows ++ rs) (step y ys) ∙ sym (append_assoc rows (one y) (whole ys)) ∙ ap (λ z. (rows ++ one z) ++ whole ys) (sym at)) once)
    where
      distinct : (ns ms : List ℕ) → AreDistinct (ns ++ ms) → AreDistinct ns
      distinct [] ms h = tt
      distinct (n ∷ ns) ms h = ((or_parts (has_node n ns) (has_node n ms) (sym (list_any-append (λ k. nat_eq k n) ns ms) ∙ h.0)).0, distinct ns ms h.1)

      front : (rs ss : List Row) → AreOnce (rs ++ ss) → AreOnce rs
      front rs ss h = distinct (0 ∷ nodes rs) (nodes ss) (subst (λ ns. AreDistinct (0 ∷ ns)) (map-append (λ (r : Row). r.node) rs ss) h)

-- a node of a list doesn't stand before its place
apart : (ns : List ℕ) (n : ℕ) (ms : List ℕ) → AreDistinct (ns ++ n ∷ ms) → has_node n ns ≡ false
apart [] n ms h = refl
apart (m ∷ ns) n ms h =
    let behind = (or_parts (has_node m ns) (has_node m (n ∷ ms)) (sym (list_any-append (λ k. nat_eq k m) ns (n ∷ ms)) ∙ h.0)).1 in
    (λ j. (nat_eq-sym m n ∙ (or_parts (nat_eq n m) (has_node m ms) behind).0) j || has_node n ns) ∙ apart ns n ms h.1

-- nor does a row's node have a row before it
fresh : (rows : List Row) (r : Row) (rest : List Row) → AreOnce (rows ++ r ∷ rest) → is_present rows r.node ≡ false
fresh rows r rest once =
    (λ j. nat_eq-sym r.node 0 j || sym (any-map (λ n. nat_eq n r.node) (λ (s : Row). s.node) rows) j)
    ∙ apart (0 ∷ nodes rows) r.node (nodes rest) (subst (λ ns. AreDistinct (0 ∷ ns)) (map-append (λ (s : Row). s.node) rows (r ∷ rest)) once)

-- the rows of a node's places
module _ (f : ℕ → Bool) (node : ℕ) (kind : Kind) where
  pub place_step : (p : Place) (ps : List Place) → rows_of_by f node kind (p ∷ ps) ≡ rows_of_by f node kind (p ∷ []) ++ rows_of_by f node kind ps
  place_step p ps = by (f p.vis)
    where
      by : (b : Bool) → map (row_at node kind) (cond b (p ∷ filter (λ q. f q.vis) ps) (filter (λ q. f q.vis) ps)) ≡ map (row_at node kind) (cond b (p ∷ []) []) ++ rows_of_by f node kind ps
      by true = refl
      by false = refl

  pub place_shown : (p : Place) → f p.vis ≡ true → rows_of_by f node kind (p ∷ []) ≡ row_at node kind p ∷ []
  place_shown p is = ap (λ b. map (row_at node kind) (cond b (p ∷ []) [])) is

  pub place_hidden : (p : Place) → f p.vis ≡ false → rows_of_by f node kind (p ∷ []) ≡ []
  place_hidden p is = ap (λ b. map (row_at node kind) (cond b (p ∷ []) [])) is

  pub place_fresh : (p : Place) (rows : List Row) → AreOnce (rows ++ rows_of_by f node kind (p ∷ [])) → f p.vis ≡ true → is_present rows node ≡ false
  place_fresh p rows once is = fresh rows (row_at node kind p) [] (subst (λ rs. AreOnce (rows ++ rs)) (place_shown p is) once)
