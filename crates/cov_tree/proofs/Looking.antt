-- A node that is looked up among the rows of a position.
use Rattle.std.proofs.Common.{◌≡◌, ℕ, zero, suc, ◌<◌, Bool, true, false, cond, ◌&&◌, ◌||◌, nat_eq, List, [], ◌∷◌, map, get_or, length, Option, Some, None, position, refl, sym, ap, ◌∙◌, arith}
use Rattle.std.specs.List.{filter, find, list_any}
use Rattle.std.specs.Option.{option_map, option_or}
use Rattle.std.specs.Str.{bytes_eq}
use Rattle.std.proofs.lemmas.List.Folds.{find-append}
use Rattle.std.proofs.lemmas.List.Quantifiers.{position-Some}
use Rattle.cov_base.specs.Rows.{Row, row_of, has_node, AreDistinct}
use Rattle.cov_base.specs.declared.number.Kind.{Kind}
use Rattle.cov_base.proofs.CallerLemmas.{none-placed}
use Rattle.cov_dd.specs.declared.triple.Triple.{Triple}
use Rattle.cov_dd.specs.Diagrams.{value_in}
use Rattle.cov_tree.specs.declared.entry.Entry.{Entry}
use Rattle.cov_tree.specs.declared.entry.Place.{Place}
use Rattle.cov_tree.specs.declared.dated.DatedEntry.{DatedEntry}
use Rattle.cov_tree.specs.Dated.{entry_at, newest_entry}
use Rattle.cov_tree.specs.Entries.{row_at, rows_of, rows_in, nodes_of}
use Rattle.cov_tree.specs.Looking.{stands_in, is_seen}
use Rattle.cov_tree.proofs.Among.{is_of}
use Rattle.cov_tree.proofs.Installing.{rows_there, no_rows_there}

-- the first item that passes, where it stands at a place
module _ {X : Type 0} (t : X → Bool) where
  pub found_there : (xs : List X) (i : ℕ) (x : X) → position t xs ≡ Some i → x ≡ get_or xs i x → find t xs ≡ Some x
  found_there xs i x is at =
      let there = position-Some t xs i x is in
      from xs i there.0 (ap t at ∙ there.1) at (λ k low. there.2 k low)
    where
      from : (ys : List X) (k : ℕ) → k < length ys → t x ≡ true → x ≡ get_or ys k x → ((n : ℕ) → n < k → t (get_or ys n x) ≡ false) → find t ys ≡ Some x
      from [] k here passes stands before = absurd (omega (arith, here))
      from (y ∷ ys) zero here passes stands before = ap (λ b. cond b (Some y) (find t ys)) (ap t (sym stands) ∙ passes) ∙ ap Some (sym stands)
      from (y ∷ ys) (suc k) here passes stands before =
          ap (λ b. cond b (Some y) (find t ys)) (before zero (omega arith))
          ∙ from ys k (omega (arith, here)) passes stands (λ n low. before (suc n) (omega (arith, low)))

  pub found_nowhere : (xs : List X) → position t xs ≡ None → find t xs ≡ None
  found_nowhere xs is = from xs (none-placed t xs is)
    where
      from : (ys : List X) → list_any t ys ≡ false → find t ys ≡ None
      from [] h = refl
      from (y ∷ ys) h = by (t y) (from ys) h
        where
          by : (b : Bool) → (list_any t ys ≡ false → find t ys ≡ None) → (b || list_any t ys) ≡ false → cond b (Some y) (find t ys) ≡ None
          by true rest k = absurd (cc)
          by false rest k = rest k

  -- the first that passes is the first of those that pass
  first_filtered : (xs : List X) → find t xs ≡ find (λ x. true) (filter t xs)
  first_filtered [] = refl
  first_filtered (x ∷ xs) = by (t x) (first_filtered xs)
    where
      by : (b : Bool) → find t xs ≡ find (λ y. true) (filter t xs) → cond b (Some x) (find t xs) ≡ find (λ y. true) (cond b (x ∷ filter t xs) (filter t xs))
      by true rest = refl
      by false rest = rest

module _ (table : List Triple) (c : List Bool) where
  abbrev seen : Place → Bool
  seen p = value_in table p.vis c

  module _ (dir : ℕ) (name : List ℕ) where
    abbrev is_child : Row → Bool
    is_child r = nat_eq r.parent dir && bytes_eq r.name name

    -- the row of a node that is a child
    child_places : (node : ℕ) (kind : Kind) (ps : List Place) → option_map (λ r. r.node) (find is_child (rows_of table c node kind ps)) ≡ cond (stands_in table c dir name ps) (Some node) None
    child_places node kind [] = refl
    child_places node kind (p ∷ ps) = by (nat_eq p.parent dir) (bytes_eq p.name name) (seen p) refl refl (child_places node kind ps)
      where
        by : (q r v : Bool) → nat_eq p.parent dir ≡ q → bytes_eq p.name name ≡ r → option_map (λ r. r.node) (find is_child (rows_of table c node kind ps)) ≡ cond (stands_in table c dir name ps) (Some node) None
            → option_map (λ r. r.node) (find is_child (map (row_at node kind) (cond v (p ∷ filter seen ps) (filter seen ps)))) ≡ cond ((q && (r && v)) || stands_in table c dir name ps) (Some node) None
        by true true true a b rest = λ j. option_map (λ (r : Row). r.node) (cond (a j && b j) (Some (row_at node kind p)) (find is_child (map (row_at node kind) (filter seen ps))))
        by true false true a b rest = (λ j. option_map (λ (r : Row). r.node) (cond (a j && b j) (Some (row_at node kind p)) (find is_child (map (row_at node kind) (filter seen ps))))) ∙ rest
        by false r true a b rest = (λ j. option_map (λ (r : Row). r.node) (cond (a j && bytes_eq p.name name) (Some (row_at node kind p)) (find is_child (map (row_at node kind) (filter seen ps))))) ∙ rest
        by true true false a b rest = rest
        by true false false a b rest = rest
        by false r false a b rest = rest

    -- the first row that is a child is of the first node that has one
    child_rows : (es : List Entry) → option_map (λ r. r.node) (find is_child (rows_in table c es)) ≡ option_map (λ e. e.node) (find (λ e. stands_in table c dir name e.places) es)
    child_rows [] = refl
    child_rows (e ∷ es) =
        ap (option_map (λ r. r.node)) (find-append is_child (rows_of table c e.node e.kind e.places) (rows_in table c es))
        ∙ either (find is_child (rows_of table c e.node e.kind e.places)) (find is_child (rows_in table c es))
        ∙ (λ j. option_or (child_places e.node e.kind e.places j) (child_rows es j))
        ∙ by (stands_in table c dir name e.places)
      where
        either : (a b : Option Row) → option_map (λ r. r.node) (option_or a b) ≡ option_or (option_map (λ r. r.node) a) (option_map (λ r. r.node) b)
        either None b = refl
        either (Some r) b = refl

        by : (b : Bool) → option_or (cond b (Some e.node) None) (option_map (λ e. e.node) (find (λ e. stands_in table c dir name e.places) es))
            ≡ option_map (λ e. e.node) (cond b (Some e) (find (λ e. stands_in table c dir name e.places) es))
        by true = refl
        by false = refl

    abbrev child_test : ℕ → DatedEntry → Bool
    child_test p e = stands_in table c dir name (entry_at p e).places

    -- and so it is of nodes with their changes
    child_dated : (p : ℕ) (es : List DatedEntry) → option_map (λ r. r.node) (find is_child (rows_in table c (map (entry_at p) es))) ≡ option_map (λ e. e.node) (find (child_test p) es)
    child_dated p es = child_rows (map (entry_at p) es) ∙ same es
      where
        same : (fs : List DatedEntry) → option_map (λ e. e.node) (find (λ e. stands_in table c dir name e.places) (map (entry_at p) fs)) ≡ option_map (λ e. e.node) (find (child_test p) fs)
        same [] = refl
        same (f ∷ fs) = by (child_test p f) (same fs)
          where
            by : (b : Bool) → option_map (λ e. e.node) (find (λ e. stands_in table c dir name e.places) (map (entry_at p) fs)) ≡ option_map (λ e. e.node) (find (child_test p) fs)
                → option_map (λ e. e.node) (cond b (Some (entry_at p f)) (find (λ e. stands_in table c dir name e.places) (map (entry_at p) fs))) ≡ option_map (λ e. e.node) (cond b (Some f) (find (child_test p) fs))
            by true rest = refl
            by false rest = rest

    pub child_there : (p : ℕ) (es : List DatedEntry) (i : ℕ) (e : DatedEntry) → position (child_test p) es ≡ Some i → e ≡ get_or es i e
        → Some e.node ≡ option_map (λ r. r.node) (find is_child (rows_in table c (map (entry_at p) es)))
    child_there p es i e is at = sym (child_dated p es ∙ ap (option_map (λ e. e.node)) (found_there (child_test p) es i e is at))

    pub child_nowhere : (p : ℕ) (es : List DatedEntry) → position (child_test p) es ≡ None → None ≡ option_map (λ r. r.node) (find is_child (rows_in table c (map (entry_at p) es)))
    child_nowhere p es is = sym (child_dated p es ∙ ap (option_map (λ e. e.node)) (found_nowhere (child_test p) es is))

  -- the kind of a node that is seen
  kind_places : (node : ℕ) (kind : Kind) (ps : List Place) → option_map (λ r. r.kind) (find (λ r. true) (rows_of table c node kind ps)) ≡ cond (is_seen table c ps) (Some kind) None
  kind_places node kind [] = refl
  kind_places node kind (p ∷ ps) = by (seen p) (kind_places node kind ps)
    where
      by : (v : Bool) → option_map (λ r. r.kind) (find (λ r. true) (rows_of table c node kind ps)) ≡ cond (is_seen table c ps) (Some kind) None
          → option_map (λ r. r.kind) (find (λ r. true) (map (row_at node kind) (cond v (p ∷ filter seen ps) (filter seen ps)))) ≡ cond (v || is_seen table c ps) (Some kind) None
      by true rest = refl
      by false rest = rest

  pub kind_there : (p n : ℕ) (es : List DatedEntry) (i : ℕ) (e : DatedEntry) → AreDistinct (nodes_of (map newest_entry es)) → i < length es → e ≡ get_or es i e → nat_eq e.node n ≡ true
      → cond (is_seen table c (entry_at p e).places) (Some e.kind) None ≡ option_map (λ r. r.kind) (row_of (rows_in table c (map (entry_at p) es)) n)
  kind_there p n es i e once here at is =
      sym
      (ap (option_map (λ r. r.kind)) (first_filtered (is_of n) (rows_in table c (map (entry_at p) es)) ∙ ap (find (λ r. true)) (rows_there table c p n es i e once here at is))
      ∙ kind_places e.node e.kind (entry_at p e).places)

  pub kind_nowhere : (p n : ℕ) (es : List DatedEntry) → AreDistinct (nodes_of (map newest_entry es)) → has_node n (nodes_of (map newest_entry es)) ≡ false
      → None ≡ option_map (λ r. r.kind) (row_of (rows_in table c (map (entry_at p) es)) n)
  kind_nowhere p n es once none =
      sym
      (ap (option_map (λ r. r.kind)) (first_filtered (is_of n) (rows_in table c (map (entry_at p) es)) ∙ ap (find (λ r. true)) (no_rows_there table c p n es once none)))
