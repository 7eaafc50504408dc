-- Plans, change by change, and in a table that grows.
use Rattle.std.specs.Prelude.{Result, Ok, Err, OnOk, OnErr}
use Rattle.std.proofs.Common.{◌≡◌, ℕ, ◌<◌, Bool, true, false, cond, ◌||◌, nat_eq, List, [], ◌∷◌, ◌++◌, append-nil, refl, sym, ap, subst, ◌∙◌, arith}
use Rattle.std.specs.List.{AllByRecursion}
use Rattle.std.proofs.lemmas.Bool.{or_parts}
use Rattle.cov_base.proofs.CallerLemmas.{nat_eq-sym, all-append}
use Rattle.cov_base.specs.Rows.{Row, RowChange, Created, changed, has_node, AreDistinct}
use Rattle.cov_base.specs.declared.number.Kind.{Kind}
use Rattle.cov_dd.specs.declared.triple.Triple.{Triple}
use Rattle.cov_dd.specs.Diagrams.{diagram_size, value_in, Extends}
use Rattle.cov_tree.specs.declared.entry.Entry.{Entry}
use Rattle.cov_tree.specs.Entries.{row_at, rows_of, rows_in, AllAreWithin}
use Rattle.cov_tree.specs.Changes.{changed_on, all_changed, Makes}
use Rattle.cov_tree.specs.Dated.{Dated, newest_nodes, nodes_at, rows_at, planned}
use Rattle.cov_tree.specs.Laws.{PlansStay}
use Rattle.cov_tree.specs.Shifts.{place_at, Becomes}
use Rattle.cov_tree.proofs.Rows.{rows_in-append, rows_in-grown, all_within-grown, all_within-append, row_of_place}

-- a change behind others is made last
more_changed : (table : List Triple) (c : List Bool) (changes : List (RowChange × ℕ)) (change : RowChange) (ambition : ℕ) (rows : List Row)
    → all_changed table c (changes ++ (change, ambition) ∷ []) rows ≡ changed_on table c change ambition (all_changed table c changes rows)
more_changed table c [] change ambition rows = refl
more_changed table c (x ∷ xs) change ambition rows = more_changed table c xs change ambition (changed_on table c x.0 x.1 rows)

abbrev AreAmbitions : List Triple → List (RowChange × ℕ) → Type 0
AreAmbitions table changes = AllByRecursion (λ change. change.1 < diagram_size table) changes

module _ (old new : List Triple) (grows : Extends old new) where
  ambitions_grown : (changes : List (RowChange × ℕ)) → AreAmbitions old changes → AreAmbitions new changes
  ambitions_grown [] h = tt
  ambitions_grown (x ∷ xs) h = (let first : x.1 < diagram_size old = h.0 in omega (arith, first, grows.count), ambitions_grown xs h.1)

  -- changes are the same in a table that grew
  changed_grown : (c : List Bool) (changes : List (RowChange × ℕ)) (rows : List Row) → AreAmbitions old changes → all_changed new c changes rows ≡ all_changed old c changes rows
  changed_grown c [] rows h = refl
  changed_grown c (x ∷ xs) rows h =
      ap (λ b. all_changed new c xs (cond b (changed rows x.0) rows)) (grows.value x.1 h.0 c)
      ∙ changed_grown c xs (changed_on old c x.0 x.1 rows) h.1

  pub makes_grown : (d : Dated) (plan : List Entry) (changes : List (RowChange × ℕ)) → Makes old d plan changes → Makes new d plan changes
  makes_grown d plan changes m = record {
    rows = λ c p le.
        rows_in-grown old new grows c (planned plan (newest_nodes d)) m.within ∙ m.rows c p le
        ∙ sym (changed_grown c changes (rows_at old c p d) m.ambitions)
        ∙ ap (all_changed new c changes) (sym (rows_in-grown old new grows c (nodes_at p d) (m.over p)));
    over = λ p. all_within-grown old new grows (nodes_at p d) (m.over p);
    within = all_within-grown old new grows (planned plan (newest_nodes d)) m.within;
    ambitions = ambitions_grown changes m.ambitions;
  }

  -- a plan makes one change more
  pub makes_more : (d : Dated) (plan after : List Entry) (changes : List (RowChange × ℕ)) (change : RowChange) (ambition : ℕ) → ambition < diagram_size old
      → Makes old d plan changes → Becomes old new (planned plan (newest_nodes d)) (planned after (newest_nodes d)) change ambition → Makes new d after (changes ++ (change, ambition) ∷ [])
  makes_more d plan after changes change ambition known m b =
      let all : AreAmbitions old (changes ++ (change, ambition) ∷ []) = all-append (λ x. x.1 < diagram_size old) changes ((change, ambition) ∷ []) m.ambitions (known, tt) in
      record {
        rows = λ c p le.
            b.rows c ∙ ap (changed_on old c change ambition) (m.rows c p le)
            ∙ sym (more_changed old c changes change ambition (rows_at old c p d))
            ∙ sym (changed_grown c (changes ++ (change, ambition) ∷ []) (rows_at old c p d) all)
            ∙ ap (all_changed new c (changes ++ (change, ambition) ∷ [])) (sym (rows_in-grown old new grows c (nodes_at p d) (m.over p)));
        over = λ p. all_within-grown old new grows (nodes_at p d) (m.over p);
        within = b.within;
        ambitions = ambitions_grown (changes ++ (change, ambition) ∷ []) all;
      }

pub plans_grow : PlansStay
plans_grow = λ old new d plan changes grows m. makes_grown old new grows d plan changes m

-- a node that is made stands behind the others
pub created_behind : (table : List Triple) (es fs : List Entry) (node : ℕ) (kind : Kind) (parent : ℕ) (name : List ℕ) (ambition : ℕ) → AllAreWithin table es → ambition < diagram_size table
    → fs ≡ es ++ record { node = node; kind = kind; places = place_at parent name ambition ∷ [] } ∷ []
    → Becomes table table es fs (Created node kind parent name) ambition
created_behind table es fs node kind parent name ambition within known is =
    subst (λ gs. Becomes table table es gs (Created node kind parent name) ambition) (sym is) (record {
      within = all_within-append table es (record { node = node; kind = kind; places = place_at parent name ambition ∷ [] } ∷ []) within ((known, tt), tt);
      rows = λ c.
          rows_in-append table c es (record { node = node; kind = kind; places = place_at parent name ambition ∷ [] } ∷ [])
          ∙ ap (λ rs. rows_in table c es ++ rs)
          (append-nil (rows_of table c node kind (place_at parent name ambition ∷ [])) ∙ row_of_place table c node kind (place_at parent name ambition))
          ∙ at (value_in table ambition c) (rows_in table c es) (row_at node kind (place_at parent name ambition));
    })
  where
    at : (b : Bool) (rows : List Row) (row : Row) → rows ++ cond b (row ∷ []) [] ≡ cond b (rows ++ row ∷ []) rows
    at true rows row = refl
    at false rows row = append-nil rows

has_behind : (m n : ℕ) (ns : List ℕ) → has_node m ns ≡ false → nat_eq n m ≡ false → has_node m (ns ++ n ∷ []) ≡ false
has_behind m n [] h e = ap (λ b. b || false) e
has_behind m n (k ∷ ns) h e =
    ap (λ b. b || has_node m (ns ++ n ∷ [])) (or_parts (nat_eq k m) (has_node m ns) h).0 ∙ has_behind m n ns (or_parts (nat_eq k m) (has_node m ns) h).1 e

pub distinct_more : (ns : List ℕ) (n : ℕ) → AreDistinct ns → has_node n ns ≡ false → AreDistinct (ns ++ n ∷ [])
distinct_more [] n d h = (refl, tt)
distinct_more (m ∷ ns) n d h =
    (has_behind m n ns d.0 (nat_eq-sym n m ∙ (or_parts (nat_eq m n) (has_node n ns) h).0), distinct_more ns n d.1 (or_parts (nat_eq m n) (has_node n ns) h).1)

-- what follows from either result
pub by_result : {A E : Type 0} (r : Result A E) (P Q R : Type 0) → OnOk r P → OnErr r Q → (P → R) → (Q → R) → R
by_result (Ok a) P Q R p q f g = f p
by_result (Err e) P Q R p q f g = g q
