-- The choices on which the root isn't reached from some row.
use Rattle.std.proofs.Common.{◌≡◌, ◌||◌, ◌&&◌, ℕ, ◌+◌, ◌<◌, Bool, false, not, List, [], ◌∷◌, ◌++◌, map, take, get_or, length, append-nil, refl, sym, ap, ◌∙◌, arith}
use mathlib.Core.Bool.{or-false, or_assoc}
use Rattle.std.specs.List.{list_any, filter, AllByRecursion}
use Rattle.std.specs.Option.{is_some}
use Rattle.std.proofs.lemmas.List.Folds.{list_any-append}
use Rattle.cov_base.specs.declared.number.Kind.{Kind}
use Rattle.cov_base.specs.Rows.{Row, AreOnce}
use Rattle.cov_base.specs.Faults.{fault_of}
use Rattle.cov_base.specs.Reaching.{has_clash, has_lost}
use Rattle.cov_base.proofs.CallerLemmas.{faults_are_found}
use Rattle.cov_dd.specs.declared.triple.Triple.{Triple}
use Rattle.cov_dd.specs.Diagrams.{diagram_size, value_in, Extends, IsNode}
use Rattle.cov_tree.specs.declared.entry.Place.{Place}
use Rattle.cov_tree.specs.declared.entry.Entry.{Entry}
use Rattle.cov_tree.specs.Entries.{row_at, rows_of, rows_in, AreWithin, AllAreWithin}
use Rattle.cov_tree.specs.Spreading.{reach_node, reached_in, IsReach}
use Rattle.cov_tree.proofs.Rows.{rows_of-grown, rows_in-append, rows_in-grown, taken, holds_at}
use Rattle.cov_tree.proofs.Turning.{any_more, reached_grown}

-- before the first place
pub outside_none : (t : List Triple) (lost : ℕ) → lost < diagram_size t → IsNode t lost (λ c. value_in t lost c || false)
outside_none t lost h = record { within = h; value = λ c. sym (or-false (value_in t lost c)) }

-- one place more
pub outside_more : (t0 t new : List Triple) → Extends t0 t → (lost reach : ℕ) → reach < diagram_size t0
    → (node : ℕ) (kind : Kind) (ps : List Place) (i : ℕ) (p : Place) → i < length ps → p ≡ get_or ps i p → p.vis < diagram_size t0 → (found r : ℕ)
    → IsNode t found (λ c. value_in t0 lost c || list_any (λ row. not (value_in t0 reach c)) (rows_of t0 c node kind (take i ps)))
    → IsNode new r (λ c. value_in t found c || (value_in t p.vis c && not (value_in t reach c)))
    → IsNode new r (λ c. value_in t0 lost c || list_any (λ row. not (value_in t0 reach c)) (rows_of t0 c node kind (take (i + 1) ps)))
outside_more t0 t new grows lost reach known node kind ps i p here at inside found r f n = record {
  within = n.within;
  value = λ c.
      n.value c
      ∙ (λ j. f.value c j || (grows.value p.vis inside c j && not (grows.value reach known c j)))
      ∙ or_assoc (value_in t0 lost c) (list_any (λ row. not (value_in t0 reach c)) (rows_of t0 c node kind (take i ps))) (value_in t0 p.vis c && not (value_in t0 reach c))
      ∙ ap (λ b. value_in t0 lost c || b) (sym (any_more t0 c (λ row. not (value_in t0 reach c)) node kind ps i p here at));
}

own_node : (f : ℕ → Bool) (node : ℕ) (kind : Kind) (ps : List Place) → list_any (λ (r : Row). f node) (map (row_at node kind) ps) ≡ list_any (λ (r : Row). f r.node) (map (row_at node kind) ps)
own_node f node kind [] = refl
own_node f node kind (p ∷ ps) = ap (λ b. f node || b) (own_node f node kind ps)

-- one node more
pub lost_more : (t0 t new : List Triple) → Extends t0 t → (es : List Entry) (i : ℕ) (e : Entry) → i < length es → e ≡ get_or es i e → AllAreWithin t0 es
    → (reach : List ℕ) → AllByRecursion (λ n. n < diagram_size t0) reach → (lost r n : ℕ) → n ≡ reach_node reach e.node
    → IsNode t lost (λ c. list_any (λ row. not (reached_in t0 reach c row.node)) (rows_in t0 c (take i es)))
    → IsNode new r (λ c. value_in t lost c || list_any (λ row. not (value_in t n c)) (rows_of t c e.node e.kind e.places))
    → IsNode new r (λ c. list_any (λ row. not (reached_in t0 reach c row.node)) (rows_in t0 c (take (i + 1) es)))
lost_more t0 t new grows es i e here at within reach known lost r n is f m = record {
  within = m.within;
  value = λ c.
      m.value c
      ∙ (λ j.
      f.value c j
      || list_any (λ row. not ((ap (λ k. value_in t k c) is ∙ reached_grown t0 t grows reach known c e.node) j))
      (rows_of-grown t0 t grows c e.node e.kind e.places (holds_at (λ g. AreWithin t0 g.places) es i e within here at) j))
      ∙ ap (λ b. list_any (λ row. not (reached_in t0 reach c row.node)) (rows_in t0 c (take i es)) || b)
      (own_node (λ x. not (reached_in t0 reach c x)) e.node e.kind (filter (λ (p : Place). value_in t0 p.vis c) e.places))
      ∙ sym (list_any-append (λ row. not (reached_in t0 reach c row.node)) (rows_in t0 c (take i es)) (rows_of t0 c e.node e.kind e.places))
      ∙ ap (list_any (λ row. not (reached_in t0 reach c row.node)))
      (ap (λ rs. rows_in t0 c (take i es) ++ rs) (sym (append-nil (rows_of t0 c e.node e.kind e.places)))
      ∙ sym (rows_in-append t0 c (take i es) (e ∷ []))
      ∙ ap (rows_in t0 c) (sym (taken es i e here at)));
}

-- all that isn't reached
pub all_lost : (t0 t new : List Triple) → Extends t0 t → (es : List Entry) → AllAreWithin t0 es → (reach : List ℕ) → IsReach t0 t es reach → (r : ℕ)
    → IsNode new r (λ c. list_any (λ row. not (reached_in t reach c row.node)) (rows_in t c es)) → IsNode new r (λ c. has_lost (rows_in t0 c es))
all_lost t0 t new grows es within reach known r m = record {
  within = m.within;
  value = λ c. m.value c ∙ (λ j. list_any (λ row. not (known.value c row.node j)) (rows_in-grown t0 t grows c es within j));
}

-- and all faults
pub all_unsound : (t0 t1 t2 t3 t4 : List Triple) → Extends t0 t1 → Extends t1 t2 → Extends t2 t3 → (es : List Entry) → AllAreWithin t0 es → ((c : List Bool) → AreOnce (rows_in t0 c es))
    → (within clash lost fault r : ℕ) → within < diagram_size t0 → IsNode t1 clash (λ c. has_clash (rows_in t0 c es)) → IsNode t2 lost (λ c. has_lost (rows_in t1 c es))
    → ((c : List Bool) → value_in t3 fault c ≡ (value_in t2 clash c || value_in t2 lost c))
    → r < diagram_size t4 → ((c : List Bool) → value_in t4 r c ≡ (value_in t3 within c && value_in t3 fault c))
    → IsNode t4 r (λ c. value_in t0 within c && is_some (fault_of (rows_in t0 c es)))
all_unsound t0 t1 t2 t3 t4 g1 g2 g3 es inside once within clash lost fault r known x y z below w = record {
  within = below;
  value = λ c.
      w c
      ∙ (λ j.
      (g3.value within below2 c ∙ g2.value within below1 c ∙ g1.value within known c) j
      && (z c
      ∙ (λ i. (g2.value clash x.within c ∙ x.value c) i || (y.value c ∙ ap has_lost (rows_in-grown t0 t1 g1 c es inside)) i)
      ∙ sym (faults_are_found (rows_in t0 c es) (once c))) j);
}
  where
    below1 : within < diagram_size t1
    below1 = omega (arith, known, g1.count)

    below2 : within < diagram_size t2
    below2 = omega (arith, below1, g2.count)
