-- Nodes of conjunctions that are remembered from call to call.
use Rattle.std.proofs.Common.{◌≡◌, ◌≢◌, ◌⊎◌, inl, inr, ℕ, zero, suc, ◌<◌, true, List, [], ◌∷◌, length, slice_index_or, Contains, Option, Some, None, IfSome, Result, Ok, Err, IfOk, OnOk, OnErr, refl, sym, subst, arith}
use Rattle.std.specs.Map.{lookup}
use Rattle.lru.specs.LruCache.{LruCache, lru_cache, promoted, put_entries}
use Rattle.lru.proofs.CallerLemmas.{Contains-promoted, Contains-put_entries, IsPut}
use Rattle.cov_dd.specs.declared.operation.Operation.{Operation}
use Rattle.cov_dd.specs.declared.operation.Operation.TheVariants.{And}
use Rattle.cov_dd.specs.declared.triple.Triple.{Triple}
use Rattle.cov_dd.specs.declared.memo.Pair.{Pair}
use Rattle.cov_dd.specs.Diagrams.{diagram_size, top, IsDiagram, Extends, Placed}
use Rattle.cov_dd.specs.Memos.{IsMade, AreAmong}
use Rattle.cov_dd.specs.Combinations.{IsResult, IsRight, AreRight, IsTable}
use Rattle.cov_dd.proofs.Pairs.{same_pair, same_pair-true, lookup-made}
use Rattle.cov_dd.proofs.Insertion.{makes_diagram, makes_extends}
use Rattle.cov_dd.proofs.Descent.{right_later, made_stands}

contains-made : (es : List (Pair × ℕ)) (e : Pair × ℕ) → Contains es e → IsMade es e.0 e.1
contains-made es e c = at es c.0 c.1 c.2
  where
    at : (fs : List (Pair × ℕ)) (k : ℕ) → k < length fs → slice_index_or fs k e ≡ e → IsMade fs e.0 e.1
    at [] k lt is = absurd (omega (arith, lt))
    at (f ∷ fs) zero lt is = inl is
    at (f ∷ fs) (suc k) lt is = inr (at fs k (omega (arith, lt)) is)

made-contains : (es : List (Pair × ℕ)) (p : Pair) (r : ℕ) → IsMade es p r → Contains es (p, r)
made-contains [] p r h = absurd h
made-contains (e ∷ es) p r (inl is) = (0, omega arith, is)
made-contains (e ∷ es) p r (inr h) = let c = made-contains es p r h in (suc c.0, omega (arith, c.1), c.2)

-- a pair is found with its node
pub latest_some : (es : List (Pair × ℕ)) (p : Pair) (o : Option ℕ) → o ≡ lookup (same_pair p) es → IfSome o (IsMade es p)
latest_some es p None e = tt
latest_some es p (Some r) e = lookup-made es p r (sym e)

-- the pairs in their order after a look-up
pub among-promoted : (p : Pair) (es : List (Pair × ℕ)) → AreAmong (promoted (same_pair p) es) es
among-promoted p es q r h = contains-made es (q, r) (Contains-promoted (same_pair p) es (q, r) (made-contains (promoted (same_pair p) es) q r h))

among-put : (old : LruCache Pair ℕ) (p : Pair) (r : ℕ) → AreAmong (put_entries same_pair old p r) ((p, r) ∷ old.entries)
among-put old p r q s h = elim (Contains-put_entries same_pair old p r (q, s) (made-contains (put_entries same_pair old p r) q s h)) [
  | inl there ↦ inr (contains-made old.entries (q, s) there)
  | inr found ↦ inl (here found)
]
  where
    key : (q ≡ p) ⊎ ((w : ℕ) × Contains old.entries (q, w) × (same_pair p q ≡ true)) → p ≡ q
    key (inl same) = sym same
    key (inr found) = same_pair-true p q found.2

    here : IsPut same_pair old p r (q, s) → ◌≡◌ {A = Pair × ℕ} (p, r) (q, s)
    here put = let left : p ≡ q = key put.1 in let right : r ≡ s = sym put.0 in λ j. (left j, right j)

-- the pairs after one was put, or wasn't
pub after_put : {A E : Type 0} (result : Result A E) (old new : LruCache Pair ℕ) (p : Pair) (r : ℕ)
    → OnOk result (new ≡ lru_cache (put_entries same_pair old p r) old.cap) → OnErr result (new ≡ old) → AreAmong new.entries ((p, r) ∷ old.entries)
after_put (Ok x) old new p r put kept = subst (λ (c : LruCache Pair ℕ). AreAmong c.entries ((p, r) ∷ old.entries)) (sym put) (among-put old p r)
after_put (Err x) old new p r put kept = λ q s h. inr (subst (λ (c : LruCache Pair ℕ). IsMade c.entries q s) kept h)

made_right : (w : Operation) (ts : List Triple) (m : List (Pair × ℕ)) (p : Pair) (r : ℕ) → AreRight w ts m → IsMade m p r → IsRight w ts (p, r)
made_right w ts [] p r right h = absurd h
made_right w ts (e ∷ es) p r right (inl is) = subst (IsRight w ts) is right.0
made_right w ts (e ∷ es) p r right (inr h) = made_right w ts es p r right.1 h

right_among : (w : Operation) (ts : List Triple) (es fs : List (Pair × ℕ)) → AreAmong es fs → AreRight w ts fs → AreRight w ts es
right_among w ts [] fs among right = tt
right_among w ts (e ∷ es) fs among right = (made_right w ts fs e.0 e.1 right (among e.0 e.1 (inl refl)), right_among w ts es fs (λ p r h. among p r (inr h)) right)

-- the order of what is remembered doesn't matter, nor does it that some go
pub table_among : (ts : List Triple) (old new : List (Pair × ℕ)) → IsTable ts old → AreAmong new old → IsTable ts new
table_among ts old new k among = record { diagram = k.diagram; right = right_among And ts new old among k.right }

-- one more is remembered
pub table_put : (ts : List Triple) (old new : List (Pair × ℕ)) (p : Pair) (r : ℕ) → IsTable ts old → IsRight And ts (p, r) → AreAmong new ((p, r) ∷ old) → IsTable ts new
table_put ts old new p r k right among = record { diagram = k.diagram; right = right_among And ts new ((p, r) ∷ old) among (right, k.right) }

-- the table has grown
pub table_later : (ts us : List Triple) (es : List (Pair × ℕ)) → Extends ts us → IsDiagram us → IsTable ts es → IsTable us es
table_later ts us es x d k = record { diagram = d; right = right_later And ts us x es k.right }

-- a node that is remembered is that of the conjunction
pub remembered_stands : (ts : List Triple) (es : List (Pair × ℕ)) (p : Pair) (o : Option ℕ) → IsTable ts es → IfSome o (IsMade es p)
    → IfSome o (IsResult And ts p)
remembered_stands ts es p None k h = tt
remembered_stands ts es p (Some r) k h = made_stands And ts es p r k.right h

-- a triple that may stand above the entries was placed, or there was no memory
pub placed_table : {E : Type 0} (ts us : List Triple) (es : List (Pair × ℕ)) (t : Triple) → t.off < diagram_size ts → t.on < diagram_size ts → t.option < top ts t.off → t.option < top ts t.on → t.off ≢ t.on
    → (r : Result ℕ E) → IfOk r (Placed ts us t) → OnErr r (us ≡ ts) → IsTable ts es → IsTable us es
placed_table ts us es t off on off_above on_above differ (Ok n) p same k =
    table_later ts us es (makes_extends ts us k.diagram t n p off on off_above on_above differ) (makes_diagram ts us k.diagram t n p off on off_above on_above differ) k
placed_table ts us es t off on off_above on_above differ (Err x) p same k = subst (λ l. IsTable l es) (sym same) k
