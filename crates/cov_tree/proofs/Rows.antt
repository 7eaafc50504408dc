-- The rows of places and nodes, piece by piece, and in a table that grows.
use Rattle.std.specs.Prelude.{filter}
use Rattle.std.proofs.Common.{◌≡◌, ℕ, zero, suc, ◌+◌, ◌<◌, Bool, true, false, cond, List, [], ◌∷◌, ◌++◌, map, take, length, get_or, append_assoc, refl, sym, ap, subst, ◌∙◌, arith}
use Rattle.std.specs.List.{AllByRecursion}
use Rattle.std.proofs.lemmas.List.{map-append, take_more}
use Rattle.std.proofs.lemmas.List.Elements.{filter-append}
use Rattle.cov_base.specs.declared.number.Kind.{Kind}
use Rattle.cov_base.proofs.CallerLemmas.{all-append}
use Rattle.cov_dd.specs.declared.triple.Triple.{Triple}
use Rattle.cov_dd.specs.Diagrams.{diagram_size, value_in, Extends}
use Rattle.cov_tree.specs.declared.entry.Place.{Place}
use Rattle.cov_tree.specs.declared.entry.Entry.{Entry}
use Rattle.cov_tree.specs.Entries.{row_at, rows_of, rows_in, AreWithin, AllAreWithin}

-- what stands at an index of a slice stands there in the list that is the slice
pub in_list : {X : Type 0} {xs ys : List X} (i : ℕ) (x : X) → xs ≡ ys → i < length xs → x ≡ get_or xs i x → (i < length ys) × (x ≡ get_or ys i x)
in_list i x same here is = (subst (λ zs. i < length zs) same here, is ∙ ap (λ zs. get_or zs i x) same)

-- the rows of places behind others
pub rows_of-append : (table : List Triple) (c : List Bool) (node : ℕ) (kind : Kind) (ps qs : List Place)
    → rows_of table c node kind (ps ++ qs) ≡ rows_of table c node kind ps ++ rows_of table c node kind qs
rows_of-append table c node kind ps qs =
    ap (map (row_at node kind)) (filter-append (λ p. value_in table p.vis c) ps qs)
    ∙ map-append (row_at node kind) (filter (λ p. value_in table p.vis c) ps) (filter (λ p. value_in table p.vis c) qs)

-- the row of one place
pub row_of_place : (table : List Triple) (c : List Bool) (node : ℕ) (kind : Kind) (p : Place)
    → rows_of table c node kind (p ∷ []) ≡ cond (value_in table p.vis c) (row_at node kind p ∷ []) []
row_of_place table c node kind p = at (value_in table p.vis c)
  where
    at : (b : Bool) → map (row_at node kind) (cond b (p ∷ []) []) ≡ cond b (row_at node kind p ∷ []) []
    at true = refl
    at false = refl

pub rows_of-first : (table : List Triple) (c : List Bool) (node : ℕ) (kind : Kind) (p : Place) (ps : List Place)
    → rows_of table c node kind (p ∷ ps) ≡ rows_of table c node kind (p ∷ []) ++ rows_of table c node kind ps
rows_of-first table c node kind p ps = rows_of-append table c node kind (p ∷ []) ps

-- the rows of nodes behind others
pub rows_in-append : (table : List Triple) (c : List Bool) (es fs : List Entry) → rows_in table c (es ++ fs) ≡ rows_in table c es ++ rows_in table c fs
rows_in-append table c [] fs = refl
rows_in-append table c (e ∷ es) fs =
    ap (λ rs. rows_of table c e.node e.kind e.places ++ rs) (rows_in-append table c es fs)
    ∙ sym (append_assoc (rows_of table c e.node e.kind e.places) (rows_in table c es) (rows_in table c fs))

module _ {X : Type 0} (xs : List X) (i : ℕ) (x : X) (here : i < length xs) (at : x ≡ get_or xs i x) where
  -- one item more is taken
  pub taken : take (i + 1) xs ≡ take i xs ++ x ∷ []
  taken = take_more xs i x here ∙ ap (λ y. take i xs ++ y ∷ []) (sym at)

-- what holds of each item holds of one
pub holds_at : {X : Type 0} (P : X → Type 0) (xs : List X) (i : ℕ) (x : X) → AllByRecursion P xs → i < length xs → x ≡ get_or xs i x → P x
holds_at P [] i x h here at = absurd (omega (arith, here))
holds_at P (y ∷ ys) zero x h here at = subst P (sym at) h.0
holds_at P (y ∷ ys) (suc i) x h here at = holds_at P ys i x h.1 (omega (arith, here)) at

-- places keep their rows in a table that grows
pub rows_of-grown : (old new : List Triple) → Extends old new → (c : List Bool) (node : ℕ) (kind : Kind) (ps : List Place)
    → AreWithin old ps → rows_of new c node kind ps ≡ rows_of old c node kind ps
rows_of-grown old new grows c node kind [] h = refl
rows_of-grown old new grows c node kind (p ∷ ps) h =
    rows_of-first new c node kind p ps
    ∙ (λ j. same j ++ rows_of-grown old new grows c node kind ps h.1 j)
    ∙ sym (rows_of-first old c node kind p ps)
  where
    same : rows_of new c node kind (p ∷ []) ≡ rows_of old c node kind (p ∷ [])
    same = ap (λ b. map (row_at node kind) (cond b (p ∷ []) [])) (grows.value p.vis h.0 c)

-- and so do nodes
pub rows_in-grown : (old new : List Triple) → Extends old new → (c : List Bool) (es : List Entry) → AllAreWithin old es → rows_in new c es ≡ rows_in old c es
rows_in-grown old new grows c [] h = refl
rows_in-grown old new grows c (e ∷ es) h = λ j. rows_of-grown old new grows c e.node e.kind e.places h.0 j ++ rows_in-grown old new grows c es h.1 j

-- places stay within a table that grows
pub within-grown : (old new : List Triple) → Extends old new → (ps : List Place) → AreWithin old ps → AreWithin new ps
within-grown old new grows [] h = tt
within-grown old new grows (p ∷ ps) h = (let first : p.vis < diagram_size old = h.0 in omega (arith, first, grows.count), within-grown old new grows ps h.1)

-- and so do nodes
pub all_within-grown : (old new : List Triple) → Extends old new → (es : List Entry) → AllAreWithin old es → AllAreWithin new es
all_within-grown old new grows [] h = tt
all_within-grown old new grows (e ∷ es) h = (within-grown old new grows e.places h.0, all_within-grown old new grows es h.1)

-- places within a table are so together
pub within-append : (table : List Triple) (ps qs : List Place) → AreWithin table ps → AreWithin table qs → AreWithin table (ps ++ qs)
within-append table ps qs g h = all-append (λ p. p.vis < diagram_size table) ps qs g h

pub all_within-append : (table : List Triple) (es fs : List Entry) → AllAreWithin table es → AllAreWithin table fs → AllAreWithin table (es ++ fs)
all_within-append table es fs g h = all-append (λ e. AreWithin table e.places) es fs g h
