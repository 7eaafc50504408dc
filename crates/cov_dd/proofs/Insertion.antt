-- The entries of a set of triples, read from the newest.
use Rattle.std.proofs.Common.{◌≡◌, ◌≢◌, ℕ, zero, suc, ◌+◌, ◌-◌, ◌<◌, ◌≤◌, ◌==◌, ◌&&◌, ◌||◌, nat_eq, max, Bool, true, false, cond, List, [], ◌∷◌, ◌++◌, length, reverse, slice_get, Some, Result, Ok, Err, IfOk, OnErr, refl, sym, ap, ◌∙◌, inl, inr, ◌⊎◌, subst, arith, true≢false}
use Rattle.std.proofs.lemmas.Bool.{eq-eqb, eqb-true, eqb-false, and_parts, or_right}
use Rattle.std.proofs.lemmas.Grind.{reverse_onto}
use Rattle.std.proofs.lemmas.List.{reverse-append, reverse-reverse, length-reverse}
use Rattle.std.proofs.lemmas.List.Sorted.{list_any-IsPermutation, IsPermutation-reverse}
use Rattle.std.proofs.lemmas.Option.{slice_get_past}
use Rattle.std.specs.List.{list_any}
use Rattle.indexmap.specs.IndexSet.{insert_key}
use Rattle.cov_base.specs.Choices.{is_on}
use Rattle.cov_dd.specs.declared.triple.Triple.{Triple}
use Rattle.cov_dd.specs.Diagrams.{diagram_size, entry_in, top, span, value_in, IsDiagram, Extends, IsEntry, Stands, Placed}
use Rattle.cov_dd.proofs.Nodes.{below, level, above, ordered, extends_by, entry_facts}

-- the derived test of equality
abbrev pub same_triple : Triple → Triple → Bool
same_triple t u = nat_eq t.option u.option && (nat_eq t.off u.off && nat_eq t.on u.on)

same_triple-true : (t u : Triple) → same_triple t u ≡ true → t ≡ u
same_triple-true t u h =
    let rest = (and_parts (nat_eq t.option u.option) _ h).1 in
    let option : t.option ≡ u.option = eqb-true t.option u.option (and_parts (nat_eq t.option u.option) _ h).0 in
    let off : t.off ≡ u.off = eqb-true t.off u.off (and_parts (nat_eq t.off u.off) _ rest).0 in
    let on : t.on ≡ u.on = eqb-true t.on u.on (and_parts (nat_eq t.off u.off) _ rest).1 in
    λ j. record { option = option j; off = off j; on = on j }

same_triple-refl : (t : Triple) → same_triple t t ≡ true
same_triple-refl t = λ j. (eq-eqb t.option t.option refl) j && ((eq-eqb t.off t.off refl) j && (eq-eqb t.on t.on refl) j)

slice_get-front : {X : Type 0} (xs ys : List X) (i : ℕ) → i < length xs → slice_get (xs ++ ys) i ≡ slice_get xs i
slice_get-front [] ys i h = absurd (omega (arith, h))
slice_get-front (x ∷ xs) ys zero h = refl
slice_get-front (x ∷ xs) ys (suc i) h = slice_get-front xs ys i (omega (arith, h))

slice_get-end : {X : Type 0} (xs : List X) (y : X) → slice_get (xs ++ y ∷ []) (length xs) ≡ Some y
slice_get-end [] y = refl
slice_get-end (x ∷ xs) y = slice_get-end xs y

pub diagram_size-length : (ts : List Triple) → diagram_size ts ≡ length ts + 2
diagram_size-length [] = refl
diagram_size-length (t ∷ ts) = omega (arith, diagram_size-length ts)

pub diagram_size-keys : (keys : List Triple) → diagram_size (reverse keys) ≡ length keys + 2
diagram_size-keys keys = diagram_size-length (reverse keys) ∙ ap (λ n. n + 2) (length-reverse keys)

-- node 2 + i has entry i
pub entry-reverse : (ts : List Triple) (i : ℕ) → entry_in ts (i + 2) ≡ slice_get (reverse ts) i
entry-reverse [] i = refl
entry-reverse (t ∷ ts) i = by ((i + 2) == diagram_size ts) refl (entry-reverse ts i) ∙ ap (λ l. slice_get l i) (sym (reverse_onto ts t []))
  where
    long : length (reverse ts) ≡ length ts
    long = length-reverse ts

    past : length ts < i → entry_in ts (i + 2) ≡ slice_get (reverse ts) i → entry_in ts (i + 2) ≡ slice_get (reverse ts ++ t ∷ []) i
    past h rest =
        let whole : length (reverse ts ++ t ∷ []) ≡ suc (length ts) = ap length (sym (reverse_onto ts t [])) ∙ length-reverse (t ∷ ts) in
        rest ∙ slice_get_past (reverse ts) i (omega (arith, h, long)) ∙ sym (slice_get_past (reverse ts ++ t ∷ []) i (omega (arith, h, whole)))

    front : i < length ts → entry_in ts (i + 2) ≡ slice_get (reverse ts) i → entry_in ts (i + 2) ≡ slice_get (reverse ts ++ t ∷ []) i
    front h rest = rest ∙ sym (slice_get-front (reverse ts) (t ∷ []) i (omega (arith, h, long)))

    apart : i ≢ length ts → entry_in ts (i + 2) ≡ slice_get (reverse ts) i → entry_in ts (i + 2) ≡ slice_get (reverse ts ++ t ∷ []) i
    apart ne rest = elim (ordered i (length ts)) [ below h ↦ front h rest | level h ↦ absurd (ne h) | above h ↦ past h rest ]

    by : (b : Bool) → ((i + 2) == diagram_size ts) ≡ b → entry_in ts (i + 2) ≡ slice_get (reverse ts) i → cond b (Some t) (entry_in ts (i + 2)) ≡ slice_get (reverse ts ++ t ∷ []) i
    by true e rest =
        let at : length (reverse ts) ≡ i = omega (arith, eqb-true (i + 2) (diagram_size ts) e, diagram_size-length ts, long) in
        sym (slice_get-end (reverse ts) t) ∙ ap (slice_get (reverse ts ++ t ∷ [])) at
    by false e rest = apart (λ at. eqb-false (i + 2) (diagram_size ts) e (omega (arith, at, diagram_size-length ts))) rest

any-entry : (ts : List Triple) (a : ℕ) (t : Triple) → entry_in ts a ≡ Some t → list_any (same_triple t) ts ≡ true
any-entry [] a t h = absurd (cc)
any-entry (s ∷ ts) a t h = by (a == diagram_size ts) h (any-entry ts a t)
  where
    by : (b : Bool) → cond b (Some s) (entry_in ts a) ≡ Some t → (entry_in ts a ≡ Some t → list_any (same_triple t) ts ≡ true) → (same_triple t s || list_any (same_triple t) ts) ≡ true
    by true is rest = let same : s ≡ t = cc in ap (λ u. same_triple t u || list_any (same_triple t) ts) same ∙ ap (λ b. b || list_any (same_triple t) ts) (same_triple-refl t)
    by false is rest = or_right (same_triple t s) (list_any (same_triple t) ts) (rest is)

-- what inserting a triple into the set does to the list of entries
pub placed : (keys new : List Triple) (t k : Triple) (i : ℕ) → new ≡ insert_key same_triple keys t → slice_get new i ≡ Some k → same_triple t k ≡ true
    → Placed (reverse keys) (reverse new) t (i + 2)
placed keys new t k i is at same = record {
  grown = by (list_any (same_triple t) keys) refl is;
  entry = entry-reverse (reverse new) i ∙ ap (λ l. slice_get l i) (reverse-reverse new) ∙ at ∙ ap Some (sym (same_triple-true t k same));
}
  where
    by : (b : Bool) → list_any (same_triple t) keys ≡ b → new ≡ cond b keys (keys ++ t ∷ [])
        → (reverse new ≡ reverse keys) ⊎ ((reverse new ≡ t ∷ reverse keys) × ((a : ℕ) → entry_in (reverse keys) a ≢ Some t))
    by true e is = inl (ap reverse is)
    by false e is = inr (
      ap reverse is ∙ reverse-append keys (t ∷ []),
      λ a there. true≢false (sym (any-entry (reverse keys) a t there) ∙ sym (list_any-IsPermutation (same_triple t) keys (reverse keys) (IsPermutation-reverse keys)) ∙ e),
    )

-- a triple that may stand above a diagram was placed
module _ (ts us : List Triple) (d : IsDiagram ts) (t : Triple) (r : ℕ) (p : Placed ts us t r)
    (off : t.off < diagram_size ts) (on : t.on < diagram_size ts) (off_above : t.option < top ts t.off) (on_above : t.option < top ts t.on) (differ : t.off ≢ t.on) where
  pub makes_diagram : IsDiagram us
  makes_diagram = elim p.grown [
    | inl same ↦ subst IsDiagram (sym same) d
    | inr new ↦ subst IsDiagram (sym new.0) (d, record { off_within = off; on_within = on; off_above = off_above; on_above = on_above; differ = differ; absent = new.1 })
  ]

  pub makes_extends : Extends ts us
  makes_extends = elim p.grown [
    | inl same ↦ extends_by [] ts us same
    | inr new ↦ extends_by (t ∷ []) ts us new.0
  ]

  pub makes_one : diagram_size us ≤ diagram_size ts + 1
  makes_one = elim p.grown [
    | inl same ↦ omega (arith, ap diagram_size same)
    | inr new ↦ omega (arith, ap diagram_size new.0)
  ]

  pub makes_node : Stands us r t.option (max (t.option + 1) (max (span ts t.off) (span ts t.on))) (λ c. cond (is_on c t.option) (value_in ts t.on c) (value_in ts t.off c))
  makes_node =
      let e : IsEntry us r t = entry_facts us makes_diagram r t p.entry in
      let x : Extends ts us = makes_extends in
      record {
        within = e.within;
        above = omega (arith, e.option);
        below = omega (arith, e.spans, x.most t.off off, x.most t.on on);
        value = λ c. e.value c ∙ (λ j. cond (is_on c t.option) (x.value t.on on c j) (x.value t.off off c j));
      }

-- the entry of a node that may have one
pub entry-keys : (keys : List Triple) (a : ℕ) → 2 ≤ a → entry_in (reverse keys) a ≡ slice_get keys (a - 2)
entry-keys keys a h =
    let at : a ≡ (a - 2) + 2 = omega (arith, h) in
    ap (entry_in (reverse keys)) at ∙ entry-reverse (reverse keys) (a - 2) ∙ ap (λ l. slice_get l (a - 2)) (reverse-reverse keys)

-- what `make` owes, from what placing a triple gives
module _ {E : Type 0} (ts us : List Triple) (d : IsDiagram ts) (t : Triple)
    (off : t.off < diagram_size ts) (on : t.on < diagram_size ts) (off_above : t.option < top ts t.off) (on_above : t.option < top ts t.on) (differ : t.off ≢ t.on) where
  pub result_extends : (r : Result ℕ E) → IfOk r (Placed ts us t) → OnErr r (us ≡ ts) → Extends ts us
  result_extends (Ok n) p same = makes_extends ts us d t n p off on off_above on_above differ
  result_extends (Err e) p same = extends_by [] ts us same

  pub result_stands : (r : Result ℕ E) → IfOk r (Placed ts us t)
      → IfOk r (λ n. Stands us n t.option (max (t.option + 1) (max (span ts t.off) (span ts t.on))) (λ c. cond (is_on c t.option) (value_in ts t.on c) (value_in ts t.off c)))
  result_stands (Ok n) p = makes_node ts us d t n p off on off_above on_above differ
  result_stands (Err e) p = tt
