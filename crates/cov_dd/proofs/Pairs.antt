-- The entries of a map from pairs, read from the newest.
use Rattle.std.proofs.Common.{◌≡◌, ℕ, ◌&&◌, nat_eq, Bool, true, false, cond, List, [], ◌∷◌, ◌++◌, reverse, Option, Some, None, IfSome, IfNone, refl, sym, ap, ◌∙◌, inl, inr, ◌⊎◌, subst, true≢false}
use Rattle.std.proofs.lemmas.Bool.{eq-eqb, eqb-true}
use Rattle.std.proofs.lemmas.Grind.{reverse_onto}
use Rattle.std.proofs.lemmas.List.{reverse-append}
use Rattle.std.specs.Map.{lookup}
use Rattle.indexmap.specs.IndexMap.{insert_entry}
use Rattle.cov_dd.specs.declared.memo.Pair.{Pair}
use Rattle.cov_dd.specs.Memos.{IsKey, IsMade}

-- the derived test of equality
abbrev pub same_pair : Pair → Pair → Bool
same_pair p q = nat_eq p.left q.left && nat_eq p.right q.right

pub same_pair-true : (p q : Pair) → same_pair p q ≡ true → p ≡ q
same_pair-true p q h = by (nat_eq p.left q.left) refl h
  where
    by : (b : Bool) → nat_eq p.left q.left ≡ b → (b && nat_eq p.right q.right) ≡ true → p ≡ q
    by true e h =
        let left : p.left ≡ q.left = eqb-true p.left q.left e in
        let right : p.right ≡ q.right = eqb-true p.right q.right h in
        λ j. record { left = left j; right = right j }
    by false e h = absurd (true≢false (sym h))

same_pair-refl : (p : Pair) → same_pair p p ≡ true
same_pair-refl p = λ j. (eq-eqb p.left p.left refl) j && (eq-eqb p.right p.right refl) j

IsKey-append : (es fs : List (Pair × ℕ)) (p : Pair) → IsKey es p ⊎ IsKey fs p → IsKey (es ++ fs) p
IsKey-append [] fs p (inl h) = absurd h
IsKey-append [] fs p (inr h) = h
IsKey-append (e ∷ es) fs p (inl (inl h)) = inl h
IsKey-append (e ∷ es) fs p (inl (inr h)) = inr (IsKey-append es fs p (inl h))
IsKey-append (e ∷ es) fs p (inr h) = inr (IsKey-append es fs p (inr h))

pub IsKey-split : (es fs : List (Pair × ℕ)) (p : Pair) → IsKey (es ++ fs) p → IsKey es p ⊎ IsKey fs p
IsKey-split [] fs p h = inr h
IsKey-split (e ∷ es) fs p (inl h) = inl (inl h)
IsKey-split (e ∷ es) fs p (inr h) = elim (IsKey-split es fs p h) [ inl k ↦ inl (inr k) | inr k ↦ inr k ]

IsMade-append : (es fs : List (Pair × ℕ)) (p : Pair) (r : ℕ) → IsMade es p r ⊎ IsMade fs p r → IsMade (es ++ fs) p r
IsMade-append [] fs p r (inl h) = absurd h
IsMade-append [] fs p r (inr h) = h
IsMade-append (e ∷ es) fs p r (inl (inl h)) = inl h
IsMade-append (e ∷ es) fs p r (inl (inr h)) = inr (IsMade-append es fs p r (inl h))
IsMade-append (e ∷ es) fs p r (inr h) = inr (IsMade-append es fs p r (inr h))

key-reverse : (es : List (Pair × ℕ)) (p : Pair) → IsKey (reverse es) p → IsKey es p
key-reverse [] p h = h
key-reverse (e ∷ es) p h = by (IsKey-split (reverse es) (e ∷ []) p (subst (λ l. IsKey l p) (reverse_onto es e []) h)) (key-reverse es p)
  where
    by : IsKey (reverse es) p ⊎ IsKey (e ∷ []) p → (IsKey (reverse es) p → IsKey es p) → IsKey (e ∷ es) p
    by (inl h) rest = inr (rest h)
    by (inr (inl h)) rest = inl h
    by (inr (inr h)) rest = absurd h

reverse-key : (es : List (Pair × ℕ)) (p : Pair) → IsKey es p → IsKey (reverse es) p
reverse-key [] p h = h
reverse-key (e ∷ es) p (inl h) = subst (λ l. IsKey l p) (sym (reverse_onto es e [])) (IsKey-append (reverse es) (e ∷ []) p (inr (inl h)))
reverse-key (e ∷ es) p (inr h) = subst (λ l. IsKey l p) (sym (reverse_onto es e [])) (IsKey-append (reverse es) (e ∷ []) p (inl (reverse-key es p h)))

reverse-made : (es : List (Pair × ℕ)) (p : Pair) (r : ℕ) → IsMade es p r → IsMade (reverse es) p r
reverse-made [] p r h = h
reverse-made (e ∷ es) p r (inl h) = subst (λ l. IsMade l p r) (sym (reverse_onto es e [])) (IsMade-append (reverse es) (e ∷ []) p r (inr (inl h)))
reverse-made (e ∷ es) p r (inr h) = subst (λ l. IsMade l p r) (sym (reverse_onto es e [])) (IsMade-append (reverse es) (e ∷ []) p r (inl (reverse-made es p r h)))

pub lookup-made : (es : List (Pair × ℕ)) (p : Pair) (r : ℕ) → lookup (same_pair p) es ≡ Some r → IsMade es p r
lookup-made [] p r h = absurd (cc)
lookup-made (e ∷ es) p r h = by (same_pair p e.0) refl h (lookup-made es p r)
  where
    by : (b : Bool) → same_pair p e.0 ≡ b → cond b (Some e.1) (lookup (same_pair p) es) ≡ Some r → (lookup (same_pair p) es ≡ Some r → IsMade es p r) → IsMade (e ∷ es) p r
    by true same h rest =
        let key : e.0 ≡ p = sym (same_pair-true p e.0 same) in
        let node : e.1 ≡ r = cc in
        inl (λ j. (key j, node j))
    by false same h rest = inr (rest h)

key-lookup : (es : List (Pair × ℕ)) (p : Pair) → lookup (same_pair p) es ≡ None → IsKey es p → ⊥
key-lookup [] p h k = k
key-lookup (e ∷ es) p h k = by (same_pair p e.0) refl h k (key-lookup es p)
  where
    by : (b : Bool) → same_pair p e.0 ≡ b → cond b (Some e.1) (lookup (same_pair p) es) ≡ None → IsKey (e ∷ es) p → (lookup (same_pair p) es ≡ None → IsKey es p → ⊥) → ⊥
    by true same h k rest = absurd (cc)
    by false same h (inl k) rest = true≢false (sym (same_pair-refl p) ∙ ap (same_pair p) (sym k) ∙ same)
    by false same h (inr k) rest = rest h k

-- what a look-up found
pub found_some : (es : List (Pair × ℕ)) (p : Pair) (o : Option ℕ) → o ≡ lookup (same_pair p) es → IfSome o (IsMade (reverse es) p)
found_some es p None e = tt
found_some es p (Some r) e = reverse-made es p r (lookup-made es p r (sym e))

pub found_none : (es : List (Pair × ℕ)) (p : Pair) (o : Option ℕ) → o ≡ lookup (same_pair p) es → IfNone o (IsKey (reverse es) p → ⊥)
found_none es p None e = λ k. key-lookup es p (sym e) (key-reverse es p k)
found_none es p (Some r) e = tt

insert-fresh : (es : List (Pair × ℕ)) (p : Pair) (r : ℕ) → (IsKey es p → ⊥) → insert_entry same_pair es p r ≡ es ++ (p, r) ∷ []
insert-fresh [] p r fresh = refl
insert-fresh (e ∷ es) p r fresh = by (same_pair p e.0) refl (insert-fresh es p r (λ k. fresh (inr k)))
  where
    by : (b : Bool) → same_pair p e.0 ≡ b → insert_entry same_pair es p r ≡ es ++ (p, r) ∷ [] → cond b ((e.0, r) ∷ es) (e ∷ insert_entry same_pair es p r) ≡ e ∷ (es ++ (p, r) ∷ [])
    by true same rest = absurd (fresh (inl (sym (same_pair-true p e.0 same))))
    by false same rest = ap (λ l. e ∷ l) rest

-- a fresh pair goes to the front
pub put_fresh : (es fs : List (Pair × ℕ)) (p : Pair) (r : ℕ) → (IsKey (reverse es) p → ⊥) → fs ≡ insert_entry same_pair es p r → reverse fs ≡ (p, r) ∷ reverse es
put_fresh es fs p r fresh is = ap reverse (is ∙ insert-fresh es p r (λ k. fresh (reverse-key es p k))) ∙ reverse-append es ((p, r) ∷ [])
