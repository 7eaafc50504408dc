-- The nodes that are reached from a node.
use Rattle.std.proofs.Common.{◌≡◌, ℕ, ◌<◌, ◌≤◌, ◌==◌, ◌||◌, inl, inr, Bool, true, false, cond, List, [], ◌∷◌, ◌++◌, Some, refl, sym, ap, ◌∙◌, arith}
use Rattle.std.proofs.lemmas.Bool.{eq-eqb, eqb-true, or_left, or_right, or_cases}
use Rattle.cov_dd.specs.declared.triple.Triple.{Triple}
use Rattle.cov_dd.specs.Diagrams.{diagram_size, entry_in, IsDiagram, IsEntry}
use Rattle.cov_dd.specs.Reached.{reaches}
use Rattle.cov_dd.proofs.Nodes.{cond-older, older, entry_facts}

pub reaches-append : (more ts : List Triple) (a n : ℕ) → a < diagram_size ts → reaches (more ++ ts) a n ≡ reaches ts a n
reaches-append [] ts a n h = refl
reaches-append (t ∷ more) ts a n h = cond-older a (diagram_size (more ++ ts)) _ (reaches (more ++ ts) a n) (older more ts a h) ∙ reaches-append more ts a n h

-- what a node reaches by way of its children
pub reaches-entry : (ts : List Triple) → IsDiagram ts → (a : ℕ) (t : Triple) (n : ℕ) → entry_in ts a ≡ Some t
    → reaches ts a n ≡ (a == n || (reaches ts t.off n || reaches ts t.on n))
reaches-entry [] d a t n h = absurd (cc)
reaches-entry (s ∷ ts) d a t n h = by (a == diagram_size ts) h (λ is. (entry_facts ts d.0 a t is, reaches-entry ts d.0 a t n is))
  where
    kept : (b : ℕ) → b < diagram_size ts → reaches (s ∷ ts) b n ≡ reaches ts b n
    kept b h = reaches-append (s ∷ []) ts b n h

    by : (b : Bool) → cond b (Some s) (entry_in ts a) ≡ Some t
        → (entry_in ts a ≡ Some t → IsEntry ts a t × (reaches ts a n ≡ (a == n || (reaches ts t.off n || reaches ts t.on n))))
        → cond b (a == n || (reaches ts s.off n || reaches ts s.on n)) (reaches ts a n) ≡ (a == n || (reaches (s ∷ ts) t.off n || reaches (s ∷ ts) t.on n))
    by true is rest =
        let same : s ≡ t = cc in
        (λ j. a == n || (sym (kept s.off d.1.off_within) j || sym (kept s.on d.1.on_within) j))
        ∙ ap (λ (u : Triple). a == n || (reaches (s ∷ ts) u.off n || reaches (s ∷ ts) u.on n)) same
    by false is rest =
        let f = rest is in
        f.1 ∙ (λ j. a == n || (sym (kept t.off (omega (arith, f.0.off_before, f.0.within))) j || sym (kept t.on (omega (arith, f.0.on_before, f.0.within))) j))

module _ (ts : List Triple) (d : IsDiagram ts) (a : ℕ) (t : Triple) (is : entry_in ts a ≡ Some t) (n : ℕ) where
  pub reaches-off : reaches ts t.off n ≡ true → reaches ts a n ≡ true
  reaches-off h = reaches-entry ts d a t n is ∙ or_right (a == n) _ (or_left (reaches ts t.off n) (reaches ts t.on n) h)

  pub reaches-on : reaches ts t.on n ≡ true → reaches ts a n ≡ true
  reaches-on h = reaches-entry ts d a t n is ∙ or_right (a == n) _ (or_right (reaches ts t.off n) (reaches ts t.on n) h)

pub reaches-itself : (ts : List Triple) (a : ℕ) → reaches ts a a ≡ true
reaches-itself [] a = eq-eqb a a refl
reaches-itself (t ∷ ts) a = by (a == diagram_size ts) (reaches-itself ts a)
  where
    by : (b : Bool) → reaches ts a a ≡ true → cond b (a == a || (reaches ts t.off a || reaches ts t.on a)) (reaches ts a a) ≡ true
    by true h = or_left (a == a) _ (eq-eqb a a refl)
    by false h = h

-- no node after it
pub reaches-most : (ts : List Triple) → IsDiagram ts → (a n : ℕ) → reaches ts a n ≡ true → n ≤ a
reaches-most [] d a n h = omega (arith, eqb-true a n h)
reaches-most (t ∷ ts) d a n h = by (a == diagram_size ts) refl h (reaches-most ts d.0 a n) (reaches-most ts d.0 t.off n) (reaches-most ts d.0 t.on n)
  where
    by : (b : Bool) → (a == diagram_size ts) ≡ b → cond b (a == n || (reaches ts t.off n || reaches ts t.on n)) (reaches ts a n) ≡ true
        → (reaches ts a n ≡ true → n ≤ a) → (reaches ts t.off n ≡ true → n ≤ t.off) → (reaches ts t.on n ≡ true → n ≤ t.on) → n ≤ a
    by true e h here off on =
        let at = eqb-true a (diagram_size ts) e in
        elim (or_cases (a == n) _ h) [
          | inl itself ↦ omega (arith, eqb-true a n itself)
          | inr below ↦ elim (or_cases (reaches ts t.off n) (reaches ts t.on n) below) [
            | inl by_off ↦ omega (arith, off by_off, at, d.1.off_within)
            | inr by_on ↦ omega (arith, on by_on, at, d.1.on_within)
          ]
        ]
    by false e h here off on = here h
