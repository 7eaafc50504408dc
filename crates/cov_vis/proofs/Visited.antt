-- The nodes that a walk meets.
use Rattle.std.proofs.Common.{◌≡◌, ℕ, ◌<◌, Bool, true, false, cond, List, [], ◌∷◌, ◌++◌, Some, None, true≢false, refl, sym, ap, ◌∙◌, subst, arith}
use Rattle.std.specs.Prelude.{nat_eq, not}
use Rattle.std.specs.List.{list_any}
use Rattle.cov_dd.specs.declared.triple.Triple.{Triple}
use Rattle.cov_dd.specs.Diagrams.{diagram_size, entry_in, IsDiagram}
use Rattle.cov_dd.proofs.CallerLemmas.{has_entry, Order, below, level, above, ordered}
use Rattle.cov_vis.specs.Visiting.{Visits, known, further}

pub known_visit : (ts : List Triple) (ns ms : List ℕ) (a : ℕ) (b : Bool) → b ≡ not (list_any (nat_eq a) ns) → ms ≡ cond b (ns ++ a ∷ []) ns → b ≡ false → Visits ts ns a ms
known_visit ts ns ms a b new is old = subst (Visits ts ns a) (sym (is ∙ ap (λ x. cond x (ns ++ a ∷ []) ns) old)) (known (there (list_any (nat_eq a) ns) (sym new ∙ old)))
  where
    there : (x : Bool) → not x ≡ false → x ≡ true
    there true h = refl
    there false h = absurd (true≢false h)

pub further_visit : (ts : List Triple) (ns ms ks ls : List ℕ) (a : ℕ) (b : Bool) (t : Triple) → entry_in ts a ≡ Some t → b ≡ not (list_any (nat_eq a) ns) → ms ≡ cond b (ns ++ a ∷ []) ns → b ≡ true
    → Visits ts ms t.off ks → Visits ts ks t.on ls → Visits ts ns a ls
further_visit ts ns ms ks ls a b t at new is fresh off on =
    further at (there (list_any (nat_eq a) ns) (sym new ∙ fresh)) (subst (λ l. Visits ts l t.off ks) (is ∙ ap (λ x. cond x (ns ++ a ∷ []) ns) fresh) off) on
  where
    there : (x : Bool) → not x ≡ true → x ≡ false
    there false h = refl
    there true h = absurd (true≢false (sym h))

module _ (ts : List Triple) (d : IsDiagram ts) where
  pub constant_small : (a : ℕ) → a < diagram_size ts → entry_in ts a ≡ None → a < 2
  constant_small a within h = by (ordered a 1)
    where
      none-some : (t : Triple) → entry_in ts a ≡ Some t → ⊥
      none-some t k = absurd (cc)

      by : Order a 1 → a < 2
      by (below l) = omega (arith, l)
      by (level l) = omega (arith, l)
      by (above l) = let t = has_entry ts a l within in absurd (none-some t.0 t.1)
