-- Sights that are kept, looked for and gone through one after another.
use Rattle.std.proofs.Common.{◌≡◌, ℕ, zero, suc, ◌+◌, ◌<◌, ◌≤◌, Bool, List, [], ◌∷◌, length, get_or, slice_get, set, Some, refl, subst, arith}
use Rattle.std.specs.Option.{IfSome, option_map}
use Rattle.std.proofs.lemmas.Option.{none-some, same_Some}
use Rattle.cov_values.specs.Sights.{AreRight, IsRight}
use Rattle.cov_values.specs.Values.{Agrees}
use Rattle.cov_values.specs.declared.sights.Sight.{Sight}

module _ {T : Type 0} where
  -- what a sight that is found shows is right
  pub sight_found : (f : ℕ → Bool) (ss : List (Sight T)) (at : ℕ) (x : T) → option_map (λ (s : Sight T). s.shown) (slice_get ss at) ≡ Some (Some x)
      → ((s : Sight T) → slice_get ss at ≡ Some s → Agrees f s.values) → (shows : (ℕ → Bool) → T) → AreRight shows ss → shows f ≡ x
  sight_found f [] at x is agrees shows h = absurd (none-some (Some x) is)
  sight_found f (s ∷ ss) zero x is agrees shows h = subst (λ o. IfSome o (λ y. shows f ≡ y)) (same_Some s.shown (Some x) is) (h.0 f (agrees s refl))
  sight_found f (s ∷ ss) (suc at) x is agrees shows h = sight_found f ss at x is agrees shows h.1

  -- up to an index they are right as one thing, from there on as another
  abbrev pub AreUntil : ((ℕ → Bool) → T) → ((ℕ → Bool) → T) → ℕ → List (Sight T) → Type 0
  AreUntil before after i [] = Unit {0}
  AreUntil before after zero (s ∷ ss) = IsRight before s × AreUntil before after zero ss
  AreUntil before after (suc i) (s ∷ ss) = IsRight after s × AreUntil before after i ss

  module _ (before after : (ℕ → Bool) → T) where
    pub none_yet : (ss : List (Sight T)) → AreRight before ss → AreUntil before after 0 ss
    none_yet [] h = tt
    none_yet (s ∷ ss) h = (h.0, none_yet ss h.1)

    pub one_more : (i : ℕ) (ss : List (Sight T)) (d s : Sight T) → i < length ss → (IsRight before (get_or ss i d) → IsRight after s) → AreUntil before after i ss → AreUntil before after (i + 1) (set ss i s)
    one_more i ss d s within forward h = subst (λ n. AreUntil before after n (set ss i s)) (omega arith) (at i ss within forward h)
      where
        at : (i : ℕ) (ss : List (Sight T)) → i < length ss → (IsRight before (get_or ss i d) → IsRight after s) → AreUntil before after i ss → AreUntil before after (suc i) (set ss i s)
        at i [] within forward h = absurd (omega (arith, within))
        at zero (x ∷ xs) within forward h = (forward h.0, h.1)
        at (suc i) (x ∷ xs) within forward h = (h.0, at i xs (omega (arith, within)) forward h.1)

    pub all_are : (i : ℕ) (ss : List (Sight T)) → length ss ≤ i → AreUntil before after i ss → AreRight after ss
    all_are i [] long h = tt
    all_are zero (s ∷ ss) long h = absurd (omega (arith, long))
    all_are (suc i) (s ∷ ss) long h = (h.0, all_are i ss (omega (arith, long)) h.1)
