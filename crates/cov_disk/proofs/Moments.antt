-- What images a crash may leave at the moments of a run of calls.
use Rattle.std.proofs.Common.{inr, inl, ⊎_elim, ℕ, List, arith}
use Rattle.cov_disk.specs.Images.{Elapses, LeavesOnly}

module _ {D : Type 0} (moment : D → ℕ) (images_since : D → ℕ → List ℕ → Type 0) where
  -- before the first call
  pub started : (old : D) (P : List ℕ → Type 0) → ((c : List ℕ) → images_since old (moment old) c → P c) → LeavesOnly moment images_since old old P
  started old P here = record { later = omega arith; each = here; before = λ t c le since. inl since }

  -- one call more, after which each image has P
  pub goes_on : (old mid new : D) (P images : List ℕ → Type 0) → LeavesOnly moment images_since old mid P → Elapses (moment mid) (moment new) (images_since mid) (images_since new) images
      → ((c : List ℕ) → images c → P c) → LeavesOnly moment images_since old new P
  goes_on old mid new P images so_far time here = record {
    later = omega (arith, so_far.later, time.later);
    each = λ c since. ⊎_elim (so_far.each c) (here c) (time.nothing_else (moment old) c so_far.later since);
    before = λ t c le since. ⊎_elim (so_far.before t c le) (λ now. inr (here c now)) (time.nothing_else t c (omega (arith, le, so_far.later)) since);
  }

  -- one run after another
  pub joined : (old mid new : D) (P : List ℕ → Type 0) → LeavesOnly moment images_since old mid P → LeavesOnly moment images_since mid new P → LeavesOnly moment images_since old new P
  joined old mid new P first second = record {
    later = omega (arith, first.later, second.later);
    each = λ c since. ⊎_elim (first.each c) (λ p. p) (second.before (moment old) c first.later since);
    before = λ t c le since. ⊎_elim (first.before t c le) (λ p. inr p) (second.before t c (omega (arith, le, first.later)) since);
  }

  -- what each image has, it has of more
  pub weakened : (old new : D) (P Q : List ℕ → Type 0) → ((c : List ℕ) → P c → Q c) → LeavesOnly moment images_since old new P → LeavesOnly moment images_since old new Q
  weakened old new P Q to run = record {
    later = run.later;
    each = λ c since. to c (run.each c since);
    before = λ t c le since. ⊎_elim (λ past. inl past) (λ p. inr (to c p)) (run.before t c le since);
  }
