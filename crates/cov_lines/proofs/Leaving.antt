-- What a crash leaves as a line is answered.
use Rattle.std.proofs.Common.{◌≡◌, ◌⊎◌, ◌∙◌, inl, sym, ap, subst, ℕ, List, [], ◌∷◌, ◌++◌, None}
use Rattle.cov_disk.specs.Images.{LeavesOnly}
use Rattle.cov_edit.specs.declared.command.Command.{Command}
use Rattle.cov_history.specs.Verdict.{verdict}
use Rattle.cov_journal.proofs.CallerLemmas.{started}
use Rattle.cov_loop.specs.Keeping.{AreAll, IsEither}
use Rattle.cov_lines.specs.States.{State}
use Rattle.cov_lines.specs.Storing.{grown, stored, unless_refused}
use Rattle.cov_store.specs.Stands.{IsStored}

pub accepted-grown : (history : List Command) (k : Command) → verdict history k ≡ None → history ++ k ∷ [] ≡ grown history k
accepted-grown history k accepted = sym (ap (λ o. unless_refused o history k) accepted)

module _ {D : Type 0} (moment : D → ℕ) (images_since : D → ℕ → List ℕ → Type 0) where
  -- a command was accepted
  pub leaves-grown : (old new : D) (st : State) (history : List Command) (k : Command) → history ≡ st.history → verdict history k ≡ None
      → LeavesOnly moment images_since old new (λ image. IsStored image history ⊎ IsStored image (history ++ k ∷ []))
      → LeavesOnly moment images_since old new (IsEither (stored st) (λ image. IsStored image (grown st.history k)))
  leaves-grown old new st history k same accepted leaves =
      subst (λ h. LeavesOnly moment images_since old new (λ image. IsStored image h ⊎ IsStored image (grown st.history k))) same
      (subst (λ h. LeavesOnly moment images_since old new (λ image. IsStored image history ⊎ IsStored image h)) (accepted-grown history k accepted ∙ ap (λ h. grown h k) same) leaves)

  -- the disk wasn't called
  pub leaves-same : (images : D → List ℕ → Type 0) (old new : D) → ((c : List ℕ) → images_since old (moment old) c → images old c) → new ≡ old
      → (st : State) (Q : List ℕ → Type 0) → AreAll (stored st) (images old) → LeavesOnly moment images_since old new (IsEither (stored st) Q)
  leaves-same images old new only same st Q all =
      subst (λ disk. LeavesOnly moment images_since old disk (IsEither (stored st) Q)) (sym same) (started moment images_since old (IsEither (stored st) Q) (λ c since. inl (all c (only c since))))

  -- the same of another state and history that are these
  pub leaves-for : (old new : D) (st other : State) (history later : List Command) → other ≡ st → history ≡ later
      → LeavesOnly moment images_since old new (IsEither (stored other) (λ image. IsStored image history))
      → LeavesOnly moment images_since old new (IsEither (stored st) (λ image. IsStored image later))
  leaves-for old new st other history later same is leaves =
      subst (λ t. LeavesOnly moment images_since old new (IsEither (stored t) (λ image. IsStored image later))) same
      (subst (λ h. LeavesOnly moment images_since old new (IsEither (stored other) (λ image. IsStored image h))) is leaves)
