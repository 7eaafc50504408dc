-- A command's record that is appended.
use Rattle.std.proofs.Common.{◌≡◌, ◌⊎◌, inl, inr, ℕ, ◌+◌, ◌<◌, ◌≤◌, ◌^◌, List, [], ◌∷◌, ◌++◌, length, Option, IfSome, sym, ◌∙◌, ap, subst, arith}
use Rattle.cov_disk.specs.Images.{LeavesOnly}
use Rattle.cov_edit.specs.declared.command.Command.{Command}
use Rattle.cov_journal.specs.Gates.{HasGate}
use Rattle.cov_journal.specs.Journal.{State, FitsState, IsWritten}
use Rattle.cov_journal.proofs.CallerLemmas.{some_to, weakened}
use Rattle.cov_record.proofs.CallerLemmas.{payload-short}
use Rattle.cov_store.specs.Applying.{IsAccepted}
use Rattle.cov_store.specs.Stands.{payloads, gate_of, IsStored, IsJournalOf}
use Rattle.cov_store.proofs.Legal.{accepted-within, fits-push, gate-near, legal-push, payloads-push}

module _ (history : List Command) (c : Command) (p : List ℕ) (a : IsAccepted history c p) where
  pub short : length p < 2 ^ 27
  short = let own = payload-short c a.record_is.0 (accepted-within history c a.accepted) in omega (arith, own, ap length a.record_is.1)

  -- the payloads with its own
  grown : payloads history ++ p ∷ [] ≡ payloads (history ++ c ∷ [])
  grown = ap (λ q. payloads history ++ q ∷ []) a.record_is.1 ∙ sym (payloads-push history c)

  module _ (journal : State) (of : IsJournalOf journal history) where
    pub near : journal.at + length p + 37 ≤ 2 ^ 62
    near = omega (arith, short, of.fits.place, gate-near history a.legal of.records)

    pub stored_still : (image : List ℕ) → IsWritten image (payloads history) → IsStored image history
    stored_still image w = record { legal = a.legal; fits = of.records; written = w }

    -- bytes that are the payload, however they are lent
    module _ (q : List ℕ) (is : q ≡ p) where
      with_it : payloads history ++ q ∷ [] ≡ payloads (history ++ c ∷ [])
      with_it = ap (λ q. payloads history ++ q ∷ []) is ∙ grown

      pub stored_with : (image : List ℕ) → IsWritten image (payloads history ++ q ∷ []) → IsStored image (history ++ c ∷ [])
      stored_with image w = record { legal = legal-push history c a.legal a.record_is.0.0 a.accepted; fits = fits-push history c of.records a.record_is.0; written = subst (IsWritten image) with_it w }

      pub journal_with : (next : State) → FitsState next (payloads history ++ q ∷ []) → IsJournalOf next (history ++ c ∷ [])
      journal_with next fits = record { fits = subst (FitsState next) with_it fits; records = fits-push history c of.records a.record_is.0 }

      pub gate_with : (next : State) (o : Option (List ℕ)) → FitsState next (payloads history ++ q ∷ []) → HasGate o next.at → HasGate o (gate_of (history ++ c ∷ []))
      gate_with next o fits gate = subst (HasGate o) (journal_with next fits).fits.place gate

      pub told_with : (o : Option (List ℕ)) → IfSome o (λ image. IsWritten image (payloads history ++ q ∷ [])) → IfSome o (λ image. IsStored image (history ++ c ∷ []))
      told_with o w = some_to (λ image. IsWritten image (payloads history ++ q ∷ [])) (λ image. IsStored image (history ++ c ∷ [])) stored_with o w

      either_with : (image : List ℕ) → IsWritten image (payloads history) ⊎ IsWritten image (payloads history ++ q ∷ []) → IsStored image history ⊎ IsStored image (history ++ c ∷ [])
      either_with image w = elim w [ inl old ↦ inl (stored_still image old) | inr new ↦ inr (stored_with image new) ]

      pub moments_with : {D : Type 0} (moment : D → ℕ) (images_since : D → ℕ → List ℕ → Type 0) (old new : D)
          → LeavesOnly moment images_since old new (λ image. IsWritten image (payloads history) ⊎ IsWritten image (payloads history ++ q ∷ []))
          → LeavesOnly moment images_since old new (λ image. IsStored image history ⊎ IsStored image (history ++ c ∷ []))
      moments_with moment images_since old new run =
          weakened moment images_since old new (λ image. IsWritten image (payloads history) ⊎ IsWritten image (payloads history ++ q ∷ []))
          (λ image. IsStored image history ⊎ IsStored image (history ++ c ∷ [])) either_with run

-- a journal in which only the room has changed
pub journal_still : (old new : State) (history : List Command) → new.at ≡ old.at → new.digest ≡ old.digest → IsJournalOf old history → IsJournalOf new history
journal_still old new history at digest of = record {
  fits = record { place = at ∙ of.fits.place; digest = digest ∙ of.fits.digest };
  records = of.records;
}

-- the same of an equal history
pub moments_as : {D : Type 0} (moment : D → ℕ) (images_since : D → ℕ → List ℕ → Type 0) (before now : D) (old : List ℕ → Type 0) (h k : List Command) (c : Command) → h ≡ k
    → (((image : List ℕ) → old image → IsStored image h) → LeavesOnly moment images_since before now (λ image. IsStored image h ⊎ IsStored image (h ++ c ∷ [])))
    → ((image : List ℕ) → old image → IsStored image k) → LeavesOnly moment images_since before now (λ image. IsStored image k ⊎ IsStored image (k ++ c ∷ []))
moments_as moment images_since before now old h k c is to =
    subst (λ k. ((image : List ℕ) → old image → IsStored image k) → LeavesOnly moment images_since before now (λ image. IsStored image k ⊎ IsStored image (k ++ c ∷ []))) is to
