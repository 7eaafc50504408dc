-- What is taken of pieces.
use Rattle.std.proofs.Common.{◌≡◌, ℕ, List, [], ◌∷◌, ◌++◌, Option, Some, None, refl, sym, ◌∙◌, ap, append_assoc}
use Rattle.std.specs.Prelude.{if◌then◌else◌, is_none}
use Rattle.std.proofs.lemmas.List.{append-nil}
use Rattle.cov_replica.specs.Feeding.{with_piece}
use Rattle.cov_replica.specs.Laws.{AnyPieces, fed, joined}
use Rattle.cov_replica.specs.Taken.{taken}
use Rattle.cov_replica.specs.declared.fault.ReplicaFault.{ReplicaFault}
use Rattle.cov_replica.proofs.Taking.{fault_stays}

-- a piece goes behind bytes without a fault
pub with_none : (bytes piece : List ℕ) → (taken bytes).fault ≡ None → with_piece bytes piece ≡ bytes ++ piece
with_none bytes piece e = ap (λ o. if is_none o then bytes ++ piece else bytes) e

-- and not behind others
pub with_some : (bytes piece : List ℕ) (fault : ReplicaFault) → (taken bytes).fault ≡ Some fault → with_piece bytes piece ≡ bytes
with_some bytes piece fault e = ap (λ o. if is_none o then bytes ++ piece else bytes) e

-- what is taken of bytes with a piece, whatever comes behind, is what is taken of them with all of it
pub piece_goes : (bytes piece more : List ℕ) → taken (with_piece bytes piece ++ more) ≡ taken (bytes ++ (piece ++ more))
piece_goes bytes piece more = by (taken bytes).fault refl
  where
    by : (o : Option ReplicaFault) → (taken bytes).fault ≡ o → taken (with_piece bytes piece ++ more) ≡ taken (bytes ++ (piece ++ more))
    by None e = ap (λ b. taken (b ++ more)) (with_none bytes piece e) ∙ ap taken (append_assoc bytes piece more)
    by (Some fault) e =
        ap (λ b. taken (b ++ more)) (with_some bytes piece fault e)
        ∙ fault_stays bytes more fault e ∙ sym (fault_stays bytes (piece ++ more) fault e)

pub any_pieces : AnyPieces
any_pieces bytes [] = ap taken (sym (append-nil bytes))
any_pieces bytes (piece ∷ pieces) = any_pieces (with_piece bytes piece) pieces ∙ piece_goes bytes piece (joined pieces)
