-- What a replica answers, by what is taken of its bytes.
use Rattle.std.proofs.Common.{◌≡◌, ℕ, ◌-◌, ◌≤◌, true, false, List, ◌++◌, length, take, Option, Some, None, Result, Ok, Err, OnOk, IfErr, refl, sym, ◌∙◌, ap, subst, arith, length-append, length-take}
use Rattle.std.specs.Prelude.{is_some}
use Rattle.cov_edit.specs.declared.command.Command.{Command}
use Rattle.cov_replica.specs.Feeding.{Feeds, IsReplica, TellsFault, with_piece}
use Rattle.cov_replica.specs.Laws.{IsFaultOfBytes}
use Rattle.cov_replica.specs.Taken.{taken}
use Rattle.cov_replica.specs.declared.fault.ReplicaFault.{ReplicaFault}
use Rattle.cov_replica.specs.declared.fault.ReplicaFault.TheVariants as faults
use Rattle.cov_replica.proofs.Pieces.{with_none, with_some}
use Rattle.cov_replica.proofs.Steps.{replica_taken}
use Rattle.cov_replica.proofs.Faults.{never_want}

never : (bytes : List ℕ) (count : ℕ) → (taken bytes).fault ≡ Some (faults.Memory count) → ⊥
never bytes count e = subst IsFaultOfBytes e (never_want bytes)

pub none_is : (o : Option ReplicaFault) → is_some o ≡ false → o ≡ None
none_is None e = refl
none_is (Some fault) e = absurd (cc)

-- the fault that a replica keeps is that of its bytes
pub fault_taken : (bytes seen : List ℕ) (at : ℕ) (digest : List ℕ) (history : List Command) (fault : Option ReplicaFault) → IsReplica bytes at digest history fault → bytes ≡ seen → (taken seen).fault ≡ fault
fault_taken bytes seen at digest history fault c is = ap (λ b. (taken b).fault) (sym is) ∙ ap (λ t. t.fault) (replica_taken bytes at digest history fault c)

tells : (X : Type 0) (bytes : List ℕ) (fault : ReplicaFault) → (taken bytes).fault ≡ Some fault → TellsFault {X = X} bytes (Err fault)
tells X bytes faults.NotAStore e = e
tells X bytes (faults.Damaged number cause) e = e
tells X bytes (faults.Memory count) e = absurd (never bytes count e)

feeds : (X : Type 0) (bytes piece new : List ℕ) (fault : ReplicaFault) → (taken new).fault ≡ Some fault → new ≡ with_piece bytes piece → Feeds {X = X} bytes piece new (Err fault)
feeds X bytes piece new faults.NotAStore e is = is
feeds X bytes piece new (faults.Damaged number cause) e is = is
feeds X bytes piece new (faults.Memory count) e is = absurd (never new count e)

-- a fault that was found before is answered again
pub told_again : (X : Type 0) (bytes piece : List ℕ) (o : Option ReplicaFault) (result : Result X ReplicaFault) → (taken bytes).fault ≡ o → is_some o ≡ true
    → OnOk result (o ≡ None) → IfErr result (λ found. o ≡ Some found) → Feeds bytes piece bytes result × TellsFault bytes result
told_again X bytes piece o (Ok u) e there none some = absurd (let both : true ≡ false = sym there ∙ ap is_some none in cc)
told_again X bytes piece o (Err fault) e there none some = (
  feeds X bytes piece bytes fault (e ∙ some) (sym (with_some bytes piece fault (e ∙ some))),
  tells X bytes fault (e ∙ some),
)

-- a fault that is found is answered
pub told_found : (X : Type 0) (bytes piece new : List ℕ) (history : List Command) (fault : ReplicaFault) (result : Result X ReplicaFault) → (taken bytes).fault ≡ None → new ≡ bytes ++ piece
    → taken new ≡ record { history = history; fault = Some fault } → OnOk result (Some fault ≡ None) → IfErr result (λ found. Some fault ≡ Some found) → Feeds bytes piece new result × TellsFault new result
told_found X bytes piece new history fault (Ok u) e is found none some = absurd (cc)
told_found X bytes piece new history fault (Err told) e is found none some =
    let has = ap (λ t. t.fault) found ∙ some in
    (feeds X bytes piece new told has (is ∙ sym (with_none bytes piece e)), tells X new told has)

-- a piece is taken whole
pub fed_whole : (bytes piece new : List ℕ) → (taken bytes).fault ≡ None → new ≡ bytes ++ piece → new ≡ with_piece bytes piece
fed_whole bytes piece new e is = is ∙ sym (with_none bytes piece e)

-- or in part
pub fed_part : (bytes piece new : List ℕ) (a b : ℕ) → (taken bytes).fault ≡ None → (n : ℕ) × (n ≤ length piece) × (new ≡ bytes ++ take n piece) → a ≡ length new → b ≡ length bytes
    → ((taken bytes).fault ≡ None) × (a - b ≤ length piece) × (new ≡ bytes ++ take (a - b) piece)
fed_part bytes piece new a b e (n, few, is) after before =
    let same : a - b ≡ n = omega (arith, few, after, before, ap length is, length-append bytes (take n piece), length-take n piece) in
    (e, omega (arith, few, same), is ∙ ap (λ k. bytes ++ take k piece) (sym same))

pub not_both : (bytes : List ℕ) (fault : ReplicaFault) → (taken bytes).fault ≡ None → (taken bytes).fault ≡ Some fault → ⊥
not_both bytes fault none some = absurd (let both : None ≡ Some fault = sym none ∙ some in cc)
