-- What a replica answers to a piece.
use Rattle.std.specs.Prelude.{◌≡◌, ℕ, ◌≤◌, List, ◌++◌, length, take, is_none, if◌then◌else◌, Option, Some, None, Result, Ok, Err}
use Rattle.cov_edit.specs.declared.command.Command.{Command}
use Rattle.cov_replica.specs.Reading.{IsCaughtUp}
use Rattle.cov_replica.specs.Taken.{taken}
use Rattle.cov_replica.specs.declared.fault.ReplicaFault.{ReplicaFault}
use Rattle.cov_replica.specs.declared.fault.ReplicaFault.TheVariants as faults

-- what is kept of the bytes of a replica: either all records that count were read, or a fault was found
abbrev pub IsReplica : List ℕ → ℕ → List ℕ → List Command → Option ReplicaFault → Type 0
IsReplica bytes at digest history None = IsCaughtUp bytes at digest history
IsReplica bytes at digest history (Some fault) = taken bytes ≡ record { history = history; fault = Some fault }

-- the bytes with a piece, if they have no fault
abbrev pub with_piece : List ℕ → List ℕ → List ℕ
with_piece bytes piece = if is_none (taken bytes).fault then bytes ++ piece else bytes

-- the bytes behind a call are those before and the piece, or for want of memory the first of it; bytes with a fault stay
abbrev pub Feeds : {X : Type 0} → (old piece new : List ℕ) → Result X ReplicaFault → Type 0
Feeds old piece new (Ok u) = new ≡ with_piece old piece
Feeds old piece new (Err faults.NotAStore) = new ≡ with_piece old piece
Feeds old piece new (Err (faults.Damaged number cause)) = new ≡ with_piece old piece
Feeds old piece new (Err (faults.Memory count)) = ((taken old).fault ≡ None) × (count ≤ length piece) × (new ≡ old ++ take count piece)

-- a fault is told exactly where the bytes have it
abbrev pub TellsFault : {X : Type 0} → List ℕ → Result X ReplicaFault → Type 0
TellsFault bytes (Ok u) = (taken bytes).fault ≡ None
TellsFault bytes (Err faults.NotAStore) = (taken bytes).fault ≡ Some faults.NotAStore
TellsFault bytes (Err (faults.Damaged number cause)) = (taken bytes).fault ≡ Some (faults.Damaged number cause)
TellsFault bytes (Err (faults.Memory count)) = (taken bytes).fault ≡ None
