-- How far the bytes of a journal were read.
use Rattle.std.specs.Prelude.{◌≡◌, ℕ, ◌+◌, ◌^◌, ◌<◌, ◌≤◌, List, [], ◌∷◌, ◌++◌, length, take, drop, Option, Some, None, Result, Ok, Err}
use Rattle.std.specs.Int.{w32, to_be_bytes}
use Rattle.std.specs.List.{AllByRecursion}
use Rattle.cov_base.specs.declared.error.MemoryOr.{MemoryOr}
use Rattle.cov_base.specs.declared.error.MemoryOr.TheVariants.{Memory, Refused}
use Rattle.cov_edit.specs.declared.command.Command.{Command}
use Rattle.cov_history.specs.Verdict.{IsLegal}
use Rattle.cov_journal.specs.Journal.{stored, Fits}
use Rattle.cov_record.specs.FitsRecord.{FitsRecord}
use Rattle.cov_replica.specs.Taken.{Counted, counted, taken}
use Rattle.cov_replica.specs.declared.fault.ReplicaFault.{ReplicaFault}
use Rattle.cov_store.specs.Stands.{payloads}

-- the records of a history end at a place, and this is the last one's digest; of at most 13 bytes none was read
pub record IsReadTo (bytes : List ℕ) (at : ℕ) (digest : List ℕ) (history : List Command) : Type 0 where
  pub legal : IsLegal history
  pub records : AllByRecursion FitsRecord history
  pub fits : Fits at digest (payloads history)
  pub bytes_are : 13 < length bytes → bytes ≡ stored (payloads history) (drop at bytes)
  pub few : length bytes ≤ 13 → history ≡ []

-- and no record that counts begins there
pub record IsCaughtUp (bytes : List ℕ) (at : ℕ) (digest : List ℕ) (history : List Command) : Type 0 where
  pub read : IsReadTo bytes at digest history
  pub rest : counted (drop at bytes) ≡ []

-- a record that counts begins at the front, with a payload of this length; or none does
abbrev pub HasFirst : List ℕ → Option ℕ → Type 0
HasFirst bytes None = counted bytes ≡ []
HasFirst bytes (Some count) = (count < 2 ^ 32) × (count + 37 ≤ length bytes) × (bytes ≡ 1 ∷ (to_be_bytes w32 count ++ drop 5 bytes))

-- the record at a place, whose payload has this length
abbrev pub record_at : ℕ → ℕ → List ℕ → Counted
record_at at count bytes = record { payload = take count (drop (at + 5) bytes); digest = take 32 (drop (at + 5 + count) bytes) }

-- all bytes are kept, or for want of memory at least so many
abbrev pub Keeps : {X : Type 0} → ℕ → (old new : List ℕ) → Result X (MemoryOr ReplicaFault) → Type 0
Keeps before old new (Ok u) = new ≡ old
Keeps before old new (Err Memory) = (n : ℕ) × (before ≤ n) × (n ≤ length old) × (new ≡ take n old)
Keeps before old new (Err (Refused fault)) = new ≡ old

-- a piece is taken, or for want of memory some of its first bytes
abbrev pub TakesPiece : {X : Type 0} → (old piece new : List ℕ) → Result X (MemoryOr ReplicaFault) → Type 0
TakesPiece old piece new (Ok u) = new ≡ old ++ piece
TakesPiece old piece new (Err Memory) = (n : ℕ) × (n ≤ length piece) × (new ≡ old ++ take n piece)
TakesPiece old piece new (Err (Refused fault)) = new ≡ old ++ piece

-- all records that count were read, or one that is damaged was found
abbrev pub Reads : {X : Type 0} → List ℕ → ℕ → List ℕ → List Command → Result X (MemoryOr ReplicaFault) → Type 0
Reads bytes at digest history (Ok u) = IsCaughtUp bytes at digest history
Reads bytes at digest history (Err Memory) = IsCaughtUp bytes at digest history
Reads bytes at digest history (Err (Refused fault)) = taken bytes ≡ record { history = history; fault = Some fault }
