-- Laws of what is taken.
use Rattle.std.specs.Prelude.{◌≡◌, ℕ, List, [], ◌∷◌, ◌++◌, take, Option, Some, None}
use Rattle.cov_edit.specs.declared.command.Command.{Command}
use Rattle.cov_history.specs.Verdict.{verdict}
use Rattle.cov_history.specs.declared.refusal.Refusal.{Refusal}
use Rattle.cov_history.specs.declared.refusal.Refusal.TheVariants as refusals
use Rattle.cov_journal.specs.Reading.{IsNoStore}
use Rattle.cov_record.specs.Laws.{IsRecordOf}
use Rattle.cov_replica.specs.Feeding.{with_piece}
use Rattle.cov_replica.specs.Taken.{command_in, taken, at_rest, no_store}
use Rattle.cov_replica.specs.declared.fault.ReplicaDamage.{ReplicaDamage}
use Rattle.cov_replica.specs.declared.fault.ReplicaDamage.TheVariants as damages
use Rattle.cov_replica.specs.declared.fault.ReplicaFault.{ReplicaFault}
use Rattle.cov_replica.specs.declared.fault.ReplicaFault.TheVariants as faults
use Rattle.cov_store.specs.Damages.{HasDamage}
use Rattle.cov_store.specs.Stands.{StandsFor}
use Rattle.cov_store.specs.declared.damage.StoreDamage.{StoreDamage}
use Rattle.cov_store.specs.declared.damage.StoreDamage.TheVariants as found

-- a payload is read as the command whose record it is, and as no other
abbrev pub OneReading : Type 0
OneReading = (payload : List ℕ) (command : Command)
    → (IsRecordOf payload command → command_in payload ≡ Some command) × (command_in payload ≡ Some command → IsRecordOf payload command)

-- of an image that stands for a history the whole history is taken, and of its first bytes the first commands
abbrev pub ImageIsTaken : Type 0
ImageIsTaken = (image : List ℕ) (history : List Command) → StandsFor image history
    → (taken image ≡ at_rest history) × ((n : ℕ) → (k : ℕ) × (taken (take n image) ≡ at_rest (take k history)))

-- the damage of a store, by that of a replica: all but that of a record which is cut
abbrev pub as_store_damage : ReplicaDamage → StoreDamage
as_store_damage damages.Digest = found.Digest
as_store_damage damages.NotARecord = found.NotARecord
as_store_damage (damages.Refused refusal) = found.Refused refusal

-- an image that isn't opened for a damaged record, unless it is cut, has the same fault behind the same history
abbrev pub DamageIsTaken : Type 0
DamageIsTaken = (image : List ℕ) (number : ℕ) (cause : ReplicaDamage) (damage : HasDamage image number (as_store_damage cause))
    → taken image ≡ record { history = damage.history; fault = Some (faults.Damaged number cause) }

-- of an image that is no store nothing is taken
abbrev pub NoStoreIsTaken : Type 0
NoStoreIsTaken = (image : List ℕ) → IsNoStore image → taken image ≡ no_store

-- a fault stays, with its history, whatever comes behind
abbrev pub FaultStays : Type 0
FaultStays = (bytes more : List ℕ) (fault : ReplicaFault) → (taken bytes).fault ≡ Some fault → taken (bytes ++ more) ≡ taken bytes

-- a history stays too, and others may come behind it
abbrev pub HistoryStays : Type 0
HistoryStays = (bytes more : List ℕ) → (later : List Command) × ((taken (bytes ++ more)).history ≡ (taken bytes).history ++ later)

-- a refusal that is the fault of bytes is that of a command by the history before
abbrev pub RefusalIsOfVerdict : Type 0
RefusalIsOfVerdict = (bytes : List ℕ) (number : ℕ) (refusal : Refusal) → (taken bytes).fault ≡ Some (faults.Damaged number (damages.Refused refusal))
    → (command : Command) × (verdict (taken bytes).history command ≡ Some refusal)

-- the bytes of pieces one behind another
abbrev pub joined : List (List ℕ) → List ℕ
joined [] = []
joined (piece ∷ pieces) = piece ++ joined pieces

-- the bytes of a replica that was fed pieces, one after another
abbrev pub fed : List ℕ → List (List ℕ) → List ℕ
fed bytes [] = bytes
fed bytes (piece ∷ pieces) = fed (with_piece bytes piece) pieces

-- what is taken of pieces is what is taken of their bytes at once
abbrev pub AnyPieces : Type 0
AnyPieces = (bytes : List ℕ) (pieces : List (List ℕ)) → taken (fed bytes pieces) ≡ taken (bytes ++ joined pieces)

-- a refusal isn't for want of memory
abbrev pub IsNoWant : Refusal → Type 0
IsNoWant refusals.Memory = ⊥
IsNoWant refusal = Unit {0}

-- nor is the damage of a record
abbrev pub IsDamageOfBytes : ReplicaDamage → Type 0
IsDamageOfBytes damages.Digest = Unit {0}
IsDamageOfBytes damages.NotARecord = Unit {0}
IsDamageOfBytes (damages.Refused refusal) = IsNoWant refusal

-- nor is a fault, if there is one
abbrev pub IsFaultOfBytes : Option ReplicaFault → Type 0
IsFaultOfBytes None = Unit {0}
IsFaultOfBytes (Some faults.NotAStore) = Unit {0}
IsFaultOfBytes (Some (faults.Damaged number cause)) = IsDamageOfBytes cause
IsFaultOfBytes (Some (faults.Memory count)) = ⊥

-- want of memory is never the fault of bytes
abbrev pub NeverWant : Type 0
NeverWant = (bytes : List ℕ) → IsFaultOfBytes (taken bytes).fault
