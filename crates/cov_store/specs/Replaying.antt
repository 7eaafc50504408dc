-- What the replay of a journal's records gives.
use Rattle.std.specs.Prelude.{◌≡◌, ℕ, ◌+◌, List, [], ◌∷◌, ◌++◌, length, drop, Option, Some, None, IfSome, Result, Ok, Err}
use Rattle.std.specs.List.{AllByRecursion}
use Rattle.cov_base.specs.Causes.{Rose}
use Rattle.cov_edit.specs.History.{options_of}
use Rattle.cov_edit.specs.declared.command.Command.{Command}
use Rattle.cov_engine.specs.States.{EngineValue}
use Rattle.cov_expr.specs.Options.{Declared}
use Rattle.cov_history.specs.Verdict.{verdict, IsLegal}
use Rattle.cov_history.specs.declared.refusal.Refusal.{Refusal}
use Rattle.cov_history.specs.declared.refusal.Refusal.TheVariants as refusals
use Rattle.cov_journal.specs.Gates.{HasGate}
use Rattle.cov_journal.specs.Journal.{State, stored}
use Rattle.cov_journal.specs.Places.{Place}
use Rattle.cov_journal.specs.Reading.{HasGiven}
use Rattle.cov_journal.specs.declared.damage.Damage.{Damage}
use Rattle.cov_journal.specs.declared.damage.Damage.TheVariants as found
use Rattle.cov_journal.specs.declared.reader.ReadRecordFault.{ReadRecordFault}
use Rattle.cov_journal.specs.declared.reader.ReadRecordFault.TheVariants as reads
use Rattle.cov_record.specs.FitsRecord.{FitsRecord}
use Rattle.cov_record.specs.Laws.{IsRecordOf, IsNoRecord}
use Rattle.cov_store.specs.Damages.{IsDamagedAfter}
use Rattle.cov_store.specs.Opening.{IsNoWant}
use Rattle.cov_store.specs.Stands.{payloads, gate_of, IsJournalOf, IsStored}
use Rattle.cov_store.specs.declared.damage.StoreDamage.{StoreDamage}
use Rattle.cov_store.specs.declared.damage.StoreDamage.TheVariants as damages
use Rattle.cov_store.specs.declared.damage.StoreFault.{StoreFault}
use Rattle.cov_store.specs.declared.damage.StoreFault.TheVariants as faults
use Rattle.cov_store.specs.declared.replaying.Halt.{Halt}
use Rattle.cov_store.specs.declared.replaying.Halt.TheVariants as halts
use Rattle.cov_store.specs.declared.replaying.Step.{Step}
use Rattle.cov_store.specs.declared.replaying.Step.TheVariants as steps

-- a reader stands behind the records of a legal history
pub record StandsBehind (contents : Option (List ℕ)) (place : Place) (history : List Command) : Type 0 where
  pub legal : IsLegal history
  pub fits : AllByRecursion FitsRecord history
  pub given : HasGiven place (payloads history)
  pub gate : HasGate contents place.at
  pub bytes : IfSome contents (λ image. image ≡ stored (payloads history) (drop place.at image))

-- the number of the record behind a history, and the options that the history declares
abbrev pub IsBehind : List Command → ℕ → Declared → Type 0
IsBehind history number options = (number ≡ length history + 1) × (options.names ≡ options_of history)

abbrev pub as_store_damage : Damage → StoreDamage
as_store_damage found.Cut = damages.Cut
as_store_damage found.Digest = damages.Digest

-- why no record was given
abbrev pub as_halt : ReadRecordFault → Halt
as_halt (reads.Damaged number cause) = halts.Damaged (as_store_damage cause)
as_halt reads.DiskFault = halts.DiskFault
as_halt reads.Memory = halts.Memory

-- a refusal of a record's command is damage, but want of memory is none
abbrev pub as_refused : Refusal → Halt
as_refused refusals.Memory = halts.Memory
as_refused refusal = halts.Damaged (damages.Refused refusal)

-- the payload's command is accepted after a history
abbrev pub IsAccepted : List Command → List ℕ → List Command → Type 0
IsAccepted history payload now = (command : Command) × IsRecordOf payload command × (verdict history command ≡ None) × (now ≡ history ++ command ∷ [])

-- why the command of a payload isn't accepted after a history
abbrev pub IsUnread : List Command → List ℕ → Halt → Type 0
IsUnread history payload (halts.Damaged damages.Cut) = ⊥
IsUnread history payload (halts.Damaged damages.Digest) = ⊥
IsUnread history payload (halts.Damaged damages.NotARecord) = IsNoRecord payload
IsUnread history payload (halts.Damaged (damages.Refused refusal)) =
    IsNoWant (damages.Refused refusal) × ((command : Command) × IsRecordOf payload command × (verdict history command ≡ Some refusal))
IsUnread history payload halts.DiskFault = ⊥
IsUnread history payload halts.Memory = Unit {0}

-- the disk holds a history, and has a gate behind it, where the journal goes on
abbrev pub IsHeld : Option (List ℕ) → List Command → State → Type 0
IsHeld contents history journal = IfSome contents (λ image. IsStored image history) × HasGate contents (gate_of history) × IsJournalOf journal history

-- one record more of a history is accepted and stands before the reader, or none is left
abbrev pub Steps : Option (List ℕ) → List Command → List Command → Step → Type 0
Steps contents history now (steps.On reader) = (length now ≡ length history + 1) × StandsBehind contents reader now
Steps contents history now (steps.End journal) = IsHeld contents now journal

-- a refusal is one of the verdict on a command after a history
abbrev pub IsByVerdict : List Command → StoreDamage → Type 0
IsByVerdict history damages.Cut = Unit {0}
IsByVerdict history damages.Digest = Unit {0}
IsByVerdict history damages.NotARecord = Unit {0}
IsByVerdict history (damages.Refused refusal) = (command : Command) × (verdict history command ≡ Some refusal)

-- why no further command is accepted after a history: if it is damage, it is that of the image
abbrev pub HaltsFor : Option (List ℕ) → List Command → Halt → Type 0
HaltsFor contents history (halts.Damaged cause) = IsByVerdict history cause × IfSome contents (λ image. IsDamagedAfter history image cause)
HaltsFor contents history halts.DiskFault = Unit {0}
HaltsFor contents history halts.Memory = Unit {0}

-- want of memory is no damage, and the disk fails only where the count of its faults rose
abbrev pub HaltsBy : ℕ → ℕ → Halt → Type 0
HaltsBy before now (halts.Damaged cause) = IsNoWant cause
HaltsBy before now halts.DiskFault = Rose before now
HaltsBy before now halts.Memory = Unit {0}

-- the fault of a disk whose records are those of a history, up to what halts there
abbrev pub IsFaultOf : List Command → Halt → StoreFault → Type 0
IsFaultOf history (halts.Damaged cause) faults.NotAStore = ⊥
IsFaultOf history (halts.Damaged cause) (faults.Damaged number what options) = (what ≡ cause) × IsBehind history number options
IsFaultOf history (halts.Damaged cause) faults.DiskFault = ⊥
IsFaultOf history (halts.Damaged cause) faults.Memory = ⊥
IsFaultOf history halts.DiskFault fault = fault ≡ faults.DiskFault
IsFaultOf history halts.Memory fault = fault ≡ faults.Memory

-- the disk holds a history, and has a gate behind it
abbrev pub HoldsHistory : Option (List ℕ) → List Command → Type 0
HoldsHistory contents history = IfSome contents (λ image. IsStored image history) × HasGate contents (gate_of history)

-- the fault is the image's damage, if it is one of the image
abbrev pub IsFoundIn : List ℕ → StoreFault → Type 0
IsFoundIn image faults.NotAStore = ⊥
IsFoundIn image (faults.Damaged number cause options) = (history : List Command) × IsBehind history number options × IsDamagedAfter history image cause
IsFoundIn image faults.DiskFault = Unit {0}
IsFoundIn image faults.Memory = Unit {0}

-- all records were read, or one is damaged
abbrev pub Replays : Option (List ℕ) → Result EngineValue StoreFault → Type 0
Replays contents (Ok store) = HoldsHistory contents store.history
Replays contents (Err fault) = IfSome contents (λ image. IsFoundIn image fault)
