-- How the opening of a disk ends.
use Rattle.std.specs.Prelude.{◌≡◌, ℕ, List, Some, Result, Ok, Err}
use Rattle.cov_base.specs.Causes.{Rose}
use Rattle.cov_edit.specs.History.{options_of}
use Rattle.cov_edit.specs.declared.command.Command.{Command}
use Rattle.cov_engine.specs.States.{EngineValue}
use Rattle.cov_history.specs.Verdict.{verdict}
use Rattle.cov_history.specs.declared.refusal.Refusal.{Refusal}
use Rattle.cov_history.specs.declared.refusal.Refusal.TheVariants as refusals
use Rattle.cov_journal.specs.Reading.{IsNoStore}
use Rattle.cov_store.specs.Damages.{HasDamage}
use Rattle.cov_store.specs.declared.damage.StoreDamage.{StoreDamage}
use Rattle.cov_store.specs.declared.damage.StoreDamage.TheVariants as damages
use Rattle.cov_store.specs.declared.damage.StoreFault.{StoreFault}
use Rattle.cov_store.specs.declared.damage.StoreFault.TheVariants as faults

-- an image that can't be opened has this fault; the options are those of the records before the damaged one
abbrev pub IsImageFaultOf : List ℕ → StoreFault → Type 0
IsImageFaultOf image faults.NotAStore = IsNoStore image
IsImageFaultOf image (faults.Damaged number cause options) = (damage : HasDamage image number cause) × (options.names ≡ options_of damage.history)
IsImageFaultOf image faults.DiskFault = Unit {0}
IsImageFaultOf image faults.Memory = Unit {0}

-- want of memory is no damage
abbrev pub IsNoWant : StoreDamage → Type 0
IsNoWant (damages.Refused refusals.Memory) = ⊥
IsNoWant cause = Unit {0}

-- damage is of the disk's bytes, and the disk fails only where the count of its faults rose
abbrev pub HasReason : ℕ → ℕ → StoreFault → Type 0
HasReason before now faults.NotAStore = Unit {0}
HasReason before now (faults.Damaged number cause options) = IsNoWant cause
HasReason before now faults.DiskFault = Rose before now
HasReason before now faults.Memory = Unit {0}

-- a refusal is that of a command by a history with these options
pub record IsRefusedAfter (names : List (List ℕ)) (refusal : Refusal) : Type 0 where
  pub history : List Command
  pub command : Command
  pub names_are : names ≡ options_of history
  pub refused : verdict history command ≡ Some refusal

-- a refusal that is told is one of the verdict, and its options are those of the history
abbrev pub IsOfVerdict : StoreFault → Type 0
IsOfVerdict (faults.Damaged number (damages.Refused refusal) options) = IsRefusedAfter options.names refusal
IsOfVerdict fault = Unit {0}

-- the disk may fail, and memory may be wanting
abbrev pub MayStop : ℕ → ℕ → StoreFault → Type 0
MayStop before now faults.NotAStore = ⊥
MayStop before now (faults.Damaged number cause options) = ⊥
MayStop before now faults.DiskFault = Rose before now
MayStop before now faults.Memory = Unit {0}

-- the store has this history, unless the opening stops
abbrev pub GivesHistory : List Command → ℕ → ℕ → Result EngineValue StoreFault → Type 0
GivesHistory history before now (Ok store) = store.history ≡ history
GivesHistory history before now (Err fault) = MayStop before now fault

-- this damage is told with the options that the history before it declares, unless the opening stops
abbrev pub TellsDamage : {S : Type 0} → List Command → ℕ → StoreDamage → ℕ → ℕ → Result S StoreFault → Type 0
TellsDamage history number cause before now (Ok opened) = ⊥
TellsDamage history number cause before now (Err (faults.Damaged k what options)) = (k ≡ number) × (what ≡ cause) × (options.names ≡ options_of history)
TellsDamage history number cause before now (Err fault) = MayStop before now fault

-- it is told that the disk is no store, unless the opening stops
abbrev pub TellsNoStore : {S : Type 0} → ℕ → ℕ → Result S StoreFault → Type 0
TellsNoStore before now (Ok opened) = ⊥
TellsNoStore before now (Err faults.NotAStore) = Unit {0}
TellsNoStore before now (Err fault) = MayStop before now fault
