-- What a call makes of a record.
use Rattle.std.specs.Prelude.{◌≡◌, List, [], ◌∷◌, ◌++◌, Result, Ok, Err}
use Rattle.cov_base.specs.declared.error.MemoryOr.{MemoryOr}
use Rattle.cov_base.specs.declared.error.MemoryOr.TheVariants.{Memory, Refused}
use Rattle.cov_edit.specs.declared.command.Command.{Command}
use Rattle.cov_history.specs.declared.refusal.Refusal.{Refusal}
use Rattle.cov_history.specs.declared.refusal.Refusal.TheVariants as refusals
use Rattle.cov_replica.specs.declared.fault.ReplicaDamage.{ReplicaDamage}
use Rattle.cov_replica.specs.declared.fault.ReplicaDamage.TheVariants as damages

-- the command that is wanted goes on the history, or the damage that is wanted is answered, or memory is wanting
abbrev pub Accepts : {X : Type 0} → Result Command ReplicaDamage → (old new : List Command) → Result X (MemoryOr ReplicaDamage) → Type 0
Accepts wanted old new (Ok x) = (command : Command) × (wanted ≡ Ok command) × (new ≡ old ++ command ∷ [])
Accepts wanted old new (Err Memory) = new ≡ old
Accepts wanted old new (Err (Refused cause)) = (wanted ≡ Err cause) × (new ≡ old)

-- a refusal as damage, but for want of memory
abbrev pub refusal_damage : Refusal → MemoryOr ReplicaDamage
refusal_damage refusals.Memory = Memory
refusal_damage refusal = Refused (damages.Refused refusal)
