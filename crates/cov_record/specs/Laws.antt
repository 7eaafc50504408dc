-- Laws of the spelling of commands.
use Rattle.std.specs.Prelude.{◌≡◌, ℕ, List, ◌++◌, map}
use Rattle.std.specs.List.{AllByRecursion}
use Rattle.cov_edit.specs.declared.command.Command.{Command}
use Rattle.cov_record.specs.FitsRecord.{FitsRecord}
use Rattle.cov_record.specs.Payload.{payload}

-- bytes are the record of a command
abbrev pub IsRecordOf : List ℕ → Command → Type 0
IsRecordOf bytes command = FitsRecord command × (bytes ≡ payload command)

-- bytes are no command's record
abbrev pub IsNoRecord : List ℕ → Type 0
IsNoRecord bytes = (command : Command) → IsRecordOf bytes command → ⊥

-- bytes begin with one record at most, and so are one record at most
abbrev pub OneRecord : Type 0
OneRecord = (a b : Command) (behind_a behind_b : List ℕ) → FitsRecord a → FitsRecord b
    → payload a ++ behind_a ≡ payload b ++ behind_b → (a ≡ b) × (behind_a ≡ behind_b)

-- bytes are one command's record at most
abbrev pub OneCommand : Type 0
OneCommand = (bytes : List ℕ) (a b : Command) → IsRecordOf bytes a → IsRecordOf bytes b → a ≡ b

-- payloads are those of one history at most
abbrev pub OneHistory : Type 0
OneHistory = (a b : List Command) → AllByRecursion FitsRecord a → AllByRecursion FitsRecord b → map payload a ≡ map payload b → a ≡ b
