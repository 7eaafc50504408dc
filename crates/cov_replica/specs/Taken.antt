-- What is taken of the bytes of a journal, of which only the first may have come.
use Rattle.std.specs.Prelude.{ℕ, zero, suc, ◌+◌, Bool, ◌&&◌, if◌then◌else◌, nat_eq, nat_le, List, [], ◌∷◌, ◌++◌, length, take, drop, Option, Some, None, Result, Ok, Err}
use Rattle.std.specs.Str.{bytes_eq}
use Rattle.cov_edit.specs.declared.command.Command.{Command}
use Rattle.cov_history.specs.Verdict.{verdict}
use Rattle.cov_history.specs.declared.refusal.Refusal.{Refusal}
use Rattle.cov_journal.specs.Journal.{header, no_digest, next_digest}
use Rattle.cov_journal.specs.Reading.{record_length}
use Rattle.cov_record.specs.Reading.{alone, front_command}
use Rattle.cov_replica.specs.declared.fault.ReplicaDamage.{ReplicaDamage}
use Rattle.cov_replica.specs.declared.fault.ReplicaDamage.TheVariants as damages
use Rattle.cov_replica.specs.declared.fault.ReplicaFault.{ReplicaFault}
use Rattle.cov_replica.specs.declared.fault.ReplicaFault.TheVariants as faults

-- a record that counts, by its payload and its digest
pub record Counted : Type 0 where
  pub payload : List ℕ
  pub digest : List ℕ

-- the bytes behind an open gate begin with a length, and a payload of that length and a digest are whole
abbrev pub is_whole : List ℕ → Bool
is_whole behind = nat_le 4 (length behind) && nat_le (4 + record_length behind + 32) (length behind)

-- the record behind an open gate
abbrev pub first_counted : List ℕ → Counted
first_counted behind = record { payload = take (record_length behind) (drop 4 behind); digest = take 32 (drop (4 + record_length behind) behind) }

-- the records that count from a gate on, at most so many: a gate that isn't 1 ends them, and so does a part of a record
abbrev pub counted_within : ℕ → List ℕ → List Counted
counted_within zero bytes = []
counted_within (suc most) [] = []
counted_within (suc most) (gate ∷ behind) =
    if nat_eq gate 1 && is_whole behind then first_counted behind ∷ counted_within most (drop (4 + record_length behind + 32) behind) else []

-- the records that count from a gate on; there are no more of them than bytes
abbrev pub counted : List ℕ → List Counted
counted bytes = counted_within (length bytes) bytes

-- the command that a payload is the record of, if there is one
unfoldable pub command_in : List ℕ → Option Command
command_in payload = alone (front_command payload)

-- a command by its verdict
abbrev pub by_verdict : Command → Option Refusal → Result Command ReplicaDamage
by_verdict command None = Ok command
by_verdict command (Some refusal) = Err (damages.Refused refusal)

-- a payload by the command that it spells
abbrev pub by_command : List Command → Option Command → Result Command ReplicaDamage
by_command past None = Err damages.NotARecord
by_command past (Some command) = by_verdict command (verdict past command)

-- the command of a record that counts, behind a history and its last digest; or what is wrong with the record
abbrev pub judged : List Command → List ℕ → Counted → Result Command ReplicaDamage
judged past before counts =
    if bytes_eq counts.digest (next_digest before counts.payload) then by_command past (command_in counts.payload) else Err damages.Digest

-- the commands that were accepted, and what is wrong with what came behind them
pub record Taken : Type 0 where
  pub history : List Command
  pub fault : Option ReplicaFault

abbrev pub at_rest : List Command → Taken
at_rest past = record { history = past; fault = None }

abbrev pub damaged : List Command → ReplicaDamage → Taken
damaged past cause = record { history = past; fault = Some (faults.Damaged (length past + 1) cause) }

abbrev pub no_store : Taken
no_store = record { history = []; fault = Some faults.NotAStore }

-- what comes of a record: its command goes on the history, or it is the damage
abbrev pub taken_on : List Command → Result Command ReplicaDamage → (List Command → Taken) → Taken
taken_on past (Ok command) more = more (past ++ command ∷ [])
taken_on past (Err cause) more = damaged past cause

-- the history of records up to the first damaged one, and its damage, behind a history and its last digest
abbrev pub taken_from : List Command → List ℕ → List Counted → Taken
taken_from past before [] = at_rest past
taken_from past before (counts ∷ others) = taken_on past (judged past before counts) (λ history. taken_from history counts.digest others)

-- what is taken behind the header
abbrev pub behind_header : List ℕ → Taken
behind_header bytes = taken_from [] no_digest (counted (drop 12 bytes))

-- what is taken of bytes: of at most 13 nothing; of more the records behind the header, if they begin with it
unfoldable pub taken : List ℕ → Taken
taken bytes = if nat_le (length bytes) 13 then at_rest [] else (if bytes_eq (take 12 bytes) header then behind_header bytes else no_store)
