-- Which conditional texts a history takes in as a new file.
use Rattle.std.specs.Prelude.{◌≡◌, ℕ, ◌+◌, ◌<◌, ◌≤◌, ◌||◌, nat_le, nat_lt, List, [], ◌∷◌, length, Option, Some, None, option_map, Result, Ok, Err}
use Rattle.std.specs.List.{sum_by}
use Rattle.cov_base.specs.declared.limits.TheConstants.{LIMITS}
use Rattle.cov_base.specs.declared.number.Kind.TheVariants as kinds
use Rattle.cov_base.specs.declared.number.NodeRef.TheVariants as nodes
use Rattle.cov_edit.specs.declared.command.Command.{Command}
use Rattle.cov_edit.specs.declared.edit.Edit.TheVariants as edits
use Rattle.cov_edit.specs.History.{byte_count}
use Rattle.cov_edit.specs.Limits.{limits_of}
use Rattle.cov_edit.specs.Numbering.{line_count, numbers_of}
use Rattle.cov_edit.specs.Replay.{replay}
use Rattle.cov_edit.specs.Variant.{Variant}
use Rattle.cov_view.specs.Paths.{path_node}
use Rattle.cov_view.specs.Refusals.{first_of, refusal, when}
use Rattle.cov_cond_text.specs.Conditional.{CondLine, runs_of}
use Rattle.cov_cond.specs.Importing.{first_choice, imported, run_commits}
use Rattle.cov_cond.specs.declared.fault.ImportFault.{ImportFault}
use Rattle.cov_cond.specs.declared.fault.ImportFault.TheVariants as faults

-- how many bytes a text has
abbrev pub text_size : CondLine → ℕ
text_size l = length l.text

-- the bytes of a conditional text's lines
abbrev pub cond_bytes : List CondLine → ℕ
cond_bytes t = sum_by text_size t

-- a history has room for a conditional text as a new file
pub record HasRoom (history : List Command) (parent : ℕ) (name : List ℕ) (t : List CondLine) : Type 0 where
  pub edits : length t < LIMITS.edits
  pub commit_bytes : cond_bytes t ≤ LIMITS.commit_bytes
  pub bytes : byte_count history + cond_bytes t ≤ LIMITS.bytes
  pub commands : length history + length (imported history parent name t) ≤ LIMITS.commands
  pub lines : line_count history + length t ≤ (limits_of history).lines

-- the path of the directory that a path's last name is in
abbrev pub directory_of : List (List ℕ) → List (List ℕ)
directory_of [] = []
directory_of (name ∷ []) = []
directory_of (name ∷ next ∷ names) = name ∷ directory_of (next ∷ names)

-- the last name of a path; none stands for that of the root
abbrev pub last_name : List (List ℕ) → List ℕ
last_name [] = []
last_name (name ∷ []) = name
last_name (name ∷ next ∷ names) = last_name (next ∷ names)

-- how many commits a conditional text is
abbrev pub commit_count : List Command → List CondLine → ℕ
commit_count history t = length (run_commits history 0 (runs_of t)) + 1

-- the first limit that a conditional text would break
abbrev pub room_fault : List Command → List CondLine → Option ImportFault
room_fault history t =
    first_of (when (nat_le LIMITS.edits (length t)) faults.TooManyEdits
    ∷ when (nat_lt LIMITS.commit_bytes (cond_bytes t) || nat_lt LIMITS.bytes (byte_count history + cond_bytes t)) faults.TooManyBytes
    ∷ when (nat_lt LIMITS.commands (length history + commit_count history t)) faults.Full
    ∷ when (nat_lt (limits_of history).lines (line_count history + length t)) faults.TooManyLines ∷ [])

-- the variant in which the file is made
abbrev pub first_view : List Command → Variant
first_view history = replay (first_choice history) history

-- why a file of that name can't be made in a directory
abbrev pub making_fault : List Command → ℕ → List ℕ → Option ImportFault
making_fault history parent name =
    option_map faults.Edit (refusal (numbers_of history) (first_view history) (edits.New kinds.File (nodes.Old parent) name))

-- an answer, unless there is a fault
abbrev pub unless : {X : Type 0} → Option ImportFault → Result X ImportFault → Result X ImportFault
unless None answer = answer
unless (Some fault) answer = Err fault

-- the commits of a conditional text as a new file of a directory, if there is one, unless the file can't be made there
abbrev pub imported_into : List Command → Option ℕ → List ℕ → List CondLine → Result (List Command) ImportFault
imported_into history None name t = Err faults.NoSuchPath
imported_into history (Some parent) name t = unless (making_fault history parent name) (Ok (imported history parent name t))

-- the commits of a conditional text as a new file at a path, if its directory is there, unless the file can't be made there
abbrev pub imported_in : List Command → List (List ℕ) → List CondLine → Result (List Command) ImportFault
imported_in history path t = imported_into history (path_node (first_view history).rows 0 (directory_of path)) (last_name path) t

-- the commits of a conditional text as a new file at a path; or the first rule that refuses it
unfoldable pub imported_at : List Command → List (List ℕ) → List CondLine → Result (List Command) ImportFault
imported_at history path t = unless (room_fault history t) (imported_in history path t)

-- a fault is want of memory, or the one that an answer has
abbrev pub IsImportFaultOf : {X : Type 0} → Result X ImportFault → ImportFault → Type 0
IsImportFaultOf answer faults.Memory = Unit {0}
IsImportFaultOf answer fault = answer ≡ Err fault
