-- What the commits of a conditional text are made of, one after another.
use Rattle.std.specs.Prelude.{◌≡◌, ℕ, zero, suc, ◌+◌, ◌||◌, nat_le, nat_lt, Bool, List, [], ◌∷◌, length, Option, Some, None, option_map, Result, Ok, Err}
use Rattle.std.specs.List.{sum_by}
use Rattle.cov_base.specs.declared.limits.TheConstants.{LIMITS}
use Rattle.cov_base.specs.declared.number.Kind.TheVariants as kinds
use Rattle.cov_base.specs.declared.number.NodeRef.TheVariants as nodes
use Rattle.cov_base.specs.declared.number.LineRef.{LineRef}
use Rattle.cov_base.specs.declared.number.LineRef.TheVariants as lines
use Rattle.cov_expr.specs.Formula.{Formula, True}
use Rattle.cov_edit.specs.declared.command.Command.{Command}
use Rattle.cov_edit.specs.declared.command.Command.TheVariants as commands
use Rattle.cov_edit.specs.declared.edit.Edit.{Edit}
use Rattle.cov_edit.specs.declared.edit.Edit.TheVariants as edits
use Rattle.cov_edit.specs.History.{byte_count}
use Rattle.cov_edit.specs.Limits.{limits_of}
use Rattle.cov_edit.specs.Numbering.{Numbers, line_count}
use Rattle.cov_edit.specs.Variant.{Variant}
use Rattle.cov_view.specs.Paths.{path_node}
use Rattle.cov_view.specs.Refusals.{first_of, refusal, when}
use Rattle.cov_view.specs.declared.fault.EditFault.{EditFault}
use Rattle.cov_view.specs.declared.fault.EditFault.TheVariants as edit_faults
use Rattle.cov_cond_text.specs.Conditional.{conjunction}
use Rattle.cov_cond_text.specs.declared.run.Run.{Run}
use Rattle.cov_engine.specs.Meeting.{least_valid}
use Rattle.cov_cond.specs.Fitting.{directory_of, last_name, unless}
use Rattle.cov_cond.specs.Importing.{chained, meant_for_all, plain_in, run_commits}
use Rattle.cov_cond.specs.declared.fault.ImportFault.{ImportFault}
use Rattle.cov_cond.specs.declared.fault.ImportFault.TheVariants as faults

-- how many texts a run has
abbrev pub texts_in : Run → ℕ
texts_in r = length r.texts

-- how many texts runs have
abbrev pub text_count : List Run → ℕ
text_count rs = sum_by texts_in rs

-- how many of the texts of a run stand without conditions
abbrev pub plain_count : Run → ℕ
plain_count r = length (plain_in r.conditions r.texts)

-- the bytes of texts
abbrev pub text_bytes : List (List ℕ) → ℕ
text_bytes texts = sum_by length texts

-- the bytes of the texts of a run
abbrev pub bytes_in : Run → ℕ
bytes_in r = text_bytes r.texts

-- the bytes of the texts of runs
abbrev pub run_bytes : List Run → ℕ
run_bytes rs = sum_by bytes_in rs

-- the first limit on texts that runs would break
abbrev pub text_fault : List Command → List Run → Option ImportFault
text_fault history rs =
    first_of (when (nat_le LIMITS.edits (text_count rs)) faults.TooManyEdits
    ∷ when (nat_lt LIMITS.commit_bytes (run_bytes rs) || nat_lt LIMITS.bytes (byte_count history + run_bytes rs)) faults.TooManyBytes ∷ [])

-- the first limit of a history that so many commits and texts would break
abbrev pub growth_fault : List Command → ℕ → ℕ → Option ImportFault
growth_fault history commits texts =
    first_of (when (nat_lt LIMITS.commands (length history + commits)) faults.Full ∷ when (nat_lt (limits_of history).lines (line_count history + texts)) faults.TooManyLines ∷ [])

-- a fault is want of memory, or the one that is found
abbrev pub IsFaultBy : Option ImportFault → ImportFault → Type 0
IsFaultBy found faults.Memory = Unit {0}
IsFaultBy found fault = found ≡ Some fault

-- the first valid choice on which conditions are true, none where there are no conditions
abbrev pub choice_for : List Command → List (Formula ℕ) → Option (List Bool)
choice_for history [] = None
choice_for history (e ∷ es) = least_valid history (conjunction (e ∷ es))

-- the choice on which the texts of a run are inserted by a commit of their own, if they are
abbrev pub run_choice : List Command → Run → Option (List Bool)
run_choice history r = choice_for history r.conditions

-- one more where there is a choice
abbrev pub counting : ℕ → Option (List Bool) → ℕ
counting n None = n
counting n (Some choice) = n + 1

-- how many choices there are
abbrev pub choice_count : List (Option (List Bool)) → ℕ
choice_count [] = 0
choice_count (o ∷ os) = counting (choice_count os) o

-- the anchor of a commit's next insert, so many coming before it, the first of which went behind an anchor
abbrev pub anchor_behind : LineRef → ℕ → LineRef
anchor_behind first zero = first
anchor_behind first (suc k) = lines.New k

-- the commit of texts with conditions on a choice
abbrev pub run_commit : ℕ → ℕ → ℕ → List (Formula ℕ) → List (List ℕ) → List Bool → Command
run_commit base file anchor conditions texts choice = commands.Commit base choice (conjunction conditions) (meant_for_all (chained (nodes.Old file) (lines.Old anchor) 0 texts))

-- the commit of a run on a choice, if there is one
abbrev pub commit_of : ℕ → ℕ → ℕ → Run → Option (List Bool) → List Command
commit_of base file anchor r None = []
commit_of base file anchor r (Some choice) = run_commit base file anchor r.conditions r.texts choice ∷ []

-- the edit that makes a file of a directory
abbrev pub making : ℕ → List ℕ → Edit
making parent name = edits.New kinds.File (nodes.Old parent) name

-- the edit that makes a file of a directory, if there is one and the variant takes it
abbrev pub made_into : Numbers → Variant → Option ℕ → List ℕ → Result Edit ImportFault
made_into ns v None name = Err faults.NoSuchPath
made_into ns v (Some parent) name = unless (option_map faults.Edit (refusal ns v (making parent name))) (Ok (making parent name))

-- the edit that makes the file of a path in a variant, or why it can't be made
abbrev pub made_at : Numbers → Variant → List (List ℕ) → Result Edit ImportFault
made_at ns v path = made_into ns v (path_node v.rows 0 (directory_of path)) (last_name path)

-- the fault of an import whose file isn't made, by the fault of the edit
abbrev pub making_fault_of : EditFault → ImportFault
making_fault_of edit_faults.NoSuchNode = faults.Edit edit_faults.NoSuchNode
making_fault_of edit_faults.NotFile = faults.Edit edit_faults.NotFile
making_fault_of edit_faults.NotDirectory = faults.Edit edit_faults.NotDirectory
making_fault_of edit_faults.NameTaken = faults.Edit edit_faults.NameTaken
making_fault_of edit_faults.NotEmpty = faults.Edit edit_faults.NotEmpty
making_fault_of edit_faults.IntoItself = faults.Edit edit_faults.IntoItself
making_fault_of edit_faults.IsRoot = faults.Edit edit_faults.IsRoot
making_fault_of edit_faults.NoSuchLine = faults.Edit edit_faults.NoSuchLine
making_fault_of edit_faults.Memory = faults.Memory

-- a fault is want of memory, or comes from the refusal of the edit that makes the file
abbrev pub IsMakingFault : Option EditFault → ImportFault → Type 0
IsMakingFault refused fault = IsFaultBy (option_map faults.Edit refused) fault

-- the commits of runs as a new file that an edit makes, the first on a choice
abbrev pub commits_after : List Command → List Bool → Edit → List (List ℕ) → List Run → List Command
commits_after history choice first texts rs =
    commands.Commit (length history) choice True (meant_for_all (first ∷ chained (nodes.New 0) (lines.Old 0) 0 texts)) ∷ run_commits history 0 rs
