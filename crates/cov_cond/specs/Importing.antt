-- The commits that a conditional text is as a new file of a history.
use Rattle.std.specs.Prelude.{ℕ, zero, suc, ◌+◌, Bool, List, [], ◌∷◌, ◌++◌, length, map, Option, Some, None, unwrap_or}
use Rattle.cov_base.specs.declared.number.Kind.TheVariants as kinds
use Rattle.cov_base.specs.declared.number.NodeRef.{NodeRef}
use Rattle.cov_base.specs.declared.number.NodeRef.TheVariants as nodes
use Rattle.cov_base.specs.declared.number.LineRef.{LineRef}
use Rattle.cov_base.specs.declared.number.LineRef.TheVariants as lines
use Rattle.cov_expr.specs.Formula.{Formula, True}
use Rattle.cov_edit.specs.declared.edit.Edit.{Edit}
use Rattle.cov_edit.specs.declared.edit.Edit.TheVariants as edits
use Rattle.cov_edit.specs.declared.command.Command.{Command}
use Rattle.cov_edit.specs.declared.command.Command.TheVariants as commands
use Rattle.cov_edit.specs.Numbering.{numbers_of, line_count}
use Rattle.cov_edit.specs.Sides.{sided}
use Rattle.cov_edit.specs.declared.sided.Sided.{Sided}
use Rattle.cov_engine.specs.Meeting.{least_valid}
use Rattle.cov_cond_text.specs.Conditional.{CondLine, conjunction, runs_of}
use Rattle.cov_cond_text.specs.declared.run.Run.{Run}

-- edits that are meant for the whole of an ambition: the side of each is True
abbrev pub meant_for_all : List Edit → List Sided
meant_for_all es = map (sided True) es

-- inserts of texts one after the other, the first after an anchor, so many lines having been inserted by their commit before
abbrev pub chained : NodeRef → LineRef → ℕ → List (List ℕ) → List Edit
chained file after i [] = []
chained file after i (text ∷ texts) = edits.Insert file after text ∷ chained file (lines.New i) (i + 1) texts

-- texts that stand without conditions, none where there are some
abbrev pub plain_in : List (Formula ℕ) → List (List ℕ) → List (List ℕ)
plain_in [] texts = texts
plain_in (e ∷ es) texts = []

-- the texts without conditions
abbrev pub plain_texts : List Run → List (List ℕ)
plain_texts [] = []
plain_texts (r ∷ rs) = plain_in r.conditions r.texts ++ plain_texts rs

-- the edits that make the file with the texts without conditions
abbrev pub making_edits : ℕ → List ℕ → List Run → List Edit
making_edits parent name rs = edits.New kinds.File (nodes.Old parent) name ∷ chained (nodes.New 0) (lines.Old 0) 0 (plain_texts rs)

-- the first valid choice; a legal history has one
abbrev pub first_choice : List Command → List Bool
first_choice history = unwrap_or (least_valid history True) []

-- the commit that makes the file, on the first valid choice
abbrev pub making_commit : List Command → ℕ → List ℕ → List Run → Command
making_commit history parent name rs =
    commands.Commit (length history) (first_choice history) True (meant_for_all (making_edits parent name rs))

-- the number of the k-th of lines that stand behind so many others; the head, 0, where there is none
abbrev pub anchor_at : ℕ → ℕ → ℕ
anchor_at before zero = 0
anchor_at before (suc k) = before + suc k

-- the commits with that of a run more, if a valid choice meets its conditions
abbrev pub with_commit : List Command → ℕ → ℕ → Formula ℕ → List (List ℕ) → List Command → Option (List Bool) → List Command
with_commit history file anchor ambition texts done None = done
with_commit history file anchor ambition texts done (Some choice) =
    done ++ commands.Commit (length history + 1 + length done) choice ambition (meant_for_all (chained (nodes.Old file) (lines.Old anchor) 0 texts)) ∷ []

-- the commits with that of a run more, if it has conditions, which a valid choice meets; its texts go behind an anchor
abbrev pub with_run : List Command → ℕ → ℕ → List (Formula ℕ) → List (List ℕ) → List Command → List Command
with_run history file anchor [] texts done = done
with_run history file anchor (e ∷ es) texts done =
    with_commit history file anchor (conjunction (e ∷ es)) texts done (least_valid history (conjunction (e ∷ es)))

-- how many lines without conditions stand before what follows a run, of how many there are before it
abbrev pub count_after : ℕ → List (Formula ℕ) → List (List ℕ) → ℕ
count_after k [] texts = k + length texts
count_after k (e ∷ es) texts = k

-- the commits of the runs with conditions, from the last run to the first, k lines without conditions standing before the first:
-- the texts of each go behind the last line without conditions before it
abbrev pub run_commits : List Command → ℕ → List Run → List Command
run_commits history k [] = []
run_commits history k (r ∷ rs) =
    with_run history ((numbers_of history).nodes + 1) (anchor_at (line_count history) k) r.conditions r.texts (run_commits history (count_after k r.conditions r.texts) rs)

-- the commits of runs as a new file of a directory
abbrev pub imported_runs : List Command → ℕ → List ℕ → List Run → List Command
imported_runs history parent name rs = making_commit history parent name rs ∷ run_commits history 0 rs

-- the commits of a conditional text as a new file of a directory: the first has the lines without conditions, and each other one
-- those of one run with conditions
abbrev pub imported : List Command → ℕ → List ℕ → List CondLine → List Command
imported history parent name t = imported_runs history parent name (runs_of t)
