-- Which refusals of a command come before what overtakes it and what it leaves unsound.
use Rattle.std.specs.Prelude.{ℕ, ◌+◌, Bool, ◌||◌, not, nat_eq, nat_lt, List, [], ◌∷◌, ◌++◌, length, take, max, Option, Some, None, if◌then◌else◌}
use Rattle.cov_expr.specs.Formula.{Formula, value, reach}
use Rattle.cov_edit.specs.declared.command.Command.{Command}
use Rattle.cov_edit.specs.declared.command.Command.TheVariants as commands
use Rattle.cov_edit.specs.declared.edits.Run.{Run}
use Rattle.cov_edit.specs.declared.sided.Sided.{Sided}
use Rattle.cov_edit.specs.History.{option_count, first_false_in}
use Rattle.cov_edit.specs.Limits.{is_upgraded}
use Rattle.cov_edit.specs.Numbering.{numbers_of}
use Rattle.cov_edit.specs.Replay.{replay}
use Rattle.cov_edit.specs.Sides.{unsided, reach_within}
use Rattle.cov_view.specs.Refusals.{when, first_of, first_refused}
use Rattle.cov_history.specs.Verdict.{as_invalid, as_bad_record, as_outside, first_outside, has_no_edits, size_refusals}
use Rattle.cov_history.specs.declared.refusal.Refusal.{Refusal}
use Rattle.cov_history.specs.declared.refusal.Refusal.TheVariants as refusals

-- the refusal where not all of so many options are declared
abbrev pub undeclared : ℕ → ℕ → Option Refusal
undeclared declared count = when (nat_lt declared count) refusals.BadOption

-- the refusal of an upgrade, by whether there is one
abbrev pub upgrade_refusal : Bool → Option Refusal
upgrade_refusal upgraded = when upgraded refusals.Upgraded

-- the least count of options that has every option of the sides of runs
abbrev pub reach_of_runs : List Run → ℕ
reach_of_runs [] = 0
reach_of_runs (run ∷ runs) = max (reach run.side) (reach_of_runs runs)

-- the place at which the first run begins whose side is false on a choice
abbrev pub first_run_outside : List Bool → List Run → Option ℕ
first_run_outside c [] = None
first_run_outside c (run ∷ runs) = if value run.side c then first_run_outside c runs else Some run.first

-- the refusals of a commit whose base is beyond the history, or whose choice, ambition or sides aren't of the options of the base
abbrev pub base_refusals : List Command → ℕ → List Bool → Formula ℕ → List Sided → List (Option Refusal)
base_refusals history base choice ambition es =
    when (nat_lt (length history) base) refusals.BadBase
    ∷ when (not (nat_eq (length choice) (option_count (take base history))) || nat_lt (option_count (take base history)) (reach_within ambition es)) refusals.BadOption
    ∷ []

-- the refusals where a constraint of a history is false on a choice, or an ambition is, or the side of an edit
abbrev pub choice_refusals : List Command → List Bool → Formula ℕ → List Sided → List (Option Refusal)
choice_refusals before choice ambition es =
    as_invalid (first_false_in before choice)
    ∷ when (not (value ambition choice)) refusals.OutsideAmbition
    ∷ as_outside (first_outside choice es)
    ∷ []

-- the refusals of edits that are none, or of which the variant of a choice refuses one
abbrev pub edit_refusals : List Command → List Bool → List Sided → List (Option Refusal)
edit_refusals before choice es = when (has_no_edits es) refusals.Empty ∷ as_bad_record (first_refused (numbers_of before) (replay choice before) (unsided es)) ∷ []

-- the refusals of a commit in order, but those for what overtakes it and for what it would leave unsound
abbrev pub commit_refusals : List Command → ℕ → List Bool → Formula ℕ → List Sided → List (Option Refusal)
commit_refusals history base choice ambition es =
    base_refusals history base choice ambition es
    ++ (size_refusals history (unsided es) ++ (choice_refusals (take base history) choice ambition es ++ edit_refusals (take base history) choice es))

-- the refusals of a command that come before those for the rules that stand, what overtakes it and what it would leave unsound
abbrev pub early_refusals : List Command → Command → List (Option Refusal)
early_refusals history (commands.Option name) = []
early_refusals history (commands.Constraint expr) = undeclared (option_count history) (reach expr) ∷ []
early_refusals history (commands.Prefer expr) = undeclared (option_count history) (reach expr) ∷ []
early_refusals history (commands.Default option on) = undeclared (option_count history) (option + 1) ∷ []
early_refusals history (commands.Commit base choice ambition es) = commit_refusals history base choice ambition es
early_refusals history commands.Upgrade = upgrade_refusal (is_upgraded history) ∷ []

-- the first of them, if there is one
abbrev pub early_refusal : List Command → Command → Option Refusal
early_refusal history command = first_of (early_refusals history command)
