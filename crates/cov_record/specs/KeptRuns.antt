-- The runs of one side as edits keep them, each by the place of its first edit.
use Rattle.std.specs.Prelude.{ℕ, ◌+◌, ◌-◌, ◌<◌, List, [], ◌∷◌, ◌++◌, length, take, drop}
use Rattle.cov_expr.specs.Formula.{True}
use Rattle.cov_edit.specs.declared.edit.Edit.{Edit}
use Rattle.cov_edit.specs.declared.edits.Run.{Run}
use Rattle.cov_edit.specs.Runs.{AreBelow}
use Rattle.cov_record.specs.SideRuns.{SideRun, side_run}

-- how many edits stand before the kept runs, of so many
abbrev pub count_before : List Run → ℕ → ℕ
count_before [] all = all
count_before (run ∷ runs) all = run.first

-- how many edits a kept run has, before others and of so many from its first on
abbrev pub own_count : Run → List Run → ℕ → ℕ
own_count run [] left = left
own_count run (next ∷ runs) left = next.first - run.first

-- kept runs with their edits, which stand from the first of the first run on
abbrev pub kept_runs : List Run → List Edit → List SideRun
kept_runs [] es = []
kept_runs (run ∷ runs) es =
    side_run run.side (take (own_count run runs (length es)) es) ∷ kept_runs runs (drop (own_count run runs (length es)) es)

-- edits before the kept runs: a run of the side True, if there are any
abbrev pub true_run : List Edit → List SideRun
true_run [] = []
true_run (e ∷ es) = side_run True (e ∷ es) ∷ []

-- all runs of edits
abbrev pub all_runs : List Run → List Edit → List SideRun
all_runs runs es =
    true_run (take (count_before runs (length es)) es) ++ kept_runs runs (drop (count_before runs (length es)) es)

-- the first of some runs, if there is one, begins behind a run
abbrev pub AreBehind : Run → List Run → Type 0
AreBehind run [] = Unit {0}
AreBehind run (next ∷ runs) = run.first < next.first

-- runs begin at so many edits, the first of which is that of the first run
abbrev pub AreWithin : List Run → ℕ → Type 0
AreWithin [] left = Unit {0}
AreWithin (run ∷ runs) left = AreBelow (run.first + left) (run ∷ runs)
