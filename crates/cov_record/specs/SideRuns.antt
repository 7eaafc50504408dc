-- The edits of a commit by runs of one side, each as long as can be.
use Rattle.std.specs.Prelude.{◌≡◌, ◌<◌, ℕ, Bool, false, cond, not, List, [], ◌∷◌, ◌++◌, length, map, Option, Some, None}
use Rattle.std.specs.List.{fold, list_any}
use Rattle.cov_expr.specs.Formula.{Formula, True}
use Rattle.cov_expr.specs.SameParts.{is_same_formula}
use Rattle.cov_edit.specs.Sides.{sided}
use Rattle.cov_edit.specs.declared.edit.Edit.{Edit}
use Rattle.cov_edit.specs.declared.sided.Sided.{Sided}

-- edits one behind another that have one side
pub record SideRun : Type 0 where
  pub side : Formula ℕ
  pub edits : List Edit

abbrev pub side_run : Formula ℕ → List Edit → SideRun
side_run side es = record { side = side; edits = es }

-- edits with one side
abbrev pub under : Formula ℕ → List Edit → List Sided
under side es = map (sided side) es

-- the edits of runs, each with its side
abbrev pub laid_out : List SideRun → List Sided
laid_out [] = []
laid_out (run ∷ runs) = under run.side run.edits ++ laid_out runs

-- an edit before runs: it joins the first of them if that has its side, and else is a run of its own
abbrev pub run_before : Sided → List SideRun → List SideRun
run_before s [] = side_run s.side (s.edit ∷ []) ∷ []
run_before s (run ∷ runs) =
    cond (is_same_formula s.side run.side) (side_run run.side (s.edit ∷ run.edits) ∷ runs) (side_run s.side (s.edit ∷ []) ∷ run ∷ runs)

-- edits by runs of one side, so that neighbouring runs have different sides
abbrev pub side_runs : List Sided → List SideRun
side_runs [] = []
side_runs (s ∷ ss) = run_before s (side_runs ss)

-- whether a side is given, other than True as it is written
abbrev pub has_side : Sided → Bool
has_side s = not (is_same_formula s.side True)

-- whether one of the edits has such a side
abbrev pub has_sides : List Sided → Bool
has_sides ss = list_any has_side ss

-- the side of the last edit, if there is one
abbrev pub side_before : List Sided → Option (Formula ℕ)
side_before ss = fold (λ before s. Some s.side) None ss

-- whether a side is that of the edits before it, if there are any
abbrev pub goes_on : Option (Formula ℕ) → Formula ℕ → Bool
goes_on None side = false
goes_on (Some before) side = is_same_formula before side

-- each run has an edit, and another side than what stands before it
abbrev pub AreRuns : Option (Formula ℕ) → List SideRun → Type 0
AreRuns before [] = Unit {0}
AreRuns before (run ∷ runs) = (0 < length run.edits) × (goes_on before run.side ≡ false) × AreRuns (Some run.side) runs
