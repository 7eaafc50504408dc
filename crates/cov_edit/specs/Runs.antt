-- Lists of edits as they are kept: the edits, and each side at the place of the first edit that has it.
use Rattle.std.specs.Option.{option_map_or}
use Rattle.std.specs.Prelude.{◌≡◌, ℕ, ◌+◌, ◌-◌, ◌<◌, Bool, true, false, slice_get, nat_le, List, [], ◌∷◌, length, map, if◌then◌else◌}
use Rattle.std.specs.List.{fold, list_all, AllByRecursion}
use Rattle.cov_expr.specs.Formula.{Formula, True}
use Rattle.cov_edit.specs.Sides.{sided, fits_sided}
use Rattle.cov_edit.specs.Touched.{AreRising}
use Rattle.cov_edit.specs.declared.edit.Edit.{Edit}
use Rattle.cov_edit.specs.declared.edits.Run.{Run}
use Rattle.cov_edit.specs.declared.sided.Sided.{Sided}

-- the side from a run on, if the edit at a place stands in it or behind it
abbrev pub side_with : ℕ → Formula ℕ → Run → Formula ℕ
side_with i side run = if nat_le run.first i then run.side else side

-- the side of the edit at a place: that of the last run that begins there or before, and True before all
abbrev pub side_at : List Run → ℕ → Formula ℕ
side_at runs i = fold (side_with i) True runs

-- edits with the sides of their places, the first of which is i
abbrev pub sided_from : List Run → ℕ → List Edit → List Sided
sided_from runs i [] = []
sided_from runs i (e ∷ es) = sided (side_at runs i) e ∷ sided_from runs (i + 1) es

-- edits with their sides
abbrev pub sided_by : List Run → List Edit → List Sided
sided_by runs es = sided_from runs 0 es

-- the place of the first edit of a run
abbrev pub run_first : Run → ℕ
run_first run = run.first

-- each run begins behind those before it
abbrev pub RunsRise : List Run → Type 0
RunsRise runs = AreRising (map run_first runs)

-- each run begins before a place
abbrev pub AreBelow : ℕ → List Run → Type 0
AreBelow place runs = AllByRecursion (λ run. run.first < place) runs

-- the first run has another side than this, and each later one another than the run before it
abbrev pub AreDifferent : Formula ℕ → List Run → Type 0
AreDifferent side [] = Unit {0}
AreDifferent side (run ∷ runs) = (side ≡ run.side → ⊥) × AreDifferent run.side runs

-- the side of the last run, and this one where there is none
abbrev pub last_side : Formula ℕ → List Run → Formula ℕ
last_side side runs = fold (λ before run. run.side) side runs

-- each edit with its side is what their types keep; each run begins at an edit, behind those before it, and has another side
-- than that before it, which is True before the first
pub record IsListed (runs : List Run) (es : List Edit) : Type 0 where
  pub fits : list_all fits_sided (sided_by runs es) ≡ true
  pub rise : RunsRise runs
  pub below : AreBelow (length es) runs
  pub differ : AreDifferent True runs

-- whether the last of the runs, if there is one, begins behind so many edits
abbrev pub ends_behind : ℕ → List Run → Bool
ends_behind edits runs = option_map_or (λ run. nat_le edits run.first) (slice_get runs (length runs - 1)) false
