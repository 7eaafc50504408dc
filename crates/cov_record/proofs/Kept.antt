-- The kept runs are the runs of one side.
use Rattle.std.proofs.Common.{◌≡◌, ℕ, zero, suc, ◌+◌, ◌-◌, ◌<◌, ◌≤◌, true, false, cond, not, ◌||◌, ◌==◌, nat_le, List, [], ◌∷◌, ◌++◌, length, take, drop, map, Option, Some, None, refl, sym, ap, subst, ◌∙◌, arith, length-drop, length-take-le, take_all}
use Rattle.std.specs.List.{fold, AllByRecursion}
use Rattle.std.proofs.lemmas.List.{append-nil}
use Rattle.std.proofs.lemmas.List.Folds.{list_any-append}
use Rattle.std.proofs.lemmas.Bool.Decides.{nat_tests}
use Rattle.cov_base.proofs.CallerLemmas.{all-map}
use Rattle.cov_expr.specs.Formula.{Formula, True}
use Rattle.cov_edit.specs.Sides.{sided}
use Rattle.cov_edit.specs.Runs.{side_with, side_at, sided_from, sided_by, run_first, RunsRise, AreBelow, AreDifferent}
use Rattle.cov_edit.specs.declared.edit.Edit.{Edit}
use Rattle.cov_edit.specs.declared.edits.Run.{Run}
use Rattle.cov_edit.specs.declared.sided.Sided.{Sided}
use Rattle.cov_record.specs.KeptRuns.{count_before, own_count, kept_runs, true_run, all_runs, AreWithin}
use Rattle.cov_record.specs.SideRuns.{SideRun, under, laid_out, side_runs, has_side, has_sides, goes_on, AreRuns}
use Rattle.cov_record.proofs.Grouping.{not-same, laid_out-append, runs-back, under-none}

-- edits with the sides of their places, the first of which is i, by runs behind a side
abbrev sided_behind : Formula ℕ → List Run → ℕ → List Edit → List Sided
sided_behind side runs i [] = []
sided_behind side runs i (e ∷ es) = sided (fold (side_with i) side runs) e ∷ sided_behind side runs (i + 1) es

by-is : (runs : List Run) (i : ℕ) (es : List Edit) → sided_from runs i es ≡ sided_behind True runs i es
by-is runs i [] = refl
by-is runs i (e ∷ es) = ap (λ l. sided (side_at runs i) e ∷ l) (by-is runs (i + 1) es)

-- behind the last run all edits have its side
none-behind : (side : Formula ℕ) (i : ℕ) (es : List Edit) → sided_behind side [] i es ≡ under side es
none-behind side i [] = refl
none-behind side i (e ∷ es) = ap (λ l. sided side e ∷ l) (none-behind side (i + 1) es)

-- from its first on a run's side is that of the edits
from-first : (side : Formula ℕ) (run : Run) (runs : List Run) (i : ℕ) (es : List Edit) → run.first ≤ i → sided_behind side (run ∷ runs) i es ≡ sided_behind run.side runs i es
from-first side run runs i [] h = refl
from-first side run runs i (e ∷ es) h =
    let there : nat_le run.first i ≡ true = grind (arith, nat_tests, h) in
    λ j. sided (fold (side_with i) (cond (there j) run.side side) runs) e ∷ from-first side run runs (i + 1) es (omega (arith, h)) j

-- before all runs it isn't
before-all : (side : Formula ℕ) (i : ℕ) (runs : List Run) → AllByRecursion (λ n. i < n) (map run_first runs) → fold (side_with i) side runs ≡ side
before-all side i [] h = refl
before-all side i (run ∷ runs) h =
    let own = h.0 in
    let later : nat_le run.first i ≡ false = grind (arith, nat_tests, own) in
    ap (λ b. fold (side_with i) (cond b run.side side) runs) later ∙ before-all side i runs h.1

-- the edits before a run, and those from its first on
parted-at : (side : Formula ℕ) (run : Run) (runs : List Run) → RunsRise (run ∷ runs) → (k i : ℕ) (es : List Edit) → i + k ≡ run.first → k ≤ length es
    → sided_behind side (run ∷ runs) i es ≡ under side (take k es) ++ sided_behind run.side runs run.first (drop k es)
parted-at side run runs rise zero i [] at few = refl
parted-at side run runs rise zero i (e ∷ es) at few =
    let here : i ≡ run.first = omega (arith, at) in
    from-first side run runs i (e ∷ es) (omega (arith, at)) ∙ ap (λ j. sided_behind run.side runs j (e ∷ es)) here
parted-at side run runs rise (suc k) i [] at few = absurd (omega (arith, few))
parted-at side run runs rise (suc k) i (e ∷ es) at few =
    let own : i < run.first = omega (arith, at) in
    let above = all-map (λ n. run.first < n) (λ n. i < n) (λ n h. omega (arith, h, own)) (map run_first runs) rise.0 in
    λ j. sided (before-all side i (run ∷ runs) (own, above) j) e ∷ parted-at side run runs rise k (i + 1) es (omega (arith, at)) (omega (arith, few)) j

-- a run's own edits are among those that are left, and it has one
pub own-few : (run : Run) (runs : List Run) (left : ℕ) → AreWithin (run ∷ runs) left → own_count run runs left ≤ left
own-few run [] left within = omega arith
own-few run (next ∷ runs) left within = let below = within.1.0 in omega (arith, below)

own-some : (run : Run) (runs : List Run) (left : ℕ) → RunsRise (run ∷ runs) → AreWithin (run ∷ runs) left → 0 < own_count run runs left
own-some run [] left rise within = let below = within.0 in omega (arith, below)
own-some run (next ∷ runs) left rise within = let above = rise.0.0 in omega (arith, above)

-- the runs behind it begin at the edits that are left then
pub within-rest : (run : Run) (runs : List Run) (left m : ℕ) → RunsRise (run ∷ runs) → AreWithin (run ∷ runs) left → m ≡ left - own_count run runs left → AreWithin runs m
within-rest run [] left m rise within is = tt
within-rest run (next ∷ runs) left m rise within is =
    let above = rise.0.0 in
    let below = within.1.0 in
    let same : run.first + left ≡ next.first + m = omega (arith, above, below, is) in
    subst (λ n. AreBelow n (next ∷ runs)) same within.1

-- the kept runs have the edits with their sides
kept-laid : (run : Run) (runs : List Run) (es : List Edit) → RunsRise (run ∷ runs) → AreWithin (run ∷ runs) (length es)
    → sided_behind run.side runs run.first es ≡ laid_out (kept_runs (run ∷ runs) es)
kept-laid run [] es rise within =
    none-behind run.side run.first es ∙ ap (under run.side) (sym (take_all (length es) es (omega arith))) ∙ sym (append-nil (under run.side (take (length es) es)))
kept-laid run (next ∷ runs) es rise within =
    let above = rise.0.0 in
    let k = next.first - run.first in
    let few = own-few run (next ∷ runs) (length es) within in
    parted-at run.side next runs rise.1 k run.first es (omega (arith, above)) few
    ∙ ap (λ l. under run.side (take k es) ++ l)
    (kept-laid next runs (drop k es) rise.1 (within-rest run (next ∷ runs) (length es) (length (drop k es)) rise within (length-drop k es)))

-- the edits before them have the side True
true-laid : (es : List Edit) → laid_out (true_run es) ≡ under True es
true-laid [] = refl
true-laid (e ∷ es) = append-nil (under True (e ∷ es))

front-laid : (es : List Edit) (runs : List SideRun) → laid_out (true_run es ++ runs) ≡ under True es ++ laid_out runs
front-laid es runs = laid_out-append (true_run es) runs ∙ ap (λ l. l ++ laid_out runs) (true-laid es)

-- kept runs that begin at edits begin at those that are left from the first on
begun-within : (run : Run) (runs : List Run) (es : List Edit) → AreBelow (length es) (run ∷ runs) → AreWithin (run ∷ runs) (length (drop run.first es))
begun-within run runs es below =
    let own = below.0 in
    let left = length-drop run.first es in
    let same : length es ≡ run.first + length (drop run.first es) = omega (arith, own, left) in
    subst (λ n. AreBelow n (run ∷ runs)) same below

pub rest-within : (runs : List Run) (es : List Edit) → AreBelow (length es) runs → AreWithin runs (length (drop (count_before runs (length es)) es))
rest-within [] es below = tt
rest-within (run ∷ runs) es below = begun-within run runs es below

all-laid : (runs : List Run) (es : List Edit) → RunsRise runs → AreBelow (length es) runs → sided_by runs es ≡ laid_out (all_runs runs es)
all-laid [] es rise below =
    by-is [] 0 es ∙ none-behind True 0 es ∙ ap (under True) (sym (take_all (length es) es (omega arith)))
    ∙ sym (append-nil (under True (take (length es) es))) ∙ sym (front-laid (take (length es) es) [])
all-laid (run ∷ runs) es rise below =
    let own = below.0 in
    by-is (run ∷ runs) 0 es ∙ parted-at True run runs rise run.first 0 es (omega arith) (omega (arith, own))
    ∙ ap (λ l. under True (take run.first es) ++ l) (kept-laid run runs (drop run.first es) rise (begun-within run runs es below))
    ∙ sym (front-laid (take run.first es) (kept_runs (run ∷ runs) (drop run.first es)))

-- none of them is empty, and neighbours have different sides
kept-are-runs : (before : Option (Formula ℕ)) (run : Run) (runs : List Run) (es : List Edit) → goes_on before run.side ≡ false → RunsRise (run ∷ runs) → AreWithin (run ∷ runs) (length es)
    → AreDifferent run.side runs → AreRuns before (kept_runs (run ∷ runs) es)
kept-are-runs before run [] es other rise within differ =
    let some = own-some run [] (length es) rise within in
    let same = length-take-le (length es) es (omega arith) in
    (omega (arith, some, same), other, tt)
kept-are-runs before run (next ∷ runs) es other rise within differ =
    let k = next.first - run.first in
    let some = own-some run (next ∷ runs) (length es) rise within in
    let same = length-take-le k es (own-few run (next ∷ runs) (length es) within) in (
      omega (arith, some, same),
      other,
      kept-are-runs (Some run.side) next runs (drop k es) (not-same run.side next.side differ.0) rise.1
          (within-rest run (next ∷ runs) (length es) (length (drop k es)) rise within (length-drop k es)) differ.1,
    )

behind-side : (before : Option (Formula ℕ)) (runs : List Run) (es : List Edit) → ((run : Run) → (True ≡ run.side → ⊥) → goes_on before run.side ≡ false) → RunsRise runs → AreWithin runs (length es)
    → AreDifferent True runs → AreRuns before (kept_runs runs es)
behind-side before [] es other rise within differ = tt
behind-side before (run ∷ runs) es other rise within differ = kept-are-runs before run runs es (other run differ.0) rise within differ.1

true-before : (front : List Edit) (runs : List Run) (es : List Edit) → RunsRise runs → AreWithin runs (length es) → AreDifferent True runs → AreRuns None (true_run front ++ kept_runs runs es)
true-before [] runs es rise within differ = behind-side None runs es (λ run h. refl) rise within differ
true-before (e ∷ front) runs es rise within differ = (omega arith, refl, behind-side (Some True) runs es (λ run h. not-same True run.side h) rise within differ)

-- so the kept runs with the one before them are the runs of one side
pub kept-are : (runs : List Run) (es : List Edit) → RunsRise runs → AreBelow (length es) runs → AreDifferent True runs → all_runs runs es ≡ side_runs (sided_by runs es)
kept-are runs es rise below differ =
    sym (runs-back None (all_runs runs es) (true-before _ runs _ rise (rest-within runs es below) differ)) ∙ ap side_runs (sym (all-laid runs es rise below))

-- edits have sides just where runs are kept
under-sided : (side : Formula ℕ) (es : List Edit) (ss : List Sided) → (True ≡ side → ⊥) → 0 < length es → has_sides (under side es ++ ss) ≡ true
under-sided side [] ss other some = absurd (omega (arith, some))
under-sided side (e ∷ es) ss other some = ap (λ t. not t || has_sides (under side es ++ ss)) (not-same side True (λ h. other (sym h)))

pub kept-sided : (runs : List Run) (es : List Edit) → RunsRise runs → AreBelow (length es) runs → AreDifferent True runs → has_sides (sided_by runs es) ≡ not (length runs == 0)
kept-sided [] es rise below differ = ap has_sides (by-is [] 0 es ∙ none-behind True 0 es) ∙ under-none es
kept-sided (run ∷ runs) es rise below differ =
    let left = drop run.first es in
    let within = begun-within run runs es below in
    let kept = kept-are-runs None run runs left refl rise within differ.1 in
    ap has_sides (all-laid (run ∷ runs) es rise below ∙ front-laid (take run.first es) (kept_runs (run ∷ runs) left))
    ∙ list_any-append has_side (under True (take run.first es)) (laid_out (kept_runs (run ∷ runs) left))
    ∙ (λ i. under-none (take run.first es) i || under-sided run.side (take (own_count run runs (length left)) left) (laid_out (kept_runs runs (drop (own_count run runs (length left)) left))) differ.0 kept.0 i)
    ∙ some
  where
    some : true ≡ not (length (run ∷ runs) == 0)
    some = grind (arith, nat_tests)
