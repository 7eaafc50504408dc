-- Edits that are counted run by run.
use Rattle.std.proofs.Common.{◌≡◌, ℕ, suc, ◌+◌, ◌-◌, ◌<◌, ◌≤◌, Bool, true, false, cond, nat_le, nat_lt, List, [], ◌∷◌, length, map, refl, sym, ap, subst, ◌∙◌, arith}
use Rattle.std.specs.List.{filter, fold, AllByRecursion}
use Rattle.std.proofs.lemmas.Bool.Decides.{nat_tests}
use Rattle.cov_expr.specs.Formula.{Formula, True, value}
use Rattle.cov_edit.specs.Runs.{side_with, side_at, sided_from, sided_by, run_first, RunsRise, AreBelow}
use Rattle.cov_edit.specs.Sides.{sided, unsided, reach_of_sides}
use Rattle.cov_edit.specs.declared.edit.Edit.{Edit}
use Rattle.cov_edit.specs.declared.edits.Run.{Run}
use Rattle.cov_edit.specs.declared.sided.Sided.{Sided}
use Rattle.cov_edit.proofs.CallerLemmas.{unsided-length}
use Rattle.cov_engine.specs.Refusing.{reach_of_runs}
use Rattle.cov_engine.proofs.CallerLemmas.{runs-reach}
use Rattle.cov_hist.specs.Holding.{edits_on, is_on_side}
use Rattle.cov_hist.specs.RunCounts.{edits_in_runs, place_of}

-- edits from a place on with the sides of runs, and this one before them
abbrev sided_as : Formula ℕ → List Run → ℕ → List Edit → List Sided
sided_as s runs i [] = []
sided_as s runs i (e ∷ es) = sided (fold (side_with i) s runs) e ∷ sided_as s runs (i + 1) es

sided-same : (runs : List Run) (i : ℕ) (es : List Edit) → sided_from runs i es ≡ sided_as True runs i es
sided-same runs i [] = refl
sided-same runs i (e ∷ es) = ap (λ ss. sided (side_at runs i) e ∷ ss) (sided-same runs (i + 1) es)

-- runs that begin behind a place leave its side
unseen : (i : ℕ) (s : Formula ℕ) (runs : List Run) → AllByRecursion (λ n. i < n) (map run_first runs) → fold (side_with i) s runs ≡ s
unseen i s [] h = refl
unseen i s (run ∷ runs) h =
    let above = h.0 in
    let later : nat_le run.first i ≡ false = grind (arith, nat_tests, above) in
    ap (λ b. fold (side_with i) (cond b run.side s) runs) later ∙ unseen i s runs h.1

-- behind the first run, the side before it doesn't matter
sided-behind : (s : Formula ℕ) (run : Run) (rest : List Run) (i : ℕ) (es : List Edit) → run.first ≤ i → sided_as s (run ∷ rest) i es ≡ sided_as run.side rest i es
sided-behind s run rest i [] le = refl
sided-behind s run rest i (e ∷ es) le =
    let there : nat_le run.first i ≡ true = grind (arith, nat_tests, le) in
    ap (λ b. sided (fold (side_with i) (cond b run.side s) rest) e ∷ sided_as s (run ∷ rest) (i + 1) es) there
    ∙ ap (λ ss. sided (fold (side_with i) run.side rest) e ∷ ss) (sided-behind s run rest (i + 1) es (omega (arith, le)))

above-all : (i n : ℕ) (ns : List ℕ) → i < n → AllByRecursion (λ m. n < m) ns → AllByRecursion (λ m. i < m) ns
above-all i n [] less h = tt
above-all i n (m ∷ ns) less h = (let above = h.0 in omega (arith, less, above), above-all i n ns less h.1)

-- a run ends where the next one begins, behind its own beginning
pub run-ends : (count : ℕ) (run : Run) (rest : List Run) → RunsRise (run ∷ rest) → run.first < count → run.first ≤ place_of count rest
run-ends count run [] rise below = omega (arith, below)
run-ends count run (next ∷ rest) rise below = let above = rise.0.0 in omega (arith, above)

module _ (c : List Bool) where
  abbrev on : List Sided → ℕ
  on ss = length (filter (is_on_side c) ss)

  -- one edit more
  on-one : (side : Formula ℕ) (b : Bool) (e : Edit) (ss : List Sided) → value side c ≡ b → on (sided side e ∷ ss) ≡ cond b 1 0 + on ss
  on-one side b e ss is = ap (λ v. length (cond v (sided side e ∷ filter (is_on_side c) ss) (filter (is_on_side c) ss))) is ∙ by b
    where
      by : (b : Bool) → length (cond b (sided side e ∷ filter (is_on_side c) ss) (filter (is_on_side c) ss)) ≡ cond b 1 0 + on ss
      by true = omega arith
      by false = omega arith

  -- edits with one side
  on-all : (s : Formula ℕ) (i : ℕ) (es : List Edit) → on (sided_as s [] i es) ≡ cond (value s c) (length es) 0
  on-all s i [] = none (value s c)
    where
      none : (b : Bool) → ◌≡◌ {A = ℕ} 0 (cond b 0 0)
      none true = refl
      none false = refl
  on-all s i (e ∷ es) = on-one s (value s c) e (sided_as s [] (i + 1) es) refl ∙ more (value s c) (on-all s (i + 1) es)
    where
      more : (b : Bool) → on (sided_as s [] (i + 1) es) ≡ cond b (length es) 0 → cond b 1 0 + on (sided_as s [] (i + 1) es) ≡ cond b (suc (length es)) 0
      more true h = omega (arith, h)
      more false h = omega (arith, h)

  -- the edits before the first run, and those behind
  before-first : (s : Formula ℕ) (run : Run) (rest : List Run) (n : ℕ) → RunsRise (run ∷ rest) → run.first < n
      → ((i : ℕ) (es : List Edit) → n ≡ i + length es → i ≤ place_of n rest → on (sided_as run.side rest i es) ≡ cond (value run.side c) (place_of n rest - i) 0 + edits_in_runs c n rest)
      → (i : ℕ) (es : List Edit) → n ≡ i + length es → i ≤ run.first → on (sided_as s (run ∷ rest) i es) ≡ cond (value s c) (run.first - i) 0 + edits_in_runs c n (run ∷ rest)
  before-first s run rest n rise below behind i [] all low = absurd (omega (arith, all, low, below))
  before-first s run rest n rise below behind i (e ∷ es) all low =
      at (nat_lt i run.first) refl (λ less. before-first s run rest n rise below behind (i + 1) es (omega (arith, all)) (omega (arith, less)))
    where
      first : (b : Bool) (r k : ℕ) → i < run.first → r ≡ cond b (run.first - (i + 1)) 0 + k → cond b 1 0 + r ≡ cond b (run.first - i) 0 + k
      first true r k less h = omega (arith, less, h)
      first false r k less h = omega (arith, h)

      none : (b : Bool) (k : ℕ) → i ≡ run.first → k ≡ cond b (run.first - i) 0 + k
      none true k same = omega (arith, same)
      none false k same = omega arith

      at : (b : Bool) → nat_lt i run.first ≡ b → (i < run.first → on (sided_as s (run ∷ rest) (i + 1) es) ≡ cond (value s c) (run.first - (i + 1)) 0 + edits_in_runs c n (run ∷ rest))
          → on (sided_as s (run ∷ rest) i (e ∷ es)) ≡ cond (value s c) (run.first - i) 0 + edits_in_runs c n (run ∷ rest)
      at true is later =
          let less : i < run.first = grind (arith, nat_tests, is) in
          let own = unseen i s (run ∷ rest) (less, above-all i run.first (map run_first rest) less rise.0) in
          on-one (fold (side_with i) s (run ∷ rest)) (value s c) e (sided_as s (run ∷ rest) (i + 1) es) (ap (λ side. value side c) own)
          ∙ first (value s c) (on (sided_as s (run ∷ rest) (i + 1) es)) (edits_in_runs c n (run ∷ rest)) less (later less)
      at false is later =
          let most : run.first ≤ i = grind (arith, nat_tests, is) in
          let same : i ≡ run.first = omega (arith, most, low) in
          ap on (sided-behind s run rest i (e ∷ es) most)
          ∙ behind i (e ∷ es) all (let ends = run-ends n run rest rise below in omega (arith, same, ends))
          ∙ ap (λ k. cond (value run.side c) (place_of n rest - k) 0 + edits_in_runs c n rest) same
          ∙ none (value s c) (edits_in_runs c n (run ∷ rest)) same

  counted : (s : Formula ℕ) (runs : List Run) (n : ℕ) → RunsRise runs → AreBelow n runs
      → (i : ℕ) (es : List Edit) → n ≡ i + length es → i ≤ place_of n runs → on (sided_as s runs i es) ≡ cond (value s c) (place_of n runs - i) 0 + edits_in_runs c n runs
  counted s [] n rise below i es all low = on-all s i es ∙ by (value s c)
    where
      by : (b : Bool) → cond b (length es) 0 ≡ cond b (n - i) 0 + 0
      by true = omega (arith, all)
      by false = refl
  counted s (run ∷ rest) n rise below i es all low = before-first s run rest n rise below.0 (counted run.side rest n rise.1 below.1) i es all low

  -- the edits with a true side are those before the first run, and those of the runs
  pub edits-counted : (runs : List Run) (es : List Edit) → RunsRise runs → AreBelow (length es) runs → edits_on c (sided_by runs es) ≡ place_of (length es) runs + edits_in_runs c (length es) runs
  edits-counted runs es rise below =
      ap on (sided-same runs 0 es) ∙ counted True runs (length es) rise below 0 es (omega arith) (omega arith)
      ∙ whole (place_of (length es) runs) (edits_in_runs c (length es) runs)
    where
      whole : (p k : ℕ) → p - 0 + k ≡ p + k
      whole p k = omega arith

  -- they are no more than all
  pub runs-few : (count : ℕ) (runs : List Run) → RunsRise runs → AreBelow count runs → place_of count runs + edits_in_runs c count runs ≤ count
  runs-few count [] rise below = omega arith
  runs-few count (run ∷ rest) rise below = at (value run.side c) (run-ends count run rest rise below.0) (runs-few count rest rise.1 below.1)
    where
      at : (b : Bool) → run.first ≤ place_of count rest → place_of count rest + edits_in_runs c count rest ≤ count → run.first + (cond b (place_of count rest - run.first) 0 + edits_in_runs c count rest) ≤ count
      at true ends h = omega (arith, ends, h)
      at false ends h = omega (arith, ends, h)

-- how edits are counted that are kept with these runs
module _ (c : List Bool) (ss : List Sided) (runs : List Run) (n : ℕ) (sides : ss ≡ sided_by runs (unsided ss)) (rise : RunsRise runs) (below : AreBelow (length ss) runs) (count : n ≡ length ss) where
  abbrev all : n ≡ length (unsided ss)
  all = count ∙ sym (unsided-length ss)

  pub sides-reach : reach_of_runs runs ≡ reach_of_sides ss
  sides-reach = runs-reach runs (unsided ss) rise (subst (λ m. AreBelow m runs) (sym (unsided-length ss)) below) ∙ ap reach_of_sides (sym sides)

  pub counted-few : place_of n runs + edits_in_runs c n runs ≤ n
  counted-few = runs-few c n runs rise (subst (λ m. AreBelow m runs) (sym count) below)

  pub counted-is : place_of n runs + edits_in_runs c n runs ≡ edits_on c ss
  counted-is =
      ap (λ m. place_of m runs + edits_in_runs c m runs) all
      ∙ sym (edits-counted c runs (unsided ss) rise (subst (λ m. AreBelow m runs) (sym (unsided-length ss)) below))
      ∙ ap (edits_on c) (sym sides)
