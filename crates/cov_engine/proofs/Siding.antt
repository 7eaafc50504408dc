-- What the runs of edits tell of their sides.
use Rattle.std.proofs.Common.{◌≡◌, ℕ, suc, ◌+◌, ◌<◌, ◌≤◌, Bool, true, false, cond, not, max, nat_le, nat_lt, List, [], ◌∷◌, length, map, Option, Some, None, refl, sym, ap, subst, ◌∙◌, arith}
use Rattle.std.specs.List.{fold, position_or_len, AllByRecursion}
use Rattle.std.proofs.Math.Nat.{max-le, le-max_left, le-max_right}
use Rattle.std.proofs.lemmas.Bool.Decides.{nat_tests}
use Rattle.cov_base.proofs.CallerLemmas.{all-map, all-both}
use Rattle.cov_expr.specs.Formula.{Formula, True, value, reach}
use Rattle.cov_edit.specs.Runs.{side_with, side_at, sided_from, sided_by, run_first, RunsRise, AreBelow}
use Rattle.cov_edit.specs.Sides.{unsided, reach_of_sides}
use Rattle.cov_edit.specs.declared.edit.Edit.{Edit}
use Rattle.cov_edit.specs.declared.edits.Run.{Run}
use Rattle.cov_edit.specs.declared.sided.Sided.{Sided}
use Rattle.cov_edit.proofs.CallerLemmas.{unsided-length}
use Rattle.cov_history.specs.Verdict.{first_outside}
use Rattle.cov_engine.specs.Refusing.{first_run_outside, reach_of_runs}

-- runs that begin behind a place leave its side
unseen : (i : ℕ) (side : Formula ℕ) (runs : List Run) → AllByRecursion (λ n. i < n) (map run_first runs) → fold (side_with i) side runs ≡ side
unseen i side [] h = refl
unseen i side (run ∷ runs) h =
    let above = h.0 in
    let later : nat_le run.first i ≡ false = grind (arith, nat_tests, above) in
    ap (λ b. fold (side_with i) (cond b run.side side) runs) later ∙ unseen i side runs h.1

-- the first of runs that rise has its side at its place
first-own : (side : Formula ℕ) (run : Run) (runs : List Run) → RunsRise (run ∷ runs) → fold (side_with run.first) side (run ∷ runs) ≡ run.side
first-own side run runs rise =
    let there : nat_le run.first run.first ≡ true = grind (arith, nat_tests) in
    ap (λ b. fold (side_with run.first) (cond b run.side side) runs) there ∙ unseen run.first run.side runs rise.0

-- so has each of them
each-own : (runs : List Run) → RunsRise runs → AllByRecursion (λ run. (side : Formula ℕ) → fold (side_with run.first) side runs ≡ run.side) runs
each-own [] rise = tt
each-own (run ∷ runs) rise = (
  λ side. first-own side run runs rise,
  all-map (λ r. (side : Formula ℕ) → fold (side_with r.first) side runs ≡ r.side) (λ r. (side : Formula ℕ) → fold (side_with r.first) side (run ∷ runs) ≡ r.side)
      (λ r own side. own (side_with r.first side run)) runs (each-own runs rise.1),
)

-- the side of a place is one of runs, or the one before them
side-low : (i : ℕ) (side : Formula ℕ) (runs : List Run) → reach (fold (side_with i) side runs) ≤ max (reach side) (reach_of_runs runs)
side-low i side [] = le-max_left (reach side) 0
side-low i side (run ∷ runs) = by (nat_le run.first i) (side-low i (side_with i side run) runs)
  where
    by : (b : Bool) → reach (fold (side_with i) (cond b run.side side) runs) ≤ max (reach (cond b run.side side)) (reach_of_runs runs)
        → reach (fold (side_with i) (cond b run.side side) runs) ≤ max (reach side) (max (reach run.side) (reach_of_runs runs))
    by true h = let behind = le-max_right (reach side) (max (reach run.side) (reach_of_runs runs)) in omega (arith, h, behind)
    by false h =
        let before = le-max_left (reach side) (max (reach run.side) (reach_of_runs runs)) in
        let behind = le-max_right (reach side) (max (reach run.side) (reach_of_runs runs)) in
        let others = le-max_right (reach run.side) (reach_of_runs runs) in
        let most : max (reach side) (reach_of_runs runs) ≤ max (reach side) (max (reach run.side) (reach_of_runs runs)) = max-le before (omega (arith, others, behind)) in
        omega (arith, h, most)

-- no side has more options than the runs
sides-most : (runs : List Run) (i : ℕ) (es : List Edit) → reach_of_sides (sided_from runs i es) ≤ reach_of_runs runs
sides-most runs i [] = omega arith
sides-most runs i (e ∷ es) =
    let low : reach (side_at runs i) ≤ max 0 (reach_of_runs runs) = side-low i True runs in
    let same : max 0 (reach_of_runs runs) ≤ reach_of_runs runs = max-le (omega arith) (omega arith) in
    let own : reach (side_at runs i) ≤ reach_of_runs runs = omega (arith, low, same) in
    max-le own (sides-most runs (i + 1) es)

-- each place has one of the sides
place-most : (runs : List Run) (i k : ℕ) (es : List Edit) → i ≤ k → k < i + length es → reach (side_at runs k) ≤ reach_of_sides (sided_from runs i es)
place-most runs i k [] low high = absurd (omega (arith, low, high))
place-most runs i k (e ∷ es) low high = at (nat_lt i k) refl (λ above. place-most runs (i + 1) k es (omega (arith, above)) (omega (arith, high)))
  where
    at : (b : Bool) → nat_lt i k ≡ b → (i < k → reach (side_at runs k) ≤ reach_of_sides (sided_from runs (i + 1) es)) → reach (side_at runs k) ≤ reach_of_sides (sided_from runs i (e ∷ es))
    at true is later =
        let rest = later (grind (arith, nat_tests, is)) in
        let others = le-max_right (reach (side_at runs i)) (reach_of_sides (sided_from runs (i + 1) es)) in
        omega (arith, rest, others)
    at false is later =
        let most : k ≤ i = grind (arith, nat_tests, is) in
        let same : i ≡ k = omega (arith, low, most) in
        let own = le-max_left (reach (side_at runs i)) (reach_of_sides (sided_from runs (i + 1) es)) in
        subst (λ j. reach (side_at runs j) ≤ reach_of_sides (sided_from runs i (e ∷ es))) same own

all-most : (n : ℕ) (runs : List Run) → AllByRecursion (λ run. reach run.side ≤ n) runs → reach_of_runs runs ≤ n
all-most n [] h = omega arith
all-most n (run ∷ runs) h = max-le h.0 (all-most n runs h.1)

-- runs that begin at edits have the options of these edits' sides
pub runs-reach : (runs : List Run) (es : List Edit) → RunsRise runs → AreBelow (length es) runs → reach_of_runs runs ≡ reach_of_sides (sided_by runs es)
runs-reach runs es rise below =
    let most = all-most (reach_of_sides (sided_by runs es)) runs
    (all-both (λ run. (side : Formula ℕ) → fold (side_with run.first) side runs ≡ run.side) (λ run. run.first < length es) (λ run. reach run.side ≤ reach_of_sides (sided_by runs es))
    (λ run own low. subst (λ side. reach side ≤ reach_of_sides (sided_by runs es)) (own True) (place-most runs 0 run.first es (omega arith) (omega (arith, low)))) runs (each-own runs rise) below) in
    let least = sides-most runs 0 es in
    omega (arith, most, least)

below-later : (n m : ℕ) → n ≤ m → (runs : List Run) → AreBelow n runs → AreBelow m runs
below-later n m le runs h = all-map (λ run. run.first < n) (λ run. run.first < m) (λ run low. omega (arith, low, le)) runs h

-- the place of the first run whose side is false is that of the first edit whose side is
module _ (c : List Bool) where
  abbrev outside : Sided → Bool
  outside s = not (value s.side c)

  -- a place whose side is false, those before it having true ones, is that of the first edit whose side is false
  found-at : (runs : List Run) (i n : ℕ) (es : List Edit) → i ≤ n → n ≤ i + length es → ((k : ℕ) → i ≤ k → k < n → value (side_at runs k) c ≡ true) → (n < i + length es → value (side_at runs n) c ≡ false)
      → i + position_or_len outside (sided_from runs i es) ≡ n
  found-at runs i n [] low high before here = omega (arith, low, high)
  found-at runs i n (e ∷ es) low high before here =
      at (nat_lt i n) (value (side_at runs i) c) refl refl
      (λ above. found-at runs (i + 1) n es (omega (arith, above)) (omega (arith, high)) (λ k le less. before k (omega (arith, le)) less) (λ less. here (omega (arith, less))))
    where
      at : (t b : Bool) → nat_lt i n ≡ t → value (side_at runs i) c ≡ b → (i < n → i + 1 + position_or_len outside (sided_from runs (i + 1) es) ≡ n)
          → i + cond (not (not b)) (1 + position_or_len outside (sided_from runs (i + 1) es)) 0 ≡ n
      at true true e is later = let rest = later (grind (arith, nat_tests, e)) in omega (arith, rest)
      at true false e is later = let on = before i (omega arith) (grind (arith, nat_tests, e)) in absurd (cc)
      at false true e is later =
          let most : n ≤ i = grind (arith, nat_tests, e) in
          let same : n ≡ i = omega (arith, most, low) in
          let off : value (side_at runs i) c ≡ false = subst (λ k. value (side_at runs k) c ≡ false) same (here (omega (arith, same))) in
          absurd (cc)
      at false false e is later = let most : n ≤ i = grind (arith, nat_tests, e) in omega (arith, most, low)

  either-true : (b : Bool) (s t : Formula ℕ) → value s c ≡ true → value t c ≡ true → value (cond b s t) c ≡ true
  either-true true s t on also = on
  either-true false s t on also = also

  -- where no run is false, no place is
  all-true : (side : Formula ℕ) (runs : List Run) → value side c ≡ true → first_run_outside c runs ≡ None → (k : ℕ) → value (fold (side_with k) side runs) c ≡ true
  all-true side [] on none k = on
  all-true side (run ∷ runs) on none k = at (value run.side c) refl none (λ s own rest. all-true s runs own rest k)
    where
      at : (b : Bool) → value run.side c ≡ b → cond b (first_run_outside c runs) (Some run.first) ≡ None
          → ((s : Formula ℕ) → value s c ≡ true → first_run_outside c runs ≡ None → value (fold (side_with k) s runs) c ≡ true) → value (fold (side_with k) side (run ∷ runs)) c ≡ true
      at true is rest later = later (side_with k side run) (either-true (nat_le run.first k) run.side side is on) rest
      at false is rest later = absurd (cc)

  -- before the first that is false none is
  true-before : (side : Formula ℕ) (runs : List Run) (n : ℕ) → value side c ≡ true → RunsRise runs → first_run_outside c runs ≡ Some n → (k : ℕ) → k < n → value (fold (side_with k) side runs) c ≡ true
  true-before side [] n on rise some k less = absurd (cc)
  true-before side (run ∷ runs) n on rise some k less = at (value run.side c) refl some (λ s own rest. true-before s runs n own rise.1 rest k less)
    where
      at : (b : Bool) → value run.side c ≡ b → cond b (first_run_outside c runs) (Some run.first) ≡ Some n
          → ((s : Formula ℕ) → value s c ≡ true → first_run_outside c runs ≡ Some n → value (fold (side_with k) s runs) c ≡ true) → value (fold (side_with k) side (run ∷ runs)) c ≡ true
      at true is rest later = later (side_with k side run) (either-true (nat_le run.first k) run.side side is on) rest
      at false is rest later =
          let same : run.first ≡ n = cc in
          let behind : nat_le run.first k ≡ false = grind (arith, nat_tests, same, less) in
          let above = all-map (λ m. run.first < m) (λ m. k < m) (λ m low. omega (arith, low, same, less)) (map run_first runs) rise.0 in
          ap (λ s. value s c) (ap (λ b. fold (side_with k) (cond b run.side side) runs) behind ∙ unseen k side runs above) ∙ on

  -- and at its place it is
  false-there : (runs : List Run) (n : ℕ) → RunsRise runs → first_run_outside c runs ≡ Some n → (side : Formula ℕ) → value (fold (side_with n) side runs) c ≡ false
  false-there [] n rise some side = absurd (cc)
  false-there (run ∷ runs) n rise some side = at (value run.side c) refl some (λ rest. false-there runs n rise.1 rest (side_with n side run))
    where
      at : (b : Bool) → value run.side c ≡ b → cond b (first_run_outside c runs) (Some run.first) ≡ Some n
          → (first_run_outside c runs ≡ Some n → value (fold (side_with n) side (run ∷ runs)) c ≡ false) → value (fold (side_with n) side (run ∷ runs)) c ≡ false
      at true is rest later = later rest
      at false is rest later =
          let same : run.first ≡ n = cc in
          ap (λ k. value (fold (side_with k) side (run ∷ runs)) c) (sym same) ∙ ap (λ s. value s c) (first-own side run runs rise) ∙ is

  outside-below : (m : ℕ) (runs : List Run) (n : ℕ) → AreBelow m runs → first_run_outside c runs ≡ Some n → n < m
  outside-below m [] n below some = absurd (cc)
  outside-below m (run ∷ runs) n below some = at (value run.side c) some (λ rest. outside-below m runs n below.1 rest)
    where
      at : (b : Bool) → cond b (first_run_outside c runs) (Some run.first) ≡ Some n → (first_run_outside c runs ≡ Some n → n < m) → n < m
      at true rest later = later rest
      at false rest later = let same : run.first ≡ n = cc in let low = below.0 in omega (arith, same, low)

  sided-length : (runs : List Run) (i : ℕ) (es : List Edit) → length (sided_from runs i es) ≡ length es
  sided-length runs i [] = refl
  sided-length runs i (e ∷ es) = ap suc (sided-length runs (i + 1) es)

  runs-outside : (runs : List Run) (es : List Edit) → RunsRise runs → AreBelow (length es) runs → first_run_outside c runs ≡ first_outside c (sided_by runs es)
  runs-outside runs es rise below = at (first_run_outside c runs) refl
    where
      count : length (sided_by runs es) ≡ length es
      count = sided-length runs 0 es

      at : (found : Option ℕ) → first_run_outside c runs ≡ found → found ≡ first_outside c (sided_by runs es)
      at None none =
          let end = found-at runs 0 (length es) es (omega arith) (omega arith) (λ k low less. all-true True runs refl none k) (λ less. absurd (omega (arith, less))) in
          let past : nat_lt (position_or_len outside (sided_by runs es)) (length (sided_by runs es)) ≡ false = (let n = count in grind (arith, nat_tests, end, n)) in
          sym (ap (λ b. cond b (Some (position_or_len outside (sided_by runs es))) None) past)
      at (Some n) some =
          let low = outside-below (length es) runs n below some in
          let there = found-at runs 0 n es (omega arith) (omega (arith, low)) (λ k le less. true-before True runs n refl rise some k less) (λ less. false-there runs n rise some True) in
          let within : nat_lt (position_or_len outside (sided_by runs es)) (length (sided_by runs es)) ≡ true = (let m = count in grind (arith, nat_tests, there, low, m)) in
          let place : n ≡ position_or_len outside (sided_by runs es) = omega (arith, there) in
          ap Some place ∙ sym (ap (λ b. cond b (Some (position_or_len outside (sided_by runs es))) None) within)

-- so of edits that have the runs
module _ (runs : List Run) (es : List Sided) (are : es ≡ sided_by runs (unsided es)) (rise : RunsRise runs) (below : AreBelow (length es) runs) where
  low : AreBelow (length (unsided es)) runs
  low = subst (λ n. AreBelow n runs) (sym (unsided-length es)) below

  pub sides-reach : reach_of_runs runs ≡ reach_of_sides es
  sides-reach = runs-reach runs (unsided es) rise low ∙ ap reach_of_sides (sym are)

  pub sides-outside : (c : List Bool) → first_run_outside c runs ≡ first_outside c es
  sides-outside c = runs-outside c runs (unsided es) rise low ∙ ap (first_outside c) (sym are)

  pub runs-below : (most : ℕ) → length (unsided es) ≤ most → AreBelow most runs
  runs-below most few = below-later (length (unsided es)) most few runs low
