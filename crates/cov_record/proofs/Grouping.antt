-- Edits by runs of one side.
use Rattle.std.proofs.Common.{◌≡◌, ℕ, ◌+◌, ◌<◌, ◌≤◌, ◌^◌, Bool, true, false, cond, not, ◌||◌, List, [], ◌∷◌, ◌++◌, length, Option, Some, None, refl, sym, ap, subst, ◌∙◌, arith, append_assoc}
use Rattle.std.specs.List.{fold, AllByRecursion}
use Rattle.std.proofs.lemmas.List.{append-nil, length-append, length-map}
use Rattle.std.proofs.lemmas.List.Sums.{fold-append}
use Rattle.std.proofs.Math.Nat.{max-le}
use Rattle.cov_base.proofs.CallerLemmas.{all-append}
use Rattle.cov_base.specs.declared.limits.TheConstants.{CHOICE_WIDTH}
use Rattle.cov_expr.specs.Formula.{Formula, True, reach}
use Rattle.cov_expr.specs.SameParts.{is_same_formula}
use Rattle.cov_expr.proofs.CallerLemmas.{alike-same, same-is, same-itself}
use Rattle.cov_edit.specs.Sides.{sided, unsided, side_after, reach_of_sides}
use Rattle.cov_edit.proofs.CallerLemmas.{unsided-append}
use Rattle.cov_edit.specs.declared.edit.Edit.{Edit}
use Rattle.cov_edit.specs.declared.sided.Sided.{Sided}
use Rattle.cov_record.specs.FitsRecord.{FitsReferences, FitsCount, FitsCounts, FitsWritten}
use Rattle.cov_record.specs.SideRuns.{SideRun, side_run, under, laid_out, run_before, side_runs, has_sides, side_before, goes_on, AreRuns}

-- sides that aren't the same are told apart, and a test that goes both ways is that of their parts
pub not-same : (a b : Formula ℕ) → (a ≡ b → ⊥) → is_same_formula a b ≡ false
not-same a b h = at (is_same_formula a b) refl
  where
    at : (t : Bool) → is_same_formula a b ≡ t → is_same_formula a b ≡ false
    at true e = absurd (h (same-is a b e))
    at false e = e

pub test-is : (a b : Formula ℕ) (t : Bool) → (t ≡ true → a ≡ b) → (a ≡ b → t ≡ true) → t ≡ is_same_formula a b
test-is a b true same alike = sym (alike-same a b (same refl))
test-is a b false same alike = sym (not-same a b (λ e. let one = alike e in absurd (cc)))

pub under-unsided : (side : Formula ℕ) (es : List Edit) → unsided (under side es) ≡ es
under-unsided side [] = refl
under-unsided side (e ∷ es) = ap (λ l. e ∷ l) (under-unsided side es)

pub laid_out-append : (xs ys : List SideRun) → laid_out (xs ++ ys) ≡ laid_out xs ++ laid_out ys
laid_out-append [] ys = refl
laid_out-append (x ∷ xs) ys =
    ap (λ l. under x.side x.edits ++ l) (laid_out-append xs ys) ∙ sym (append_assoc (under x.side x.edits) (laid_out xs) (laid_out ys))

-- an edit before runs stands before their edits
laid-before : (s : Sided) (runs : List SideRun) → laid_out (run_before s runs) ≡ s ∷ laid_out runs
laid-before s [] = refl
laid-before s (run ∷ runs) = at (is_same_formula s.side run.side) refl
  where
    at : (t : Bool) → is_same_formula s.side run.side ≡ t
        → laid_out (cond t (side_run run.side (s.edit ∷ run.edits) ∷ runs) (side_run s.side (s.edit ∷ []) ∷ run ∷ runs)) ≡ s ∷ laid_out (run ∷ runs)
    at true e = ap (λ side. sided side s.edit ∷ laid_out (run ∷ runs)) (sym (same-is s.side run.side e))
    at false e = refl

-- the runs have the edits
pub laid_out-runs : (ss : List Sided) → laid_out (side_runs ss) ≡ ss
laid_out-runs [] = refl
laid_out-runs (s ∷ ss) = laid-before s (side_runs ss) ∙ ap (λ l. s ∷ l) (laid_out-runs ss)

runs-before : (before : Option (Formula ℕ)) (s : Sided) (runs : List SideRun) → goes_on before s.side ≡ false → AreRuns None runs → AreRuns before (run_before s runs)
runs-before before s [] other are = (omega arith, other, tt)
runs-before before s (run ∷ runs) other are = at (is_same_formula s.side run.side) refl
  where
    at : (t : Bool) → is_same_formula s.side run.side ≡ t
        → AreRuns before (cond t (side_run run.side (s.edit ∷ run.edits) ∷ runs) (side_run s.side (s.edit ∷ []) ∷ run ∷ runs))
    at true e = (omega arith, subst (λ side. goes_on before side ≡ false) (same-is s.side run.side e) other, are.2)
    at false e = (omega arith, other, (are.0, e, are.2))

-- none of the runs is empty, and neighbours have different sides
pub runs-are : (ss : List Sided) → AreRuns None (side_runs ss)
runs-are [] = tt
runs-are (s ∷ ss) = runs-before None s (side_runs ss) refl (runs-are ss)

-- edits of a side are one run before others
run-first : (side : Formula ℕ) (e : Edit) (es : List Edit) (ss : List Sided) (runs : List SideRun) → side_runs ss ≡ runs → AreRuns (Some side) runs
    → side_runs (under side (e ∷ es) ++ ss) ≡ side_run side (e ∷ es) ∷ runs
run-first side e [] ss runs h are = ap (run_before (sided side e)) h ∙ apart runs are
  where
    apart : (runs : List SideRun) → AreRuns (Some side) runs → run_before (sided side e) runs ≡ side_run side (e ∷ []) ∷ runs
    apart [] k = refl
    apart (run ∷ runs) k = ap (λ t. cond t (side_run run.side (e ∷ run.edits) ∷ runs) (side_run side (e ∷ []) ∷ run ∷ runs)) k.1
run-first side e (d ∷ es) ss runs h are =
    ap (run_before (sided side e)) (run-first side d es ss runs h are)
    ∙ ap (λ t. cond t (side_run side (e ∷ d ∷ es) ∷ runs) (side_run side (e ∷ []) ∷ side_run side (d ∷ es) ∷ runs)) (same-itself side)

-- there are no other runs of this kind with the same edits
pub runs-back : (before : Option (Formula ℕ)) (runs : List SideRun) → AreRuns before runs → side_runs (laid_out runs) ≡ runs
runs-back before [] are = refl
runs-back before (run ∷ runs) are = at run.edits are.0 (runs-back (Some run.side) runs are.2)
  where
    at : (es : List Edit) → 0 < length es → side_runs (laid_out runs) ≡ runs → side_runs (under run.side es ++ laid_out runs) ≡ side_run run.side es ∷ runs
    at [] some h = absurd (omega (arith, some))
    at (e ∷ es) some h = run-first run.side e es (laid_out runs) runs h are.2

-- there are no more runs than edits, and none of them has more
pub laid-length : (run : SideRun) (runs : List SideRun) → length (laid_out (run ∷ runs)) ≡ length run.edits + length (laid_out runs)
laid-length run runs = length-append (under run.side run.edits) (laid_out runs) ∙ ap (λ n. n + length (laid_out runs)) (length-map run.edits (sided run.side))

pub few-runs : (before : Option (Formula ℕ)) (runs : List SideRun) → AreRuns before runs → length runs ≤ length (laid_out runs)
few-runs before [] are = omega arith
few-runs before (run ∷ runs) are =
    let own = are.0 in
    let rest = few-runs (Some run.side) runs are.2 in
    let all = laid-length run runs in
    omega (arith, own, rest, all)

few-edits : (n : ℕ) (runs : List SideRun) → length (laid_out runs) < n → AllByRecursion (λ run. length run.edits < n) runs
few-edits n [] h = tt
few-edits n (run ∷ runs) h = let all = laid-length run runs in (omega (arith, h, all), few-edits n runs (omega (arith, h, all)))

pub counts-fit : (ss : List Sided) → length ss < 2 ^ 32 → (length (side_runs ss) < 2 ^ 32) × AllByRecursion FitsCount (side_runs ss)
counts-fit ss h =
    let all = ap length (laid_out-runs ss) in
    let few = few-runs None (side_runs ss) (runs-are ss) in
    (omega (arith, h, all, few), few-edits (2 ^ 32) (side_runs ss) (omega (arith, h, all)))

pub counts-of : (t : Bool) (ss : List Sided) → length ss < 2 ^ 32 → FitsCounts t ss
counts-of true ss h = counts-fit ss h
counts-of false ss h = h

-- edits of which none has a side
pub none-sided : (ss : List Sided) → has_sides ss ≡ false → under True (unsided ss) ≡ ss
none-sided [] h = refl
none-sided (s ∷ ss) h = at (is_same_formula s.side True) refl h (none-sided ss)
  where
    at : (t : Bool) → is_same_formula s.side True ≡ t → (not t || has_sides ss) ≡ false → (has_sides ss ≡ false → under True (unsided ss) ≡ ss)
        → under True (unsided (s ∷ ss)) ≡ s ∷ ss
    at true e k rest = λ i. sided (sym (same-is s.side True e) i) s.edit ∷ rest k i
    at false e k rest = absurd (cc)

pub under-none : (es : List Edit) → has_sides (under True es) ≡ false
under-none [] = refl
under-none (e ∷ es) = under-none es

-- the side of the last of the edits
before-is : (side : Formula ℕ) (ss : List Sided) → fold (λ before s. Some s.side) (Some side) ss ≡ Some (side_after side ss)
before-is side [] = refl
before-is side (s ∷ ss) = before-is s.side ss

pub some-goes_on : (ss : List Sided) (side : Formula ℕ) (t : Bool) → 0 < length ss → (t ≡ true → side_after True ss ≡ side) → (side_after True ss ≡ side → t ≡ true)
    → t ≡ goes_on (side_before ss) side
some-goes_on [] side t h same alike = absurd (omega (arith, h))
some-goes_on (s ∷ ss) side t h same alike = test-is (side_after s.side ss) side t same alike ∙ ap (λ o. goes_on o side) (sym (before-is s.side ss))

under-stays : (side : Formula ℕ) (es : List Edit) → fold (λ before s. Some s.side) (Some side) (under side es) ≡ Some side
under-stays side [] = refl
under-stays side (e ∷ es) = under-stays side es

pub under-before : (ss : List Sided) (side : Formula ℕ) (es : List Edit) → 0 < length es → side_before (ss ++ under side es) ≡ Some side
under-before ss side [] some = absurd (omega (arith, some))
under-before ss side (e ∷ es) some = fold-append (λ before s. Some s.side) None ss (under side (e ∷ es)) ∙ under-stays side es

-- what is known of runs that were written
reach-under : (side : Formula ℕ) (es : List Edit) (ss : List Sided) → reach side ≤ CHOICE_WIDTH → reach_of_sides ss ≤ CHOICE_WIDTH → reach_of_sides (under side es ++ ss) ≤ CHOICE_WIDTH
reach-under side [] ss own rest = rest
reach-under side (e ∷ es) ss own rest = max-le own (reach-under side es ss own rest)

pub reach-written : (runs : List SideRun) → AllByRecursion FitsWritten runs → reach_of_sides (laid_out runs) ≤ CHOICE_WIDTH
reach-written [] h = omega arith
reach-written (run ∷ runs) h = reach-under run.side run.edits (laid_out runs) h.0.0 (reach-written runs h.1)

pub references-written : (runs : List SideRun) → AllByRecursion FitsWritten runs → AllByRecursion FitsReferences (unsided (laid_out runs))
references-written [] h = tt
references-written (run ∷ runs) h =
    subst (AllByRecursion FitsReferences) (sym (unsided-append (under run.side run.edits) (laid_out runs)))
    (all-append FitsReferences (unsided (under run.side run.edits)) (unsided (laid_out runs))
    (subst (AllByRecursion FitsReferences) (sym (under-unsided run.side run.edits)) h.0.1) (references-written runs h.1))

pub none-reach : (ss : List Sided) → has_sides ss ≡ false → reach_of_sides ss ≤ CHOICE_WIDTH
none-reach ss h =
    subst (λ ts. reach_of_sides ts ≤ CHOICE_WIDTH) (append-nil (under True (unsided ss)) ∙ none-sided ss h)
    (reach-under True (unsided ss) [] (omega arith) (omega arith))
