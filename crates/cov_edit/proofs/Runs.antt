-- Lists of edits as they are kept.
use Rattle.std.proofs.Common.{◌≡◌, ℕ, zero, suc, ◌+◌, ◌-◌, ◌<◌, ◌≤◌, true, false, cond, ◌&&◌, nat_le, List, [], ◌∷◌, ◌++◌, length, length-append, map, take, slice_get, Some, refl, sym, ap, subst, ◌∙◌, arith}
use Rattle.std.specs.Option.{option_map_or}
use Rattle.std.specs.List.{fold, list_all, AllByRecursion}
use Rattle.std.proofs.lemmas.List.{length-take, take-append-le}
use Rattle.std.proofs.Math.Seq.{take-length}
use Rattle.std.proofs.lemmas.Bool.{and_parts, leb-true}
use Rattle.std.proofs.lemmas.Bool.Decides.{nat_tests}
use Rattle.cov_base.specs.declared.limits.TheConstants.{MOST_PARTS}
use Rattle.cov_expr.specs.Formula.{Formula, True, part_count}
use Rattle.cov_edit.specs.EditFits.{fits_edit}
use Rattle.cov_edit.specs.Runs.{side_with, side_at, last_side, sided_from, sided_by, run_first, RunsRise, AreBelow, AreDifferent, ends_behind}
use Rattle.cov_edit.specs.Sides.{sided, unsided, side_after, fits_sided}
use Rattle.cov_edit.proofs.Sides.{unsided-append}
use Rattle.cov_edit.specs.declared.edit.Edit.{Edit}
use Rattle.cov_edit.specs.declared.edits.Run.{Run}
use Rattle.cov_edit.specs.declared.sided.Sided.{Sided}

-- the edits are those without their sides
pub unsided-from : (runs : List Run) (i : ℕ) (es : List Edit) → unsided (sided_from runs i es) ≡ es
unsided-from runs i [] = refl
unsided-from runs i (e ∷ es) = ap (λ rest. e ∷ rest) (unsided-from runs (i + 1) es)

pub sided-length : (runs : List Run) (i : ℕ) (es : List Edit) → length (sided_from runs i es) ≡ length es
sided-length runs i [] = refl
sided-length runs i (e ∷ es) = ap suc (sided-length runs (i + 1) es)

-- edits have the same sides by other runs that have the same sides up to there
pub sided-alike : (runs others : List Run) (i n : ℕ) (es : List Edit) → i + length es ≡ n → ((k : ℕ) → k < n → side_at others k ≡ side_at runs k) → sided_from others i es ≡ sided_from runs i es
sided-alike runs others i n [] e h = refl
sided-alike runs others i n (d ∷ es) e h =
    λ j. sided (h i (omega (arith, e)) j) d ∷ sided-alike runs others (i + 1) n es (omega (arith, e)) h j

-- an edit more
pub sided-append : (runs : List Run) (i n : ℕ) (es : List Edit) (e : Edit) → i + length es ≡ n → sided_from runs i (es ++ e ∷ []) ≡ sided_from runs i es ++ sided (side_at runs n) e ∷ []
sided-append runs i n [] e h = let same : i ≡ n = omega (arith, h) in ap (λ k. sided (side_at runs k) e ∷ []) same
sided-append runs i n (d ∷ es) e h = ap (λ rest. sided (side_at runs i) d ∷ rest) (sided-append runs (i + 1) n es e (omega (arith, h)))

-- what is kept when an edit is pushed with its side
pub pushed : (runs others : List Run) (es fs : List Edit) (side : Formula ℕ) (e : Edit) (n : ℕ) (all : List Sided) → fs ≡ es ++ e ∷ [] → n ≡ length es
    → ((k : ℕ) → k < n → side_at others k ≡ side_at runs k) → side_at others n ≡ side → sided_by runs es ≡ all
    → sided_by others fs ≡ all ++ sided side e ∷ []
pushed runs others es fs side e n all is count h own was =
    ap (sided_by others) is ∙ sided-append others 0 n es e (omega (arith, count))
    ∙ (λ j. sided-alike runs others 0 n es (omega (arith, count)) h j ++ sided (own j) e ∷ []) ∙ ap (λ ss. ss ++ sided side e ∷ []) was

-- so what fits, with an edit and a side that fit
pub fits-more : (ss : List Sided) (s : Sided) → list_all fits_sided ss ≡ true → fits_sided s ≡ true → list_all fits_sided (ss ++ s ∷ []) ≡ true
fits-more [] s h own = ap (λ b. b && true) own
fits-more (t ∷ ss) s h own = let parts = and_parts (fits_sided t) (list_all fits_sided ss) h in λ i. parts.0 i && fits-more ss s parts.1 own i

-- fitting edits with sides fit without them
pub fits-unsided : (ss : List Sided) → list_all fits_sided ss ≡ true → list_all fits_edit (unsided ss) ≡ true
fits-unsided [] h = refl
fits-unsided (s ∷ ss) h =
    let parts = and_parts (fits_sided s) (list_all fits_sided ss) h in
    let own = and_parts _ (fits_edit s.edit) parts.0 in
    ap (λ b. b && list_all fits_edit (unsided ss)) own.1 ∙ fits-unsided ss parts.1

pub sided-fits : (s : Sided) → part_count s.side ≤ MOST_PARTS → fits_edit s.edit ≡ true → fits_sided s ≡ true
sided-fits s few spelt = let own : nat_le (part_count s.side) MOST_PARTS ≡ true = grind (arith, nat_tests, few) in λ i. own i && spelt i

-- the last edit
get-last : (xs : List Edit) (e : Edit) → slice_get (xs ++ e ∷ []) (length (xs ++ e ∷ []) - 1) ≡ Some e
get-last [] e = refl
get-last (x ∷ xs) e =
    let count = length-append xs (e ∷ []) in
    let later : suc (length (xs ++ e ∷ [])) - 1 ≡ suc (length (xs ++ e ∷ []) - 1) = omega (arith, count) in
    ap (slice_get (x ∷ xs ++ e ∷ [])) later ∙ get-last xs e

pub last-edit : (runs : List Run) (es : List Edit) (first : List Sided) (last : Sided) → sided_by runs es ≡ first ++ last ∷ [] → slice_get es (length es - 1) ≡ Some last.edit
last-edit runs es first last h =
    ap (λ xs. slice_get xs (length xs - 1)) (sym (unsided-from runs 0 es) ∙ ap unsided h ∙ unsided-append first (last ∷ [])) ∙ get-last (unsided first) last.edit

-- the first of the edits have the sides that they had
sided-take : (runs : List Run) (i n : ℕ) (es : List Edit) → sided_from runs i (take n es) ≡ take n (sided_from runs i es)
sided-take runs i zero [] = refl
sided-take runs i zero (e ∷ es) = refl
sided-take runs i (suc n) [] = refl
sided-take runs i (suc n) (e ∷ es) = ap (λ rest. sided (side_at runs i) e ∷ rest) (sided-take runs (i + 1) n es)

fits-take : (n : ℕ) (ss : List Sided) → list_all fits_sided ss ≡ true → list_all fits_sided (take n ss) ≡ true
fits-take zero [] h = refl
fits-take zero (s ∷ ss) h = refl
fits-take (suc n) [] h = refl
fits-take (suc n) (s ∷ ss) h = let parts = and_parts (fits_sided s) (list_all fits_sided ss) h in λ i. parts.0 i && fits-take n ss parts.1 i

first-left : (runs others : List Run) (es fs : List Edit) → fs ≡ take (length es - 1) es → ((k : ℕ) → k < length fs → side_at others k ≡ side_at runs k)
    → sided_by others fs ≡ take (length es - 1) (sided_by runs es)
first-left runs others es fs is h =
    sided-alike runs others 0 (length fs) fs (omega arith) h ∙ ap (sided_by runs) is ∙ sided-take runs 0 (length es - 1) es

-- runs with one more, and without the last
all-more : (P : Run → Type 0) (runs : List Run) (run : Run) → AllByRecursion P runs → P run → AllByRecursion P (runs ++ run ∷ [])
all-more P [] run h own = (own, tt)
all-more P (r ∷ runs) run h own = (h.0, all-more P runs run h.1 own)

below-later : (n m : ℕ) (runs : List Run) → n ≤ m → AreBelow n runs → AreBelow m runs
below-later n m [] le h = tt
below-later n m (r ∷ runs) le h = (let own = h.0 in omega (arith, own, le), below-later n m runs le h.1)

pub below-next : (n : ℕ) (runs : List Run) → AreBelow n runs → AreBelow (n + 1) runs
below-next n runs h = below-later n (n + 1) runs (omega arith) h

pub begun-below : (runs : List Run) (run : Run) → AreBelow run.first runs → AreBelow (run.first + 1) (runs ++ run ∷ [])
begun-below runs run h = all-more (λ r. r.first < run.first + 1) runs run (below-next run.first runs h) (omega arith)

pub begun-rise : (runs : List Run) (run : Run) → RunsRise runs → AreBelow run.first runs → RunsRise (runs ++ run ∷ [])
begun-rise [] run h below = (tt, tt)
begun-rise (r ∷ runs) run h below = (behind runs h.0, begun-rise runs run h.1 below.1)
  where
    behind : (rs : List Run) → AllByRecursion (λ n. r.first < n) (map run_first rs) → AllByRecursion (λ n. r.first < n) (map run_first (rs ++ run ∷ []))
    behind [] k = (below.0, tt)
    behind (s ∷ rs) k = (k.0, behind rs k.1)

-- the edit at a place behind which no run begins has the side of the last of them
side-within : (i : ℕ) (side : Formula ℕ) (runs : List Run) → AreBelow (i + 1) runs → fold (side_with i) side runs ≡ last_side side runs
side-within i side [] below = refl
side-within i side (r ∷ runs) below =
    let own = below.0 in
    let there : nat_le r.first i ≡ true = grind (arith, nat_tests, own) in
    ap (λ b. fold (side_with i) (cond b r.side side) runs) there ∙ side-within i r.side runs below.1

pub side-last : (i : ℕ) (side : Formula ℕ) (runs : List Run) → AreBelow i runs → fold (side_with i) side runs ≡ last_side side runs
side-last i side runs below = side-within i side runs (below-next i runs below)

-- so the last edit has the side of the last run
after-from : (runs : List Run) (i n : ℕ) (side : Formula ℕ) (e : Edit) (es : List Edit) → i + length es ≡ n → side_after side (sided_from runs i (e ∷ es)) ≡ side_at runs n
after-from runs i n side e [] h = let same : i ≡ n = omega (arith, h) in ap (side_at runs) same
after-from runs i n side e (d ∷ es) h = after-from runs (i + 1) n (side_at runs i) d es (omega (arith, h))

pub after-is : (runs : List Run) (es : List Edit) → AreBelow (length es) runs → side_after True (sided_by runs es) ≡ last_side True runs
after-is [] [] below = refl
after-is (r ∷ runs) [] below = let own = below.0 in absurd (omega (arith, own))
after-is runs (e ∷ es) below =
    let more : length (e ∷ es) ≡ length es + 1 = omega arith in
    after-from runs 0 (length es) True e es (omega arith) ∙ side-within (length es) True runs (subst (λ n. AreBelow n runs) more below)

-- what is kept when an edit is pushed with that side
pub pushed-alike : (runs : List Run) (es fs : List Edit) (e : Edit) (all : List Sided) → fs ≡ es ++ e ∷ [] → AreBelow (length es) runs → sided_by runs es ≡ all
    → sided_by runs fs ≡ all ++ sided (side_after True all) e ∷ []
pushed-alike runs es fs e all is below was =
    let own : side_at runs (length es) ≡ side_after True all = side-last (length es) True runs below ∙ sym (after-is runs es below) ∙ ap (side_after True) was in
    ap (sided_by runs) is ∙ sided-append runs 0 (length es) es e (omega arith) ∙ (λ j. was j ++ sided (own j) e ∷ [])

after-few : (side : Formula ℕ) (ss : List Sided) → part_count side ≤ MOST_PARTS → list_all fits_sided ss ≡ true → part_count (side_after side ss) ≤ MOST_PARTS
after-few side [] few h = few
after-few side (s ∷ ss) few h =
    let parts = and_parts (fits_sided s) (list_all fits_sided ss) h in
    let own = and_parts (nat_le (part_count s.side) MOST_PARTS) (fits_edit s.edit) parts.0 in
    after-few s.side ss (leb-true (part_count s.side) MOST_PARTS own.0) parts.1

pub alike-fits : (all : List Sided) (e : Edit) → list_all fits_sided all ≡ true → fits_edit e ≡ true → list_all fits_sided (all ++ sided (side_after True all) e ∷ []) ≡ true
alike-fits all e h own =
    let s = sided (side_after True all) e in
    fits-more all s h (sided-fits s (after-few True all (omega arith) h) own)

pub begun-differ : (side : Formula ℕ) (runs : List Run) (run : Run) → AreDifferent side runs → (last_side side runs ≡ run.side → ⊥) → AreDifferent side (runs ++ run ∷ [])
begun-differ side [] run h other = (other, tt)
begun-differ side (r ∷ runs) run h other = (h.0, begun-differ r.side runs run h.1 other)

-- the last of runs that rise decides how far they go
last-below : (n : ℕ) (r : Run) (runs : List Run) → RunsRise (r ∷ runs) → option_map_or (λ run. nat_le n run.first) (slice_get (r ∷ runs) (length runs)) false ≡ false → AreBelow n (r ∷ runs)
last-below n r [] h low = (let own : r.first < n = grind (arith, nat_tests, low) in own, tt)
last-below n r (s ∷ runs) h low =
    let rest = last-below n s runs h.1 low in
    let next = rest.0 in
    let above = h.0.0 in
    (omega (arith, next, above), rest)

pub stays-below : (n : ℕ) (runs : List Run) → RunsRise runs → ends_behind n runs ≡ false → AreBelow n runs
stays-below n [] h low = tt
stays-below n (r ∷ runs) h low =
    let last : suc (length runs) - 1 ≡ length runs = omega arith in
    last-below n r runs h (ap (λ k. option_map_or (λ run. nat_le n run.first) (slice_get (r ∷ runs) k) false) (sym last) ∙ low)

-- without the last
abbrev cut : List Run → List Run
cut runs = take (length runs - 1) runs

cut-is : (r s : Run) (runs : List Run) → cut (r ∷ s ∷ runs) ≡ r ∷ cut (s ∷ runs)
cut-is r s runs =
    let one : suc (suc (length runs)) - 1 ≡ suc (length runs) = omega arith in
    let next : suc (length runs) - 1 ≡ length runs = omega arith in
    ap (λ k. take k (r ∷ s ∷ runs)) one ∙ ap (λ k. r ∷ take k (s ∷ runs)) (sym next)

all-cut : (P : ℕ → Type 0) (r : Run) (runs : List Run) → AllByRecursion P (map run_first (r ∷ runs)) → AllByRecursion P (map run_first (cut (r ∷ runs)))
all-cut P r [] h = tt
all-cut P r (s ∷ runs) h = subst (λ rs. AllByRecursion P (map run_first rs)) (sym (cut-is r s runs)) (h.0, all-cut P s runs h.1)

pub cut-rise : (runs : List Run) → RunsRise runs → RunsRise (cut runs)
cut-rise [] h = tt
cut-rise (r ∷ []) h = tt
cut-rise (r ∷ s ∷ runs) h = subst RunsRise (sym (cut-is r s runs)) (all-cut (λ n. r.first < n) s runs h.0, cut-rise (s ∷ runs) h.1)

pub cut-below : (n : ℕ) (runs : List Run) → RunsRise runs → AreBelow (n + 1) runs → AreBelow n (cut runs)
cut-below n [] h below = tt
cut-below n (r ∷ []) h below = tt
cut-below n (r ∷ s ∷ runs) h below =
    subst (AreBelow n) (sym (cut-is r s runs)) (let above = h.0.0 in let low = below.1.0 in omega (arith, above, low), cut-below n (s ∷ runs) h.1 below.1)

pub cut-differ : (side : Formula ℕ) (runs : List Run) → AreDifferent side runs → AreDifferent side (cut runs)
cut-differ side [] h = tt
cut-differ side (r ∷ []) h = tt
cut-differ side (r ∷ s ∷ runs) h = subst (AreDifferent side) (sym (cut-is r s runs)) (h.0, cut-differ r.side (s ∷ runs) h.1)

-- a run that begins behind a place isn't missed there
last-unseen : (n i : ℕ) (side : Formula ℕ) (r : Run) (runs : List Run) → i < n → option_map_or (λ run. nat_le n run.first) (slice_get (r ∷ runs) (length runs)) false ≡ true
    → fold (side_with i) side (cut (r ∷ runs)) ≡ fold (side_with i) side (r ∷ runs)
last-unseen n i side r [] less h =
    let later : nat_le r.first i ≡ false = grind (arith, nat_tests, less, h) in
    sym (ap (λ b. cond b r.side side) later)
last-unseen n i side r (s ∷ runs) less h = ap (fold (side_with i) side) (cut-is r s runs) ∙ last-unseen n i (side_with i side r) s runs less h

pub cut-unseen : (n i : ℕ) (runs : List Run) → i < n → ends_behind n runs ≡ true → side_at (cut runs) i ≡ side_at runs i
cut-unseen n i [] less h = refl
cut-unseen n i (r ∷ runs) less h =
    let last : suc (length runs) - 1 ≡ length runs = omega arith in
    last-unseen n i True r runs less (ap (λ k. option_map_or (λ run. nat_le n run.first) (slice_get (r ∷ runs) k) false) (sym last) ∙ h)

pub popped-below : (es fs : List Edit) (runs : List Run) → fs ≡ take (length es - 1) es → AreBelow (length es) runs → AreBelow (length fs + 1) runs
popped-below es fs runs is h =
    let count = ap length is in
    let cut_to = length-take (length es - 1) es in
    below-later (length es) (length fs + 1) runs (omega (arith, count, cut_to)) h

pub popped-fits : (runs others : List Run) (es fs : List Edit) → fs ≡ take (length es - 1) es → ((k : ℕ) → k < length fs → side_at others k ≡ side_at runs k)
    → list_all fits_sided (sided_by runs es) ≡ true → list_all fits_sided (sided_by others fs) ≡ true
popped-fits runs others es fs is h fits = ap (list_all fits_sided) (first-left runs others es fs is h) ∙ fits-take (length es - 1) (sided_by runs es) fits

pub popped : (runs others : List Run) (es fs : List Edit) (first : List Sided) (last : Sided) → fs ≡ take (length es - 1) es → ((k : ℕ) → k < length fs → side_at others k ≡ side_at runs k)
    → sided_by runs es ≡ first ++ last ∷ [] → sided_by others fs ≡ first
popped runs others es fs first last is h all =
    let count = length-append first (last ∷ []) in
    let long = ap length all in
    let same = sided-length runs 0 es in
    let n : length es - 1 ≡ length first = omega (arith, count, long, same) in
    first-left runs others es fs is h ∙ (λ i. take (n i) (all i)) ∙ take-append-le (length first) first (last ∷ []) (omega arith) ∙ take-length first

-- where no edit is, none was popped, and none is left
pub none-kept : (runs : List Run) (es : List Edit) → sided_by runs es ≡ [] → es ≡ []
none-kept runs es h = sym (unsided-from runs 0 es) ∙ ap unsided h

pub none-left : (others : List Run) (es fs : List Edit) → fs ≡ take (length es - 1) es → es ≡ [] → sided_by others fs ≡ []
none-left others es fs is h = ap (sided_by others) (is ∙ ap (λ ds. take (length ds - 1) ds) h)

pub popped-taken : (runs others : List Run) (es fs last : List Edit) (all : List Sided) → es ≡ fs ++ last → sided_by runs es ≡ all → unsided all ≡ unsided (sided_by others fs) ++ last
popped-taken runs others es fs last all is was = ap unsided (sym was) ∙ unsided-from runs 0 es ∙ is ∙ ap (λ ds. ds ++ last) (sym (unsided-from others 0 fs))

pub pushed-below : (es fs : List Edit) (e : Edit) (n : ℕ) (runs : List Run) → fs ≡ es ++ e ∷ [] → n ≡ length es → AreBelow (n + 1) runs → AreBelow (length fs) runs
pushed-below es fs e n runs is count h =
    let all = ap length is in
    let one = length-append es (e ∷ []) in
    below-later (n + 1) (length fs) runs (omega (arith, all, one, count)) h
