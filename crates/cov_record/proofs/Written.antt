-- The runs of one side as they are written.
use Rattle.std.proofs.Common.{◌≡◌, ℕ, suc, ◌+◌, ◌-◌, ◌<◌, ◌^◌, true, List, [], ◌∷◌, ◌++◌, length, take, drop, refl, sym, ap, subst, ◌∙◌, arith, append_assoc, length-drop, take-append-drop}
use Rattle.std.specs.List.{list_all, AllByRecursion}
use Rattle.std.specs.Int.{w32, to_be_bytes}
use Rattle.std.proofs.lemmas.Bool.{and_parts}
use Rattle.std.proofs.lemmas.List.{length-append}
use Rattle.std.proofs.lemmas.List.Folds.{list_all-append}
use Rattle.cov_base.proofs.CallerLemmas.{all-append}
use Rattle.cov_expr.specs.Formula.{Formula, True}
use Rattle.cov_edit.specs.EditFits.{fits_edit}
use Rattle.cov_edit.specs.Runs.{sided_by, RunsRise, AreBelow, AreDifferent}
use Rattle.cov_edit.specs.Sides.{unsided}
use Rattle.cov_edit.proofs.CallerLemmas.{unsided-length}
use Rattle.cov_edit.specs.declared.edit.Edit.{Edit}
use Rattle.cov_edit.specs.declared.edits.Run.{Run}
use Rattle.cov_edit.specs.declared.sided.Sided.{Sided}
use Rattle.cov_record.specs.FitsRecord.{FitsWritten}
use Rattle.cov_record.specs.KeptRuns.{count_before, own_count, kept_runs, true_run, all_runs, AreWithin}
use Rattle.cov_record.specs.Payload.{run_of, run_spelling, runs_spelling}
use Rattle.cov_record.specs.SideRuns.{SideRun, side_run, side_runs}
use Rattle.cov_record.proofs.Grouping.{counts-fit}
use Rattle.cov_record.proofs.Kept.{kept-are, within-rest}

-- edits that fit do so up to a place and from it on
pub fits-parted : (n : ℕ) (es : List Edit) → list_all fits_edit es ≡ true → (list_all fits_edit (take n es) ≡ true) × (list_all fits_edit (drop n es) ≡ true)
fits-parted n es h =
    and_parts (list_all fits_edit (take n es)) (list_all fits_edit (drop n es))
    (sym (list_all-append fits_edit (take n es) (drop n es)) ∙ ap (list_all fits_edit) (take-append-drop n es) ∙ h)

-- runs are counted and spelt one behind another
kept-count : (runs : List Run) (es : List Edit) → length (kept_runs runs es) ≡ length runs
kept-count [] es = refl
kept-count (run ∷ runs) es = ap suc (kept-count runs (drop (own_count run runs (length es)) es))

runs-append : (xs ys : List SideRun) → run_of run_spelling (xs ++ ys) ≡ run_of run_spelling xs ++ run_of run_spelling ys
runs-append [] ys = refl
runs-append (x ∷ xs) ys = ap (λ l. run_spelling x ++ l) (runs-append xs ys) ∙ sym (append_assoc (run_spelling x) (run_of run_spelling xs) (run_of run_spelling ys))

-- what is known of kept runs with the edits on which they stand
module _ (ss : List Sided) (runs : List Run) (es : List Edit) (sides : ss ≡ sided_by runs (unsided ss)) (edits : es ≡ unsided ss) (rise : RunsRise runs) (below : AreBelow (length ss) runs)
    (differ : AreDifferent True runs) where
  pub all-below : AreBelow (length es) runs
  all-below = subst (λ n. AreBelow n runs) (sym (unsided-length ss) ∙ ap length (sym edits)) below

  pub all-are : all_runs runs es ≡ side_runs ss
  all-are = kept-are runs es rise all-below differ ∙ ap (λ es. side_runs (sided_by runs es)) edits ∙ ap side_runs (sym sides)

  all-count : length (true_run (take (count_before runs (length es)) es)) + length runs ≡ length (side_runs ss)
  all-count =
      let all = length-append (true_run (take (count_before runs (length es)) es)) (kept_runs runs (drop (count_before runs (length es)) es)) in
      let kept = kept-count runs (drop (count_before runs (length es)) es) in
      let same = ap length all-are in
      omega (arith, all, kept, same)

  pub all-few : length ss < 2 ^ 32 → length (true_run (take (count_before runs (length es)) es)) + length runs < 2 ^ 32
  all-few few = let count = all-count in let most = (counts-fit ss few).0 in omega (arith, count, most)

  pub all-written : (text : List ℕ) (n : ℕ) → n ≡ length (true_run (take (count_before runs (length es)) es)) + length runs
      → ((text ++ to_be_bytes w32 n) ++ run_of run_spelling (true_run (take (count_before runs (length es)) es))) ++ run_of run_spelling (kept_runs runs (drop (count_before runs (length es)) es))
      ≡ text ++ runs_spelling (side_runs ss)
  all-written text n count =
      let front = true_run (take (count_before runs (length es)) es) in
      let kept = kept_runs runs (drop (count_before runs (length es)) es) in
      append_assoc (text ++ to_be_bytes w32 n) (run_of run_spelling front) (run_of run_spelling kept)
      ∙ ap (λ l. (text ++ to_be_bytes w32 n) ++ l) (sym (runs-append front kept))
      ∙ append_assoc text (to_be_bytes w32 n) (run_of run_spelling (front ++ kept))
      ∙ (λ i. text ++ (to_be_bytes w32 ((count ∙ all-count) i) ++ run_of run_spelling (all-are i)))

  pub all-fit : AllByRecursion FitsWritten (true_run (take (count_before runs (length es)) es)) → AllByRecursion FitsWritten (kept_runs runs (drop (count_before runs (length es)) es))
      → AllByRecursion FitsWritten (side_runs ss)
  all-fit front kept =
      subst (AllByRecursion FitsWritten) all-are
      (all-append FitsWritten (true_run (take (count_before runs (length es)) es)) (kept_runs runs (drop (count_before runs (length es)) es)) front kept)

-- a kept run before others, which stand on the edits behind its own
module _ (ahead : List Run) (run : Run) (rest : List Run) (left own behind : List Edit) (is : ahead ≡ run ∷ rest) (n : ℕ) (count : n ≡ own_count run rest (length left)) (front : own ≡ take n left)
    (back : behind ≡ drop n left) where
  kept-is : kept_runs ahead left ≡ side_run run.side own ∷ kept_runs rest behind
  kept-is =
      ap (λ rs. kept_runs rs left) is ∙ (λ i. side_run run.side (take (sym count i) left) ∷ kept_runs rest (drop (sym count i) left))
      ∙ (λ i. side_run run.side (sym front i) ∷ kept_runs rest (sym back i))

  pub kept-whole : (text new : List ℕ) (side : Formula ℕ) → side ≡ run.side → new ≡ text ++ run_spelling (side_run side own)
      → new ++ run_of run_spelling (kept_runs rest behind) ≡ text ++ run_of run_spelling (kept_runs ahead left)
  kept-whole text new side same e =
      let others = run_of run_spelling (kept_runs rest behind) in
      ap (λ l. l ++ others) e ∙ append_assoc text (run_spelling (side_run side own)) others
      ∙ ap (λ s. text ++ (run_spelling (side_run s own) ++ others)) same ∙ ap (λ rs. text ++ run_of run_spelling rs) (sym kept-is)

  pub kept-fit : (side : Formula ℕ) → side ≡ run.side → FitsWritten (side_run side own) → AllByRecursion FitsWritten (kept_runs rest behind) → AllByRecursion FitsWritten (kept_runs ahead left)
  kept-fit side same h others = subst (AllByRecursion FitsWritten) (sym kept-is) (subst (λ s. FitsWritten (side_run s own)) same h, others)

  pub kept-rise : RunsRise ahead → RunsRise rest
  kept-rise rise = let all : RunsRise (run ∷ rest) = subst RunsRise is rise in all.1

  pub kept-within : RunsRise ahead → AreWithin ahead (length left) → AreWithin rest (length behind)
  kept-within rise within =
      within-rest run rest (length left) (length behind) (subst RunsRise is rise) (subst (λ rs. AreWithin rs (length left)) is within)
      (ap length back ∙ length-drop n left ∙ ap (λ m. length left - m) count)

  pub kept-fits : list_all fits_edit left ≡ true → list_all fits_edit behind ≡ true
  kept-fits h = ap (list_all fits_edit) back ∙ (fits-parted n left h).1

  pub kept-few : length left < 2 ^ 32 → length behind < 2 ^ 32
  kept-few h = let long = ap length back in let cut = length-drop n left in omega (arith, h, long, cut)
