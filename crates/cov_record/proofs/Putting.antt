-- Edits and runs put behind others, as loops take them.
use Rattle.std.proofs.Common.{◌≡◌, ℕ, suc, List, [], ◌∷◌, ◌++◌, Option, Some, None, refl, sym, ap, subst, ◌∙◌, append_assoc}
use Rattle.std.specs.Prelude.{Err}
use Rattle.std.proofs.lemmas.Option.{none-some}
use Rattle.std.proofs.lemmas.List.Sums.{fold-append}
use Rattle.cov_base.specs.declared.error.MemoryOr.{MemoryOr}
use Rattle.cov_base.specs.declared.error.MemoryOr.TheVariants.{Memory, Refused}
use Rattle.cov_expr.specs.Formula.{Formula, True}
use Rattle.cov_edit.specs.Sides.{sided, side_after}
use Rattle.cov_edit.specs.declared.edit.Edit.{Edit}
use Rattle.cov_edit.specs.declared.sided.Sided.{Sided}
use Rattle.cov_record.specs.declared.fault.NotARecord.{NotARecord}
use Rattle.cov_record.specs.Reading.{Front, behind, front_edit, front_edits, run_with, front_run, front_runs, laid, alike, with_edit, with_run, Gives, EndsReading, Puts}
use Rattle.cov_record.specs.SideRuns.{SideRun, side_run, under, laid_out, side_before}
use Rattle.cov_record.proofs.Fronts.{pair_of}
use Rattle.cov_record.proofs.Grouping.{under-before}
use Rattle.cov_record.proofs.Sides.{run_forth}

-- the side of an edit that was put behind others
after-one : (ss ts : List Sided) (side : Formula ℕ) (e : Edit) → ts ≡ ss ++ sided side e ∷ [] → side_after True ts ≡ side
after-one ss ts side e is = ap (side_after True) is ∙ fold-append (λ before s. s.side) True ss (sided side e ∷ [])

-- edits read with the side of those before them, with one more
module _ (ss ts : List Sided) (e : Edit) (is : ts ≡ with_edit ss e) where
  same_side : side_after True ts ≡ side_after True ss
  same_side = after-one ss ts (side_after True ss) e is

  first_alike : (f : Front (List Edit)) → alike ss (behind f (λ es r. Some (e ∷ es, r))) ≡ alike ts f
  first_alike None = refl
  first_alike (Some p) =
      ap (λ l. Some (l, p.1)) (sym (append_assoc ss (sided (side_after True ss) e ∷ []) (under (side_after True ss) p.0)) ∙ (λ i. sym is i ++ under (sym same_side i) p.0))

  pub alike_more : (k m : ℕ) (bytes r : List ℕ) → k ≡ suc m → front_edit bytes ≡ Some (e, r) → alike ss (front_edits k bytes) ≡ alike ts (front_edits m r)
  alike_more k m bytes r count h =
      ap (λ j. alike ss (front_edits j bytes)) count
      ∙ ap (λ f. alike ss (behind f (λ e r. behind (front_edits m r) (λ es r. Some (e ∷ es, r))))) h
      ∙ first_alike (front_edits m r)

-- the edits of runs read behind others, with those of one more
module _ (ss ts : List Sided) (run : SideRun) (is : ts ≡ with_run ss run) where
  first_laid : (f : Front (List SideRun)) → laid ss (behind f (λ runs r. Some (run ∷ runs, r))) ≡ laid ts f
  first_laid None = refl
  first_laid (Some p) = ap (λ l. Some (l, p.1)) (sym (append_assoc ss (under run.side run.edits) (laid_out p.0)) ∙ ap (λ l. l ++ laid_out p.0) (sym is))

  pub laid_more : (k m : ℕ) (bytes r : List ℕ) → k ≡ suc m → front_run (side_before ss) bytes ≡ Some (run, r)
      → laid ss (front_runs (side_before ss) k bytes) ≡ laid ts (front_runs (side_before ts) m r)
  laid_more k m bytes r count h =
      let one = run_forth (side_before ss) bytes run r h in
      let next : side_before ts ≡ Some run.side = ap side_before is ∙ under-before ss run.side run.edits one.some in
      ap (λ j. laid ss (front_runs (side_before ss) j bytes)) count
      ∙ ap (λ f. laid ss (behind f (λ run r. behind (front_runs (Some run.side) m r) (λ runs r. Some (run ∷ runs, r))))) h
      ∙ first_laid (front_runs (Some run.side) m r)
      ∙ ap (λ before. laid ts (front_runs before m r)) (sym next)

-- the first edit of a run, put with its side, and the others behind it
module _ (ss ts us : List Sided) (side : Formula ℕ) (e : Edit) (k m : ℕ) (bytes mid : List ℕ) (count : k ≡ suc m) (first : front_edit bytes ≡ Some (e, mid)) (is : ts ≡ ss ++ sided side e ∷ []) where
  own_side : side_after True ts ≡ side
  own_side = after-one ss ts side e is

  first_run : run_with side (front_edits k bytes) ≡ run_with side (behind (front_edits m mid) (λ es r. Some (e ∷ es, r)))
  first_run =
      ap (λ j. run_with side (front_edits j bytes)) count
      ∙ ap (λ f. run_with side (behind f (λ e r. behind (front_edits m r) (λ es r. Some (e ∷ es, r))))) first

  others : (f : Front (List Edit)) (o : Option (MemoryOr NotARecord)) (rest : List ℕ) → EndsReading (alike ts f) us o rest
      → Puts with_run (run_with side (behind f (λ es r. Some (e ∷ es, r)))) ss us o rest
  others None None rest h = absurd (none-some (us, rest) h)
  others (Some p) None rest h =
      let q = pair_of (ts ++ under (side_after True ts) p.0) us p.1 rest h in (
        side_run side (e ∷ p.0),
        ap (λ r. Some (side_run side (e ∷ p.0), r)) q.1,
        sym q.0 ∙ (λ i. is i ++ under (own_side i) p.0) ∙ append_assoc ss (sided side e ∷ []) (under side p.0),
      )
  others None (Some (Refused x)) rest h = refl
  others (Some p) (Some (Refused x)) rest h = absurd (none-some _ (sym h))
  others f (Some Memory) rest h = tt

  pub fills_under : (o : Option (MemoryOr NotARecord)) (rest : List ℕ) → EndsReading (alike ts (front_edits m mid)) us o rest → Puts with_run (run_with side (front_edits k bytes)) ss us o rest
  fills_under o rest h = subst (λ f. Puts with_run f ss us o rest) (sym first_run) (others (front_edits m mid) o rest h)

-- where the first edit of a run can't be read, neither can the run
pub no_first : (side : Formula ℕ) (k m : ℕ) (ss : List Sided) (bytes : List ℕ) → k ≡ suc m → (f : MemoryOr NotARecord) (mid rest : List ℕ) → Gives {X = Edit} (front_edit bytes) (Err f) mid
    → Puts with_run (run_with side (front_edits k bytes)) ss ss (Some f) rest
no_first side k m ss bytes count (Refused e) mid rest h =
    ap (λ j. run_with side (front_edits j bytes)) count ∙ ap (λ f. run_with side (behind f (λ e r. behind (front_edits m r) (λ es r. Some (e ∷ es, r))))) h
no_first side k m ss bytes count Memory mid rest h = tt
