-- Edits with their sides in bytes, both ways.
use Rattle.std.proofs.Common.{◌≡◌, ℕ, zero, suc, ◌<◌, ◌^◌, Bool, true, false, not, List, [], ◌∷◌, ◌++◌, length, Option, Some, None, refl, sym, ap, subst, ◌∙◌, arith, append_assoc}
use Rattle.std.specs.List.{list_all, AllByRecursion}
use Rattle.std.specs.Int.{w32, to_be_bytes}
use Rattle.std.proofs.lemmas.Option.{none-some}
use Rattle.std.proofs.lemmas.Bool.{and_from, and_parts}
use Rattle.std.proofs.lemmas.List.{length-map}
use Rattle.std.proofs.lemmas.List.Folds.{list_all-append}
use Rattle.cov_base.proofs.CallerLemmas.{all-append}
use Rattle.cov_expr.specs.Formula.{Formula, True}
use Rattle.cov_edit.specs.EditFits.{fits_edit}
use Rattle.cov_edit.specs.Fits.{fits_expr, fits_with_side}
use Rattle.cov_edit.specs.Sides.{sided, unsided}
use Rattle.cov_edit.proofs.CallerLemmas.{edits-fit, unsided-append, unsided-length}
use Rattle.cov_edit.specs.declared.edit.Edit.{Edit}
use Rattle.cov_edit.specs.declared.sided.Sided.{Sided}
use Rattle.cov_record.specs.FitsRecord.{FitsReferences, FitsEdit, FitsCount, FitsCounts}
use Rattle.cov_record.specs.Payload.{run_of, expression_spelling, edit_spelling, all_edit_spelling, edits_spelling, run_spelling, runs_spelling, sided_spelling}
use Rattle.cov_record.specs.Reading.{behind, given, front_u32, front_edit, front_edits, front_counted, front_expression, edits_counted, edits_under, run_under, front_run, front_runs, laid, if_sided, front_by_runs, front_sided}
use Rattle.cov_record.specs.SideRuns.{SideRun, side_run, under, laid_out, side_runs, has_sides, goes_on, AreRuns}
use Rattle.cov_record.proofs.Fronts.{pair_of, given_some, given_true, behind_some, behind_at}
use Rattle.cov_record.proofs.Bytes.{u32_back, u32_forth}
use Rattle.cov_record.proofs.Forests.{expression_back, expression_forth}
use Rattle.cov_record.proofs.Grouping.{under-unsided, laid_out-runs, runs-are, runs-back, none-sided, under-none}
use Rattle.cov_record.proofs.Parts.{edit_back, edit_forth, each_fits, all_fit, edits_back, edits_forth}
use Rattle.cov_record.proofs.Runs.{many_back, many_forth}

-- a run that has a spelling
abbrev pub FitsRun : SideRun → Type 0
FitsRun run = (fits_expr run.side ≡ true) × (length run.edits < 2 ^ 32) × AllByRecursion FitsEdit run.edits

-- edits of one side fit just where the side does and they do without it
under-fit : (side : Formula ℕ) (es : List Edit) → fits_expr side ≡ true → list_all fits_edit es ≡ true → list_all fits_with_side (under side es) ≡ true
under-fit side [] own h = refl
under-fit side (e ∷ es) own h =
    let parts = and_parts (fits_edit e) (list_all fits_edit es) h in
    and_from (fits_with_side (sided side e)) (list_all fits_with_side (under side es)) (and_from (fits_expr side) (fits_edit e) own parts.0) (under-fit side es own parts.1)

pub side-fits : (side : Formula ℕ) (es : List Edit) → 0 < length es → list_all fits_with_side (under side es) ≡ true → fits_expr side ≡ true
side-fits side [] some h = absurd (omega (arith, some))
side-fits side (e ∷ es) some h =
    let own = and_parts (fits_with_side (sided side e)) (list_all fits_with_side (under side es)) h in
    (and_parts (fits_expr side) (fits_edit e) own.0).0

all-parted : (P : Edit → Type 0) (xs ys : List Edit) → AllByRecursion P (xs ++ ys) → AllByRecursion P xs × AllByRecursion P ys
all-parted P [] ys h = (tt, h)
all-parted P (x ∷ xs) ys h = let rest = all-parted P xs ys h.1 in ((h.0, rest.0), rest.1)

-- a run's edits without their side, before those of others
pub run-unsided : (run : SideRun) (runs : List SideRun) → unsided (laid_out (run ∷ runs)) ≡ run.edits ++ unsided (laid_out runs)
run-unsided run runs = unsided-append (under run.side run.edits) (laid_out runs) ∙ ap (λ es. es ++ unsided (laid_out runs)) (under-unsided run.side run.edits)

-- runs have a spelling where their edits fit, and so do their numbers
runs_fit : (before : Option (Formula ℕ)) (runs : List SideRun) → AreRuns before runs → list_all fits_with_side (laid_out runs) ≡ true → AllByRecursion FitsReferences (unsided (laid_out runs))
    → AllByRecursion FitsCount runs → AllByRecursion FitsRun runs
runs_fit before [] are fits references counts = tt
runs_fit before (run ∷ runs) are fits references counts =
    let own = under run.side run.edits in
    let both = and_parts (list_all fits_with_side own) (list_all fits_with_side (laid_out runs)) (sym (list_all-append fits_with_side own (laid_out runs)) ∙ fits) in
    let named = all-parted FitsReferences run.edits (unsided (laid_out runs)) (subst (AllByRecursion FitsReferences) (run-unsided run runs) references) in
    let spelt = subst (λ es. list_all fits_edit es ≡ true) (under-unsided run.side run.edits) (edits-fit own both.0) in (
      (side-fits run.side run.edits are.0 both.0, counts.0, each_fits run.edits spelt named.0),
      runs_fit (Some run.side) runs are.2 both.1 named.1 counts.1,
    )

runs_all_fit : (runs : List SideRun) → AllByRecursion FitsRun runs
    → (list_all fits_with_side (laid_out runs) ≡ true) × AllByRecursion FitsReferences (unsided (laid_out runs)) × AllByRecursion FitsCount runs
runs_all_fit [] h = (refl, tt, tt)
runs_all_fit (run ∷ runs) h =
    let own = all_fit run.edits h.0.2 in
    let rest = runs_all_fit runs h.1 in (
      list_all-append fits_with_side (under run.side run.edits) (laid_out runs)
          ∙ and_from (list_all fits_with_side (under run.side run.edits)) (list_all fits_with_side (laid_out runs)) (under-fit run.side run.edits h.0.0 own.0) rest.0,
      subst (AllByRecursion FitsReferences) (sym (run-unsided run runs)) (all-append FitsReferences run.edits (unsided (laid_out runs)) own.1 rest.1),
      (h.0.1, rest.2),
    )

-- at least one edit behind their number
counted_back : (es : List Edit) (r : List ℕ) → 0 < length es → length es < 2 ^ 32 → AllByRecursion FitsEdit es → behind (front_u32 (edits_spelling es ++ r)) edits_counted ≡ Some (es, r)
counted_back [] r some few h = absurd (omega (arith, some))
counted_back (e ∷ es) r some few h =
    let all = e ∷ es in
    ap (λ bs. behind (front_u32 bs) edits_counted) (append_assoc (to_be_bytes w32 (length all)) (all_edit_spelling all) r)
    ∙ behind_at (front_u32 (to_be_bytes w32 (length all) ++ (all_edit_spelling all ++ r))) edits_counted (Some (all, r)) (length all) (all_edit_spelling all ++ r)
    (u32_back (length all) (all_edit_spelling all ++ r) few) (many_back front_edit edit_spelling FitsEdit edit_back all r h)

counted_some : (n : ℕ) (bs : List ℕ) (es : List Edit) (r : List ℕ) → edits_counted n bs ≡ Some (es, r) → (0 < n) × (front_edits n bs ≡ Some (es, r))
counted_some zero bs es r h = absurd (none-some (es, r) h)
counted_some (suc n) bs es r h = (omega arith, h)

counted_forth : (bs : List ℕ) (es : List Edit) (r : List ℕ) → behind (front_u32 bs) edits_counted ≡ Some (es, r)
    → (0 < length es) × (length es < 2 ^ 32) × AllByRecursion FitsEdit es × (bs ≡ edits_spelling es ++ r)
counted_forth bs es r h =
    let a = behind_some (front_u32 bs) edits_counted es r h in
    let k = counted_some a.0 a.1 es r a.3 in
    let u = u32_forth bs a.0 a.1 a.2 in
    let w = many_forth front_edit edit_spelling FitsEdit edit_forth a.0 a.1 es r k.1 in (
      subst (λ n. 0 < n) w.0 k.0,
      subst (λ n. n < 2 ^ 32) w.0 u.0,
      w.1,
      u.1 ∙ (λ i. to_be_bytes w32 (w.0 i) ++ w.2 i) ∙ sym (append_assoc (to_be_bytes w32 (length es)) (all_edit_spelling es) r),
    )

-- a run behind edits of another side
run_back : (before : Option (Formula ℕ)) (run : SideRun) (r : List ℕ) → goes_on before run.side ≡ false → 0 < length run.edits → FitsRun run
    → front_run before (run_spelling run ++ r) ≡ Some (run, r)
run_back before run r other some fit =
    let last = edits_spelling run.edits ++ r in
    ap (front_run before) (append_assoc (expression_spelling run.side) (edits_spelling run.edits) r)
    ∙ behind_at (front_expression (expression_spelling run.side ++ last)) (run_under before) (Some (run, r)) run.side last (expression_back run.side last fit.0)
    (behind_at (given (not (goes_on before run.side)) run.side last) edits_under (Some (run, r)) run.side last (given_true (not (goes_on before run.side)) run.side last (ap not other))
    (behind_at (behind (front_u32 last) edits_counted) (λ es r. Some (side_run run.side es, r)) (Some (run, r)) run.edits r (counted_back run.edits r some fit.1 fit.2) refl))

-- what stands at the front of bytes that begin with a run
pub record IsRunAt (before : Option (Formula ℕ)) (bs : List ℕ) (run : SideRun) (r : List ℕ) : Type 0 where
  pub some : 0 < length run.edits
  pub other : goes_on before run.side ≡ false
  pub fit : FitsRun run
  pub bytes : bs ≡ run_spelling run ++ r

not_true : (t : Bool) → not t ≡ true → t ≡ false
not_true true h = absurd (cc)
not_true false h = refl

pub run_forth : (before : Option (Formula ℕ)) (bs : List ℕ) (run : SideRun) (r : List ℕ) → front_run before bs ≡ Some (run, r) → IsRunAt before bs run r
run_forth before bs run r h =
    let a = behind_some (front_expression bs) (run_under before) run r h in
    let b = behind_some (given (not (goes_on before a.0)) a.0 a.1) edits_under run r a.3 in
    let g = given_some (not (goes_on before a.0)) a.0 b.0 a.1 b.1 b.2 in
    let d = behind_some (behind (front_u32 b.1) edits_counted) (λ es r. Some (side_run b.0 es, r)) run r b.3 in
    let e = expression_forth bs a.0 a.1 a.2 in
    let w = counted_forth b.1 d.0 d.1 d.2 in
    let p = pair_of (side_run b.0 d.0) run d.1 r d.3 in
    let at : IsRunAt before bs (side_run b.0 d.0) d.1 = record {
      some = w.0;
      other = subst (λ side. goes_on before side ≡ false) g.1 (not_true (goes_on before a.0) g.0);
      fit = (subst (λ side. fits_expr side ≡ true) g.1 e.0, w.1, w.2);
      bytes =
          e.1 ∙ (λ i. expression_spelling (g.1 i) ++ g.2 i) ∙ ap (λ m. expression_spelling b.0 ++ m) w.3
          ∙ sym (append_assoc (expression_spelling b.0) (edits_spelling d.0) d.1);
    } in
    subst (λ (q : SideRun × List ℕ). IsRunAt before bs q.0 q.1) (λ i. (p.0 i, p.1 i)) at

-- so many runs, each of another side than that before it
runs_back : (before : Option (Formula ℕ)) (runs : List SideRun) (r : List ℕ) → AreRuns before runs → AllByRecursion FitsRun runs
    → front_runs before (length runs) (run_of run_spelling runs ++ r) ≡ Some (runs, r)
runs_back before [] r are fit = refl
runs_back before (run ∷ runs) r are fit =
    let last = run_of run_spelling runs ++ r in
    ap (front_runs before (suc (length runs))) (append_assoc (run_spelling run) (run_of run_spelling runs) r)
    ∙ behind_at (front_run before (run_spelling run ++ last)) (λ run r. behind (front_runs (Some run.side) (length runs) r) (λ runs r. Some (run ∷ runs, r))) (Some (run ∷ runs, r)) run last
    (run_back before run last are.1 are.0 fit.0)
    (behind_at (front_runs (Some run.side) (length runs) last) (λ rs r. Some (run ∷ rs, r)) (Some (run ∷ runs, r)) runs r (runs_back (Some run.side) runs r are.2 fit.1) refl)

record AreRunsAt (before : Option (Formula ℕ)) (n : ℕ) (bs : List ℕ) (runs : List SideRun) (r : List ℕ) : Type 0 where
  pub count : n ≡ length runs
  pub are : AreRuns before runs
  pub fit : AllByRecursion FitsRun runs
  pub bytes : bs ≡ run_of run_spelling runs ++ r

runs_forth : (before : Option (Formula ℕ)) (n : ℕ) (bs : List ℕ) (runs : List SideRun) (r : List ℕ) → front_runs before n bs ≡ Some (runs, r) → AreRunsAt before n bs runs r
runs_forth before zero bs runs r h =
    let p = pair_of [] runs bs r h in
    let at : AreRunsAt before 0 bs [] bs = record { count = refl; are = tt; fit = tt; bytes = refl } in
    subst (λ (q : List SideRun × List ℕ). AreRunsAt before 0 bs q.0 q.1) (λ i. (p.0 i, p.1 i)) at
runs_forth before (suc n) bs runs r h =
    let a = behind_some (front_run before bs) (λ run r. behind (front_runs (Some run.side) n r) (λ runs r. Some (run ∷ runs, r))) runs r h in
    let b = behind_some (front_runs (Some (a.0).side) n a.1) (λ rs r. Some (a.0 ∷ rs, r)) runs r a.3 in
    let p = pair_of (a.0 ∷ b.0) runs b.1 r b.3 in
    let o = run_forth before bs a.0 a.1 a.2 in
    let w = runs_forth (Some (a.0).side) n a.1 b.0 b.1 b.2 in
    let at : AreRunsAt before (suc n) bs (a.0 ∷ b.0) b.1 = record {
      count = ap suc w.count;
      are = (o.some, o.other, w.are);
      fit = (o.fit, w.fit);
      bytes = o.bytes ∙ ap (λ m. run_spelling a.0 ++ m) w.bytes ∙ sym (append_assoc (run_spelling a.0) (run_of run_spelling b.0) b.1);
    } in
    subst (λ (q : List SideRun × List ℕ). AreRunsAt before (suc n) bs q.0 q.1) (λ i. (p.0 i, p.1 i)) at

-- the edits of a commit
pub sided_back : (t : Bool) (ss : List Sided) (r : List ℕ) → has_sides ss ≡ t → FitsCounts t ss → list_all fits_with_side ss ≡ true → AllByRecursion FitsReferences (unsided ss)
    → front_sided t (sided_spelling t ss ++ r) ≡ Some (ss, r)
sided_back true ss r own counts fits references =
    let runs = side_runs ss in
    let last = run_of run_spelling runs ++ r in
    let same = laid_out-runs ss in
    let fit = runs_fit None runs (runs-are ss) (subst (λ ts. list_all fits_with_side ts ≡ true) (sym same) fits) (subst (λ ts. AllByRecursion FitsReferences (unsided ts)) (sym same) references) counts.1 in
    ap front_by_runs (append_assoc (to_be_bytes w32 (length runs)) (run_of run_spelling runs) r)
    ∙ behind_at (front_u32 (to_be_bytes w32 (length runs) ++ last)) (λ n r. if_sided (laid [] (front_runs None n r))) (Some (ss, r)) (length runs) last (u32_back (length runs) last counts.0)
    (ap (λ f. if_sided (laid [] f)) (runs_back None runs r (runs-are ss) fit) ∙ ap (λ ts. given (has_sides ts) ts r) same ∙ given_true (has_sides ss) ss r own)
sided_back false ss r own few fits references =
    behind_at (front_counted (edits_spelling (unsided ss) ++ r)) (λ es r. Some (under True es, r)) (Some (ss, r)) (unsided ss) r
    (edits_back (unsided ss) r (subst (λ n. n < 2 ^ 32) (sym (unsided-length ss)) few) (each_fits (unsided ss) (edits-fit ss fits) references))
    (ap (λ ts. Some (ts, r)) (none-sided ss own))

pub record IsSidedAt (t : Bool) (bs : List ℕ) (ss : List Sided) (r : List ℕ) : Type 0 where
  pub sides : has_sides ss ≡ t
  pub counts : FitsCounts t ss
  pub fits : list_all fits_with_side ss ≡ true
  pub references : AllByRecursion FitsReferences (unsided ss)
  pub bytes : bs ≡ sided_spelling t ss ++ r

pub sided_forth : (t : Bool) (bs : List ℕ) (ss : List Sided) (r : List ℕ) → front_sided t bs ≡ Some (ss, r) → IsSidedAt t bs ss r
sided_forth true bs ss r h =
    let a = behind_some (front_u32 bs) (λ n r. if_sided (laid [] (front_runs None n r))) ss r h in
    let b = behind_some (laid [] (front_runs None a.0 a.1)) (λ ss. given (has_sides ss) ss) ss r a.3 in
    let d = behind_some (front_runs None a.0 a.1) (λ runs r. Some (laid_out runs, r)) b.0 b.1 b.2 in
    let g = given_some (has_sides b.0) b.0 ss b.1 r b.3 in
    let p = pair_of (laid_out d.0) b.0 d.1 b.1 d.3 in
    let u = u32_forth bs a.0 a.1 a.2 in
    let w = runs_forth None a.0 a.1 d.0 d.1 d.2 in
    let back = runs-back None d.0 w.are in
    let fit = runs_all_fit d.0 w.fit in
    let at : IsSidedAt true bs (laid_out d.0) d.1 = record {
      sides = ap has_sides p.0 ∙ g.0;
      counts = subst (λ rs. (length rs < 2 ^ 32) × AllByRecursion FitsCount rs) (sym back) (subst (λ n. n < 2 ^ 32) w.count u.0, fit.2);
      fits = fit.0;
      references = fit.1;
      bytes =
          u.1 ∙ (λ i. to_be_bytes w32 (w.count i) ++ w.bytes i) ∙ sym (append_assoc (to_be_bytes w32 (length d.0)) (run_of run_spelling d.0) d.1)
          ∙ ap (λ rs. runs_spelling rs ++ d.1) (sym back);
    } in
    subst (λ (q : List Sided × List ℕ). IsSidedAt true bs q.0 q.1) (λ i. ((p.0 ∙ g.1) i, (p.1 ∙ g.2) i)) at
sided_forth false bs ss r h =
    let a = behind_some (front_counted bs) (λ es r. Some (under True es, r)) ss r h in
    let p = pair_of (under True a.0) ss a.1 r a.3 in
    let w = edits_forth bs a.0 a.1 a.2 in
    let fit = all_fit a.0 w.1 in
    let back = under-unsided True a.0 in
    let at : IsSidedAt false bs (under True a.0) a.1 = record {
      sides = under-none a.0;
      counts = subst (λ n. n < 2 ^ 32) (sym (length-map a.0 (sided True))) w.0;
      fits = under-fit True a.0 refl fit.0;
      references = subst (AllByRecursion FitsReferences) (sym back) fit.1;
      bytes = w.2 ∙ ap (λ es. edits_spelling es ++ a.1) (sym back);
    } in
    subst (λ (q : List Sided × List ℕ). IsSidedAt false bs q.0 q.1) (λ i. (p.0 i, p.1 i)) at
