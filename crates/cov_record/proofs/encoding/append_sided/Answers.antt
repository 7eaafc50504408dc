use Rattle.std.proofs.Common.{◌≤◌, sym, subst, ◌∙◌}
use Rattle.std.specs.List.{AllByRecursion}
use Rattle.std.proofs.lemmas.Result.{on_ok_weaker}
use Rattle.cov_base.specs.declared.limits.TheConstants.{CHOICE_WIDTH}
use Rattle.cov_edit.specs.Sides.{unsided, reach_of_sides}
use Rattle.cov_record.specs.FitsRecord.{FitsReferences}
use Rattle.cov_record.specs.SideRuns.{side_runs}
use Rattle.cov_record.proofs.Grouping.{counts-of, laid_out-runs, none-reach, reach-written, references-written}
use Rattle.cov_record.proofs.encoding.append_sided.Goals as goal

pub returns-in-true-clause-counts : goal.returns-in-true-clause-counts
returns-in-true-clause-counts c = counts-of c.args.with_sides c.args.edits.now c.requires.few

pub returns-in-false-clause-counts : goal.returns-in-false-clause-counts
returns-in-false-clause-counts c = counts-of c.args.with_sides c.args.edits.now c.requires.few

pub returns-in-true-clause-reach : goal.returns-in-true-clause-reach
returns-in-true-clause-reach c =
    let ss = c.args.edits.now in
    on_ok_weaker c.append_by_runs.result (λ h. subst (λ ts. reach_of_sides ts ≤ CHOICE_WIDTH) (laid_out-runs ss) (reach-written (side_runs ss) h)) c.append_by_runs.ensures.fit

pub returns-in-true-clause-references : goal.returns-in-true-clause-references
returns-in-true-clause-references c =
    let ss = c.args.edits.now in
    on_ok_weaker c.append_by_runs.result (λ h. subst (λ ts. AllByRecursion FitsReferences (unsided ts)) (laid_out-runs ss) (references-written (side_runs ss) h)) c.append_by_runs.ensures.fit

pub returns-in-false-clause-reach : goal.returns-in-false-clause-reach
returns-in-false-clause-reach c = on_ok_weaker c.append_edits.result (λ h. none-reach c.args.edits.now (sym c.requires.sides ∙ c.in-false.is)) c.append_edits.ensures.references
