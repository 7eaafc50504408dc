use Rattle.std.proofs.Common.{ap, sym, subst, ◌∙◌}
use Rattle.cov_expr.specs.Formula.{True}
use Rattle.cov_edit.specs.Runs.{side_at, RunsRise, AreBelow, AreDifferent, ends_behind}
use Rattle.cov_edit.proofs.Runs.{cut-unseen, cut-rise, cut-below, cut-differ, stays-below}
use Rattle.cov_edit.proofs.edits.end_run.Goals as goal

pub returns-then-ends_behind-clause-before : goal.returns-then-ends_behind-clause-before
returns-then-ends_behind-clause-before c = λ i less.
    ap (λ runs. side_at runs i) c.pop.ensures
    ∙ cut-unseen c.args.edits i c.args.runs.now less (ap (ends_behind c.args.edits) (sym c.as_slice.ensures) ∙ sym c.ends_behind.ensures ∙ c.if-ends_behind.true)

pub returns-then-ends_behind-clause-rise : goal.returns-then-ends_behind-clause-rise
returns-then-ends_behind-clause-rise c = subst RunsRise (sym c.pop.ensures) (cut-rise c.args.runs.now c.requires.rise)

pub returns-then-ends_behind-clause-below : goal.returns-then-ends_behind-clause-below
returns-then-ends_behind-clause-below c = subst (AreBelow c.args.edits) (sym c.pop.ensures) (cut-below c.args.edits c.args.runs.now c.requires.rise c.requires.below)

pub returns-then-ends_behind-clause-differ : goal.returns-then-ends_behind-clause-differ
returns-then-ends_behind-clause-differ c = subst (AreDifferent True) (sym c.pop.ensures) (cut-differ True c.args.runs.now c.requires.differ)

pub returns-else-ends_behind-clause-below : goal.returns-else-ends_behind-clause-below
returns-else-ends_behind-clause-below c =
    stays-below c.args.edits c.args.runs.now c.requires.rise (ap (ends_behind c.args.edits) (sym c.as_slice.ensures) ∙ sym c.ends_behind.ensures ∙ c.if-ends_behind.false)
