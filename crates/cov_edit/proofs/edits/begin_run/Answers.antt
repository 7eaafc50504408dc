use Rattle.std.proofs.Common.{◌+◌, ap, sym, subst, ◌∙◌}
use Rattle.cov_expr.specs.Formula.{True}
use Rattle.cov_edit.specs.Runs.{last_side, RunsRise, AreBelow, AreDifferent}
use Rattle.cov_edit.proofs.Runs.{begun-below, begun-differ, begun-rise, side-last}
use Rattle.cov_edit.proofs.edits.begin_run.Goals as goal

pub returns-then-goes_on-clause-own : goal.returns-then-goes_on-clause-own
returns-then-goes_on-clause-own c =
    side-last c.args.first True c.args.runs.now c.requires.below
    ∙ ap (last_side True) (sym c.as_slice.ensures) ∙ c.goes_on.ensures.same c.if-goes_on.true

pub returns-clause-rise : goal.returns-clause-rise
returns-clause-rise c = subst RunsRise (sym c.in_ok-push.ensures.ok) (begun-rise c.args.runs.now _ c.requires.rise c.requires.below)

pub returns-clause-below : goal.returns-clause-below
returns-clause-below c = subst (AreBelow (c.args.first + 1)) (sym c.in_ok-push.ensures.ok) (begun-below c.args.runs.now _ c.requires.below)

pub returns-clause-differ : goal.returns-clause-differ
returns-clause-differ c =
    subst (AreDifferent True) (sym c.in_ok-push.ensures.ok)
    (begun-differ True c.args.runs.now _ c.requires.differ
    (λ same. let on = c.goes_on.ensures.alike (ap (last_side True) c.as_slice.ensures ∙ same) in let off = c.if-goes_on.false in absurd (cc)))
