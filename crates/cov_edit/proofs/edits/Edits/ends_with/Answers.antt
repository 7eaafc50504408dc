use Rattle.std.proofs.Common.{ap, sym, ◌∙◌}
use Rattle.cov_expr.specs.Formula.{True}
use Rattle.cov_edit.specs.Runs.{last_side}
use Rattle.cov_edit.specs.Sides.{side_after}
use Rattle.cov_edit.proofs.Runs.{after-is}
use Rattle.cov_edit.proofs.edits.Edits.ends_with.Goals as goal

pub returns-clause-same : goal.returns-clause-same
returns-clause-same c = λ h.
    ap (side_after True) (sym c.self.view_is) ∙ after-is c.self.inside.runs c.self.inside.items.items c.self.invariant.below
    ∙ ap (last_side True) (sym c.as_slice.ensures) ∙ c.goes_on.ensures.same h

pub returns-clause-alike : goal.returns-clause-alike
returns-clause-alike c = λ h.
    c.goes_on.ensures.alike
    (ap (last_side True) c.as_slice.ensures ∙ sym (after-is c.self.inside.runs c.self.inside.items.items c.self.invariant.below) ∙ ap (side_after True) c.self.view_is ∙ h)
