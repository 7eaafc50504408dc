use Rattle.std.proofs.Common.{length, ap, sym, subst, ◌∙◌}
use Rattle.cov_edit.specs.Runs.{sided_by, AreBelow}
use Rattle.cov_edit.specs.Sides.{unsided}
use Rattle.cov_edit.proofs.Runs.{unsided-from, sided-length}
use Rattle.cov_edit.proofs.edits.Edits.runs.Goals as goal

pub returns-clause-sides : goal.returns-clause-sides
returns-clause-sides c =
    sym c.self.view_is ∙ ap (λ runs. sided_by runs c.self.inside.items.items) (sym c.as_slice.ensures)
    ∙ ap (sided_by c.as_slice.result.now) (sym (unsided-from c.self.inside.runs 0 c.self.inside.items.items) ∙ ap unsided c.self.view_is)

pub returns-clause-below : goal.returns-clause-below
returns-clause-below c =
    subst (λ n. AreBelow n c.as_slice.result.now) (sym (sided-length c.self.inside.runs 0 c.self.inside.items.items) ∙ ap length c.self.view_is)
    (subst (AreBelow (length c.self.inside.items.items)) (sym c.as_slice.ensures) c.self.invariant.below)
