use Rattle.std.proofs.Common.{◌≡◌, true, ap, subst, sym, ◌∙◌}
use Rattle.std.specs.List.{list_all}
use Rattle.cov_edit.specs.EditFits.{fits_edit}
use Rattle.cov_edit.specs.Runs.{sided_by}
use Rattle.cov_edit.specs.Sides.{unsided}
use Rattle.cov_edit.proofs.Runs.{unsided-from, fits-unsided}
use Rattle.cov_edit.proofs.edits.Edits.as_slice.Goals as goal

pub returns-clause-items : goal.returns-clause-items
returns-clause-items c = c.as_slice.ensures.value ∙ sym (unsided-from c.self.inside.runs 0 c.self.inside.items.items) ∙ ap unsided c.self.view_is

pub returns-clause-fits : goal.returns-clause-fits
returns-clause-fits c =
    subst (λ ss. list_all fits_edit (unsided ss) ≡ true) c.self.view_is (fits-unsided (sided_by c.self.inside.runs c.self.inside.items.items) c.self.invariant.fits)
