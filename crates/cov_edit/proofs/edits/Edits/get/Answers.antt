use Rattle.std.proofs.Common.{slice_get, ap, sym, ◌∙◌}
use Rattle.cov_edit.specs.Sides.{unsided}
use Rattle.cov_edit.proofs.Runs.{unsided-from}
use Rattle.cov_edit.proofs.edits.Edits.get.Goals as goal

pub returns : goal.returns
returns c = c.item_at.ensures ∙ ap (λ es. slice_get es c.args.index) (c.as_slice.ensures.value ∙ sym (unsided-from c.self.inside.runs 0 c.self.inside.items.items) ∙ ap unsided c.self.view_is)
