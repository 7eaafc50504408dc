use Rattle.std.proofs.Common.{length, ap, sym, ◌∙◌}
use Rattle.cov_edit.proofs.Runs.{sided-length}
use Rattle.cov_edit.proofs.edits.Edits.len.Goals as goal

pub returns : goal.returns
returns c = ap length c.as_slice.ensures.value ∙ sym (sided-length c.self.inside.runs 0 c.self.inside.items.items) ∙ ap length c.self.view_is
