use Rattle.std.proofs.Common.{◌-◌, length, slice_get, ap, ◌∙◌}
use Rattle.cov_edit.proofs.Runs.{last-edit}
use Rattle.cov_edit.proofs.edits.Edits.last.Goals as goal

pub returns-clause-last : goal.returns-clause-last
returns-clause-last c = λ first last is.
    c.last.ensures.value ∙ ap (λ es. slice_get es (length es - 1)) c.deref.ensures.value
    ∙ last-edit c.self.inside.runs c.self.inside.items.items first last (c.self.view_is ∙ is)
