use Rattle.std.proofs.Common.{◌∙◌}
use Rattle.std.proofs.lemmas.Result.{IfOk-weaker}
use Rattle.cov_tree.proofs.Shown.{rows_there}
use Rattle.cov_tree.proofs.entries.Entries.rows_at.Goals as goal

pub returns : goal.returns
returns c =
    IfOk-weaker c.rows_on.result _ _
    (λ rows is. is ∙ rows_there c.args.table.now c.args.choice c.args.at c.as_slice.result.now _ c.args.self.now c.as_slice.ensures.value c.self.view_is c.self.invariant.1)
    c.rows_on.ensures
