use Rattle.std.proofs.Common.{max, ap, ◌∙◌}
use Rattle.cov_expr.specs.Formula.{reach}
use Rattle.cov_engine.proofs.Siding.{sides-reach}
use Rattle.cov_engine.proofs.refusing.reach_within.Goals as goal

pub returns : goal.returns
returns c =
    let own = c.reach.ensures.reach ∙ ap reach c.part.ensures.part in
    let sides = c.reach_of_runs.ensures.reach ∙ sides-reach c.runs.result.now c.args.edits.now c.runs.ensures.sides c.runs.ensures.rise c.runs.ensures.below in
    c.max.ensures ∙ (λ i. max (own i) (sides i))
