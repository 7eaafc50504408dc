use Rattle.std.proofs.Common.{◌+◌, ap, ◌∙◌}
use Rattle.cov_script.specs.Commits.{ambition_of}
use Rattle.cov_script.specs.declared.plan.Ambition.{Ambition}
use Rattle.cov_script.specs.declared.plan.Plan.{Plan}
use Rattle.cov_script.proofs.Drawing.{four, planned}
use Rattle.cov_script.proofs.plan.Plan.draw.Goals as goal

pub returns-clause-plan : goal.returns-clause-plan
returns-clause-plan c =
    let with_ambition : Ambition → Plan = λ a. record { on = 6 + c.below-on.result; other = 6 + c.below-other.result; ambition = a; file = c.below-file.result } in
    ap with_ambition (c.ambition_of.ensures ∙ ap ambition_of c.kind_of.ensures)
    ∙ planned c.args.draws.now c.below-on.new.self c.below-other.new.self c.below-number.new.self c.below-file.new.self c.below-on.ensures.next c.below-other.ensures.next c.below-number.ensures.next c.below-file.ensures.next c.below-on.result c.below-other.result c.below-number.result c.below-file.result c.below-on.ensures.drawn c.below-other.ensures.drawn c.below-number.ensures.drawn c.below-file.ensures.drawn

pub returns-clause-draws : goal.returns-clause-draws
returns-clause-draws c =
    four c.args.draws.now c.below-on.new.self c.below-other.new.self c.below-number.new.self c.below-file.new.self c.below-on.ensures.next c.below-other.ensures.next c.below-number.ensures.next c.below-file.ensures.next
