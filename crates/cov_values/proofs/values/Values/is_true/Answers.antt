use Rattle.std.proofs.Common.{◌∙◌}
use Rattle.cov_values.proofs.values.Values.is_true.Goals as goal

pub returns-in-Some : goal.returns-in-Some
returns-in-Some c = λ is f agrees. c.in-Some.ensures.known f agrees ∙ is
