use Rattle.std.proofs.Common.{◌∙◌}
use Rattle.cov_values.proofs.values.Values.put.Goals as goal

pub returns-in-Some-clause-value : goal.returns-in-Some-clause-value
returns-in-Some-clause-value c = λ is f agrees. c.in-Some.ensures.known f agrees ∙ c.is_same.ensures is
