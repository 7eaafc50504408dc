use Rattle.std.proofs.Common.{◌∙◌, ap}
use Rattle.cov_file.specs.Forward.{is_shown_by}
use Rattle.cov_file.proofs.sights.is_true.Goals as goal

pub returns-in-Some : goal.returns-in-Some
returns-in-Some c = λ is f agrees. ap (is_shown_by f) c.in-Some.is ∙ c.is_true.ensures is f agrees
