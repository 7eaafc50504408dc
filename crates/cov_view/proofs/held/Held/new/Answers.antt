use Rattle.std.proofs.Common.{◌∙◌, ap}
use Rattle.cov_view.specs.Held.{left}
use Rattle.cov_view.proofs.Left.{all_left}
use Rattle.cov_view.proofs.held.Held.new.Goals as goal

pub returns : goal.returns
returns c = ap (left c.args.rows) c.in_ok-gone.ensures.items ∙ all_left c.args.rows
