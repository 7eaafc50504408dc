use Rattle.cov_rules.proofs.Leaving.{any_left}
use Rattle.cov_rules.proofs.lefts.Left.is_any.Goals as goal

pub returns : goal.returns
returns c = any_left c.args.table.now c.args.self.now c.requires c.is_false.result c.is_false.ensures
