use Rattle.cov_overtaking.proofs.Walking.{everywhere-is}
use Rattle.cov_overtaking.proofs.touches.Touches.everywhere.Goals as goal

pub returns-in-empty : goal.returns-in-empty
returns-in-empty c = everywhere-is c.self.inside.nodes.now c.self.inside.within c.self.inside.each.now c.args.self.now c.in-empty.len_below c.self.view_is
