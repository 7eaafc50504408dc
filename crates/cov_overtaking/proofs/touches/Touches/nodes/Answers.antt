use Rattle.std.proofs.Common.{map, sym, ap, ◌∙◌}
use Rattle.cov_overtaking.specs.Touches.{touch_node}
use Rattle.cov_overtaking.proofs.Walking.{nodes-are}
use Rattle.cov_overtaking.proofs.touches.Touches.nodes.Goals as goal

pub returns : goal.returns
returns c = sym (nodes-are c.self.inside.nodes.now c.self.inside.within c.self.inside.each.now) ∙ ap (map touch_node) c.self.view_is
