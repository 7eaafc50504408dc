use Rattle.std.proofs.Common.{sym, ◌∙◌}
use Rattle.cov_view.specs.References.{same_node}
use Rattle.cov_view.proofs.Keys.{placed_row, no_place}
use Rattle.cov_view.proofs.rows.Rows.get.Goals as goal

pub returns-in-Some : goal.returns-in-Some
returns-in-Some c = c.row.ensures.row ∙ placed_row (λ r. same_node r.node c.args.node.now) c.args.self.now c.in-Some.at (sym c.place.ensures.place ∙ c.in-Some.is)

pub returns-in-None : goal.returns-in-None
returns-in-None c = sym (no_place (λ r. same_node r.node c.args.node.now) c.args.self.now (sym c.place.ensures.place ∙ c.in-None.is))
