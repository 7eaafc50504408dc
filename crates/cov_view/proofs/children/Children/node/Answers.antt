use Rattle.std.proofs.Common.{subst, ◌∙◌}
use Rattle.cov_view.specs.Keys.{IsIndex}
use Rattle.cov_view.proofs.Directories.{child_found}
use Rattle.cov_view.proofs.children.Children.node.Goals as goal

pub returns-then-self : goal.returns-then-self
returns-then-self c =
    let rows = c.args.rows.now in
    let nodes = c.args.self.now.nodes.entries in
    c.look_up.ensures ∙ child_found rows nodes c.args.dir.now c.args.name.now (subst (λ b. IsIndex b rows nodes) c.if-self.true c.requires)
