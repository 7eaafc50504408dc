use Rattle.std.proofs.Common.{ap, ◌∙◌, refl}
use Rattle.cov_base.specs.declared.number.NodeRef.TheVariants as nodes
use Rattle.cov_view.specs.Seen.{Seen, kind_in}
use Rattle.cov_view.proofs.Changes.{not_there, rows-added}
use Rattle.cov_view.proofs.view.View.add_row.Goals as goal

pub push-requires : goal.push-requires
push-requires c = (not_there c.self.inside.rows (nodes.Old c.args.node) (ap (λ (s : Seen). kind_in s.rows (nodes.Old c.args.node)) c.self.view_is ∙ c.requires)).1

pub invariant_of-self : goal.invariant_of-self
invariant_of-self c =
    let fresh = not_there c.self.inside.rows (nodes.Old c.args.node) (ap (λ (s : Seen). kind_in s.rows (nodes.Old c.args.node)) c.self.view_is ∙ c.requires) in
    rows-added c.push.result c.self.inside.nodes_made c.self.inside.rows c.push.new.self _ c.push.ensures.ok c.push.ensures.err c.self.invariant fresh.0 refl fresh.1
