use Rattle.std.proofs.Common.{map, ap, ◌∙◌}
use Rattle.cov_base.specs.Rows.{has_node}
use Rattle.cov_tree.specs.Dated.{Dated, newest_entry, nodes_in}
use Rattle.cov_tree.specs.Entries.{nodes_of}
use Rattle.cov_tree.proofs.PlannedNodes.{is_there}
use Rattle.cov_tree.proofs.entries.Entries.has.Goals as goal

pub returns : goal.returns
returns c =
    c.is_some.ensures
    ∙ is_there c.args.node c.deref.result.now c.place_of.result c.place_of.ensures.place
    ∙ ap (λ es. has_node c.args.node (nodes_of (map newest_entry es))) c.deref.ensures.value
    ∙ ap (λ (d : Dated). has_node c.args.node (nodes_in d)) c.self.view_is
