use Rattle.std.proofs.Common.{ap, ◌∙◌}
use Rattle.cov_tree.specs.Noted.{noted_at}
use Rattle.cov_tree.proofs.Noting.{begun}
use Rattle.cov_tree.proofs.noted.NotedNodes.note_first.Goals as goal

pub returns-clause-kept : goal.returns-clause-kept
returns-clause-kept c =
    begun c.args.self.now.nodes.entries c.insert.new.self.entries (record { dir = c.args.place.now.parent; name = c.in_ok-from_slice.field-0 }) c.in_ok-nodes.nodes
    (ap (noted_at c.args.self.now.nodes.entries c.args.place.now.parent) (c.in_ok-from_slice.ensures.items ∙ c.as_slice.ensures.bytes) ∙ c.requires.none) c.in_ok-insert.ensures.entries
