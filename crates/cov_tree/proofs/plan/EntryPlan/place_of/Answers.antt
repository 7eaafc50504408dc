use Rattle.std.proofs.Common.{ap, nat_eq, position, ◌∙◌}
use Rattle.cov_tree.proofs.Keys.{keyed}
use Rattle.cov_tree.proofs.plan.EntryPlan.place_of.Goals as goal

pub returns-clause-place : goal.returns-clause-place
returns-clause-place c =
    c.get_index_of.ensures.index ∙ ap (position (nat_eq c.args.node)) c.self.invariant.1 ∙ keyed c.args.node c.self.inside.entries.items ∙ ap (position (λ e. nat_eq e.node c.args.node)) c.self.view_is
