use Rattle.std.proofs.Common.{◌≡◌, ◌∷◌, ◌++◌, map, sym, ap, subst, ◌∙◌}
use Rattle.cov_base.specs.Rows.{AreDistinct}
use Rattle.cov_tree.specs.Dated.{Dated, newest_entry, newest_nodes, nodes_in}
use Rattle.cov_tree.specs.Standing.{entry_with, made_beside}
use Rattle.cov_tree.proofs.Planned.{planned_distinct}
use Rattle.cov_tree.proofs.PlannedNodes.{planned_is}
use Rattle.cov_tree.proofs.entries.Entries.standing.Goals as goal

pub returns-in_err-list-clause-distinct : goal.returns-in_err-list-clause-distinct
returns-in_err-list-clause-distinct c =
    planned_distinct c.args.plan.now (newest_nodes c.args.self.now) c.as_slice-made.ensures.distinct (subst (λ (d : Dated). AreDistinct (0 ∷ nodes_in d)) c.self.view_is c.self.invariant.0)

pub returns-in_err-add_made-clause-distinct : goal.returns-in_err-add_made-clause-distinct
returns-in_err-add_made-clause-distinct c =
    planned_distinct c.args.plan.now (newest_nodes c.args.self.now) c.as_slice-made.ensures.distinct (subst (λ (d : Dated). AreDistinct (0 ∷ nodes_in d)) c.self.view_is c.self.invariant.0)

pub returns-clause-distinct : goal.returns-clause-distinct
returns-clause-distinct c =
    planned_distinct c.args.plan.now (newest_nodes c.args.self.now) c.as_slice-made.ensures.distinct (subst (λ (d : Dated). AreDistinct (0 ∷ nodes_in d)) c.self.view_is c.self.invariant.0)

pub returns-clause-nodes : goal.returns-clause-nodes
returns-clause-nodes c =
    let plan = c.args.plan.now in
    let distinct = subst (λ (d : Dated). AreDistinct (0 ∷ nodes_in d)) c.self.view_is c.self.invariant.0 in
    let nodes : map newest_entry c.as_slice.result.now ≡ newest_nodes c.args.self.now =
    ap (map newest_entry) c.as_slice.ensures.value ∙ ap newest_nodes c.self.view_is in
    c.in_ok-add_made.ensures
    ∙ (λ j. c.in_ok-list.ensures j ++ made_beside (nodes_in c.args.self.now) (c.as_slice-made.ensures.nodes j))
    ∙ ap (λ es. map (entry_with plan) es ++ made_beside (nodes_in c.args.self.now) plan) nodes
    ∙ sym (planned_is plan (newest_nodes c.args.self.now) c.as_slice-made.ensures.distinct.1 distinct.1)
