use Rattle.std.proofs.Common.{◌≡◌, ◌≤◌, ◌+◌, ◌∙◌, ap, sym, subst, length, take, drop, slice_index_or}
use Rattle.cov_base.specs.Replacing.{having}
use Rattle.cov_rules.specs.Installing.{RulesValue, Standing}
use Rattle.cov_rules.specs.Renumbered.{having_node, nodes_of, without_nodes, HoldRenumbered}
use Rattle.cov_rules.proofs.Renumbering.{hold_renumbered, nodes_renumbered, renumbered, rest_renumbered}
use Rattle.cov_rules.proofs.rules.Rules.renumber.Goals as goal
use Rattle.cov_rules.proofs.rules.Rules.renumber.Goals.{After-renumber_nodes-third}

-- the rules as they were
abbrev before : After-renumber_nodes-third → Standing
before c = record {
  constraints = c.self.inside.constraints.items;
  preferences = c.self.inside.preferences.items;
  defaults = c.self.inside.defaults.items;
  conjunction = c.self.inside.conjunction;
}

before_is : (c : After-renumber_nodes-third) → before c ≡ c.args.self.now.standing
before_is c = ap (λ (v : RulesValue). v.standing) c.self.view_is

enough : (c : After-renumber_nodes-third) → c.args.first + length (nodes_of (before c)) ≤ length c.args.from.now
enough c = subst (λ (s : Standing). c.args.first + length (nodes_of s) ≤ length c.args.from.now) (sym (before_is c)) c.requires

-- the rules as they are then
after_is : (c : After-renumber_nodes-third) →
    ◌≡◌ {A = Standing}
    (record {
      constraints = c.renumber_nodes-second.new.items.items;
      preferences = c.renumber_nodes-third.new.items.items;
      defaults = c.self.inside.defaults.items;
      conjunction = slice_index_or c.as_slice-nodes.result.now c.renumber_nodes-third.result 0;
    })
    (renumbered (before c) c.args.from.now c.args.first c.renumber_nodes-second.result c.renumber_nodes-third.result (enough c) c.renumber_nodes-second.ensures.next c.renumber_nodes-third.ensures.next)
after_is c = λ j. record {
  constraints = (c.renumber_nodes-second.ensures.items ∙ ap (λ l. having having_node c.self.inside.constraints.items (drop c.args.first l)) c.as_slice-nodes.ensures) j;
  preferences = (c.renumber_nodes-third.ensures.items ∙ ap (λ l. having having_node c.self.inside.preferences.items (drop c.renumber_nodes-second.result l)) c.as_slice-nodes.ensures) j;
  defaults = c.self.inside.defaults.items;
  conjunction = slice_index_or (c.as_slice-nodes.ensures j) c.renumber_nodes-third.result 0;
}

pub returns-clause-nodes : goal.returns-clause-nodes
returns-clause-nodes c =
    let b = (goal.at.returns-clause-nodes c).After-renumber_nodes-third in
    ap nodes_of (after_is b)
    ∙ nodes_renumbered (before b) c.args.from.now c.args.first c.renumber_nodes-second.result c.renumber_nodes-third.result (enough b) c.renumber_nodes-second.ensures.next c.renumber_nodes-third.ensures.next
    ∙ ap (λ s. take (length (nodes_of s)) (drop c.args.first c.args.from.now)) (before_is b)

pub returns-clause-same : goal.returns-clause-same
returns-clause-same c =
    let b = (goal.at.returns-clause-same c).After-renumber_nodes-third in
    ap without_nodes (after_is b)
    ∙ rest_renumbered (before b) c.args.from.now c.args.first c.renumber_nodes-second.result c.renumber_nodes-third.result (enough b) c.renumber_nodes-second.ensures.next c.renumber_nodes-third.ensures.next
    ∙ ap without_nodes (before_is b)

pub returns-clause-holds : goal.returns-clause-holds
returns-clause-holds c =
    let b = (goal.at.returns-clause-holds c).After-renumber_nodes-third in
    subst (λ (q : Standing × Standing). HoldRenumbered q.0 q.1) (λ j. (before_is b j, sym (after_is b) j))
    (hold_renumbered (before b) c.args.from.now c.args.first c.renumber_nodes-second.result c.renumber_nodes-third.result (enough b) c.renumber_nodes-second.ensures.next c.renumber_nodes-third.ensures.next)
