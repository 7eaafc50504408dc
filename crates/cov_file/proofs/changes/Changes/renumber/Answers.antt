use Rattle.std.proofs.Common.{◌≡◌, ◌≤◌, ◌+◌, ◌∙◌, ap, sym, subst, map, length, reverse, take, drop, arith}
use Rattle.cov_base.specs.Replacing.{having}
use Rattle.cov_file.specs.Kept.{LineChanges, lists_of}
use Rattle.cov_file.specs.Renumbered.{nodes_of, having_node, renumbered_changes, dates_of}
use Rattle.std.specs.List.{AllZip}
use Rattle.cov_file.specs.Dated.{newest_vis}
use Rattle.cov_file.specs.Replaced.{IsNewestReplaced}
use Rattle.cov_values.specs.Replaced.{AreReplaced}
use Rattle.cov_file.proofs.Replaced.{newest_replaced}
use Rattle.cov_file.proofs.Redating.{changes_same, dates_same, same-having}
use Rattle.cov_file.proofs.Renumbering.{nodes_after, lists_after, all-listed}
use Rattle.cov_file.proofs.changes.Changes.renumber.Goals as goal
use Rattle.cov_file.proofs.changes.Changes.renumber.Goals.{After-renumber_nodes}

newest_are : (c : After-renumber_nodes) → c.renumber_nodes-middle.new.items.items ≡ having having_node c.self.inside.newest.items (drop c.args.first c.args.from.now)
newest_are c = c.renumber_nodes-middle.ensures.items ∙ ap (λ l. having having_node c.self.inside.newest.items (drop c.args.first l)) c.as_slice-nodes.ensures

earlier_are : (c : After-renumber_nodes) → c.renumber_nodes.new.items.items ≡ having having_node c.self.inside.earlier.items (drop c.renumber_nodes-middle.result c.args.from.now)
earlier_are c = c.renumber_nodes.ensures.items ∙ ap (λ l. having having_node c.self.inside.earlier.items (drop c.renumber_nodes-middle.result l)) c.as_slice-nodes.ensures

-- the list has all the nodes
enough : (c : After-renumber_nodes) → c.args.first + length (nodes_of c.self.inside.newest.items c.self.inside.earlier.items) ≤ length c.args.from.now
enough c = omega (arith, c.requires, ap (λ (v : LineChanges). length v.nodes) c.self.view_is)

pub invariant_of-self : goal.invariant_of-self
invariant_of-self c =
    changes_same c.self.inside.newest.items c.renumber_nodes-middle.new.items.items c.self.inside.earlier.items c.renumber_nodes.new.items.items
    (rw (newest_are c) (same-having c.self.inside.newest.items (drop c.args.first c.args.from.now)))
    (rw (earlier_are c) (same-having c.self.inside.earlier.items (drop c.renumber_nodes-middle.result c.args.from.now)))
    c.self.inside.from c.self.invariant

pub returns-clause-nodes : goal.returns-clause-nodes
returns-clause-nodes c =
    (λ j. nodes_of (newest_are c j) (earlier_are c j))
    ∙ nodes_after c.self.inside.newest.items c.self.inside.earlier.items c.args.from.now c.args.first c.renumber_nodes-middle.result (enough c) c.renumber_nodes-middle.ensures.next
    ∙ ap (λ (v : LineChanges). take (length v.nodes) (drop c.args.first c.args.from.now)) c.self.view_is

pub returns-clause-lists : goal.returns-clause-lists
returns-clause-lists c = λ by is.
    (λ j. lists_of (newest_are c j) (earlier_are c j))
    ∙ lists_after c.self.inside.newest.items c.self.inside.earlier.items c.args.from.now c.args.first c.renumber_nodes-middle.result (enough c) c.renumber_nodes-middle.ensures.next by
    ((λ j. nodes_of (sym (newest_are c) j) (sym (earlier_are c) j)) ∙ is ∙ ap (λ (v : LineChanges). map by v.nodes) (sym c.self.view_is))
    ∙ ap (λ (v : LineChanges). map (renumbered_changes by) v.lists) c.self.view_is

pub returns-clause-replaced : goal.returns-clause-replaced
returns-clause-replaced c = λ rs is.
    subst (λ (v : LineChanges). AllZip (IsNewestReplaced rs) v.lists (lists_of c.renumber_nodes-middle.new.items.items c.renumber_nodes.new.items.items)) c.self.view_is
    (subst (λ items. AllZip (IsNewestReplaced rs) (lists_of c.self.inside.newest.items c.self.inside.earlier.items) (lists_of items c.renumber_nodes.new.items.items)) (sym (newest_are c))
    (newest_replaced rs (reverse c.self.inside.earlier.items) (reverse c.renumber_nodes.new.items.items) c.self.inside.newest.items (drop c.args.first c.args.from.now)
    (subst (λ (v : LineChanges). AreReplaced rs (map newest_vis v.lists) (drop c.args.first c.args.from.now)) (sym c.self.view_is) is)))

pub returns-clause-dates : goal.returns-clause-dates
returns-clause-dates c =
    (λ j. map dates_of (lists_of (newest_are c j) (earlier_are c j)))
    ∙ dates_same c.self.inside.newest.items (having having_node c.self.inside.newest.items (drop c.args.first c.args.from.now))
    c.self.inside.earlier.items (having having_node c.self.inside.earlier.items (drop c.renumber_nodes-middle.result c.args.from.now))
    (same-having c.self.inside.newest.items (drop c.args.first c.args.from.now)) (same-having c.self.inside.earlier.items (drop c.renumber_nodes-middle.result c.args.from.now))
    ∙ ap (λ (v : LineChanges). map dates_of v.lists) c.self.view_is

pub returns-clause-all : goal.returns-clause-all
returns-clause-all c = rw (← c.self.view_is) (λ test h. all-listed test c.self.inside.newest.items c.self.inside.earlier.items h)
