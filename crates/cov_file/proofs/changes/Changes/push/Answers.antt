use Rattle.std.proofs.Common.{◌∙◌, ◌∷◌, ◌++◌, [], ℕ, List, ap, refl, subst, sym}
use Rattle.cov_file.specs.declared.changes.Change.{Change}
use Rattle.cov_file.specs.Kept.{LineChanges, lists_of}
use Rattle.cov_file.specs.Renumbered.{nodes_of, AddsNode}
use Rattle.cov_file.proofs.Added.{pushed_node}
use Rattle.cov_file.proofs.Chains.{pushed}
use Rattle.cov_file.proofs.changes.Changes.push.Goals as goal

pub returns-clause-lists : goal.returns-clause-lists
returns-clause-lists c =
    ap (λ items. lists_of items c.self.inside.earlier.items) c.push_reserved.ensures.items
    ∙ pushed c.self.inside.newest.items c.self.inside.earlier.items (record { node = c.args.node; from = c.args.at; before = 0 }) refl
    ∙ ap (λ ls. ls ++ ((c.args.at, c.args.node) ∷ []) ∷ []) (ap (λ (l : LineChanges). l.lists) c.self.view_is ∙ c.begin.ensures.lists)

pub returns-clause-nodes : goal.returns-clause-nodes
returns-clause-nodes c =
    subst (λ (q : List ℕ × List Change). AddsNode c.args.node q.0 (nodes_of q.1 c.self.inside.earlier.items))
    (λ j. ((ap (λ (l : LineChanges). l.nodes) c.self.view_is ∙ c.begin.ensures.nodes) j, sym c.push_reserved.ensures.items j))
    (pushed_node c.self.inside.newest.items c.self.inside.earlier.items (record { node = c.args.node; from = c.args.at; before = 0 }))
