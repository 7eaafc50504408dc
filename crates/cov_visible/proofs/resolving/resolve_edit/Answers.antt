use Rattle.std.proofs.Common.{subst, sym, ◌∙◌, ◌<◌}
use Rattle.cov_dd.specs.Diagrams.{diagram_size}
use Rattle.cov_visible.specs.Nodes.{line_node}
use Rattle.cov_visible.specs.Resolved.{IsResolvedIn}
use Rattle.cov_visible.specs.declared.resolved_edit.ResolvedEdit.TheVariants as resolved
use Rattle.cov_visible.proofs.Resolved.{line-within, newest-within, taken-left}
use Rattle.cov_visible.proofs.resolving.resolve_edit.Goals as goal

pub take-requires-clause-old : goal.take-requires-clause-old
take-requires-clause-old c =
    subst (λ k. k < diagram_size c.args.table.now) (sym (c.line_node-old.ensures c.args.context.now.at (newest-within c.args.table.now c.args.context.now.at c.args.files.now c.requires.nodes)))
    (line-within c.args.table.now c.args.context.now.at c.args.context.now.lines c.args.inserted.now _ _ c.args.files.now c.requires.inserted c.requires.nodes)

pub returns-in_ok-vis-in-Delete-clause-resolved : goal.returns-in_ok-vis-in-Delete-clause-resolved
returns-in_ok-vis-in-Delete-clause-resolved c =
    subst (λ e. IsResolvedIn c.args.inserted.now c.args.context.now c.args.files.now c.take.new.table c.args.on c.args.made.now e
    (resolved.Delete c.node_number-file.result c.line_number-line.result c.in_ok-vis-in-Delete.vis)) (sym c.in-Delete.is) (
      c.in_ok-vis-in-Delete.vis,
      (λ i. resolved.Delete (c.node_number-file.ensures i) (c.line_number-line.ensures i) c.in_ok-vis-in-Delete.vis),
      taken-left c.args.context.now.at c.args.context.now.lines c.args.files.now c.args.inserted.now c.args.on c.args.table.now c.take.new.table c.line_node-old.result _ _ c.in_ok-vis-in-Delete.vis _
          c.take.ensures.extends c.requires.inserted c.requires.nodes c.requires.on
          (c.line_node-old.ensures c.args.context.now.at (newest-within c.args.table.now c.args.context.now.at c.args.files.now c.requires.nodes)
          ∙ (λ i. line_node c.args.context.now.at c.args.files.now c.args.context.now.lines c.args.inserted.now (c.node_number-file.ensures i) (c.line_number-line.ensures i)))
          c.in_ok-vis-in-Delete.ensures.stands,
    )
