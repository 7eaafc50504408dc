use Rattle.std.proofs.Common.{◌++◌, refl, ap, sym, ◌∙◌}
use Rattle.std.proofs.lemmas.Result.{on_ok_weaker}
use Rattle.std.specs.List.{fold}
use Rattle.cov_base.specs.declared.number.NodeRef.TheVariants as nodes
use Rattle.cov_view.specs.Seen.{Seen, at_row, with_lines_by, with_file_row}
use Rattle.cov_view.proofs.Added.{lines-added}
use Rattle.cov_view.proofs.Changes.{rows-kept}
use Rattle.cov_view.proofs.view.View.add_lines.Goals as goal

pub invariant_of-self : goal.invariant_of-self
invariant_of-self c =
    rows-kept c.append_lines.result c.self.inside.nodes_made (nodes.Old c.args.file) _ (λ q. refl) c.self.inside.rows c.append_lines.new.self c.append_lines.ensures.ok c.append_lines.ensures.err c.self.invariant

pub returns-clause-rows : goal.returns-clause-rows
returns-clause-rows c =
    on_ok_weaker c.append_lines.result
    (λ is. is
    ∙ ap (λ ls. at_row (nodes.Old c.args.file) (with_lines_by (λ m. m ++ ls)) c.self.inside.rows) c.in_ok-added.ensures
    ∙ sym (lines-added c.args.file c.args.lines.now c.self.inside.rows)
    ∙ ap (λ (v : Seen). fold (with_file_row c.args.file) v.rows c.args.lines.now) c.self.view_is)
    c.append_lines.ensures.ok
