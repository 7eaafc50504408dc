use Rattle.std.proofs.Common.{refl, ap, sym, ◌∙◌}
use Rattle.std.proofs.lemmas.Result.{on_ok_weaker}
use Rattle.std.specs.List.{fold}
use Rattle.cov_base.specs.declared.number.NodeRef.TheVariants as nodes
use Rattle.cov_view.specs.Seen.{Seen, with_file_row}
use Rattle.cov_view.proofs.Added.{lines-added}
use Rattle.cov_view.proofs.Changes.{rows-kept}
use Rattle.cov_view.proofs.view.View.share_lines_at.Goals as goal

pub invariant_of-self : goal.invariant_of-self
invariant_of-self c =
    rows-kept c.share_lines_at.result c.self.inside.nodes_made (nodes.Old c.args.file) _ (λ q. refl) c.self.inside.rows c.share_lines_at.new.self c.share_lines_at.ensures.ok c.share_lines_at.ensures.err c.self.invariant

pub returns-clause-rows : goal.returns-clause-rows
returns-clause-rows c =
    on_ok_weaker c.share_lines_at.result
    (λ is. is
    ∙ sym (lines-added c.args.file c.args.lines c.self.inside.rows)
    ∙ ap (λ (v : Seen). fold (with_file_row c.args.file) v.rows c.args.lines) c.self.view_is)
    c.share_lines_at.ensures.ok
