use Rattle.std.proofs.Common.{ap, ◌∙◌, nat_eq}
use Rattle.std.specs.Option.{is_some}
use Rattle.cov_base.specs.Rows.{Row, row_of}
use Rattle.cov_base.proofs.CallerLemmas.{is_some-find, is_some-map}
use Rattle.cov_tree.specs.Dated.{rows_at}
use Rattle.cov_visible.proofs.reading.has_row.Goals as goal

pub returns : goal.returns
returns c =
    let rows = rows_at c.args.visible.now.table c.args.choice c.args.at c.args.visible.now.entries in
    c.is_some.ensures
    ∙ ap is_some c.kind_at.ensures
    ∙ is_some-map (λ (r : Row). r.kind) (row_of rows c.args.node)
    ∙ is_some-find (λ (r : Row). nat_eq r.node c.args.node) rows
