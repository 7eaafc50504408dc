use Rattle.std.proofs.Common.{is_some, ap, ◌∙◌}
use Rattle.std.specs.List.{find}
use Rattle.cov_base.proofs.CallerLemmas.{is_some-find, is_some-map}
use Rattle.cov_view.specs.Keys.{is_child}
use Rattle.cov_view.specs.declared.row.ViewRow.{ViewRow}
use Rattle.cov_view.proofs.rows.Rows.has_child.Goals as goal

pub returns : goal.returns
returns c =
    let child = is_child c.args.dir.now c.args.name.now in
    let rows = c.args.self.now in
    c.is_some.ensures ∙ ap is_some c.child_in.ensures
    ∙ is_some-map (λ (r : ViewRow). r.node) (find child rows)
    ∙ is_some-find child rows
