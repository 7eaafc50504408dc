use Rattle.std.proofs.Common.{◌≤◌, ◌∙◌, sym, ap, arith}
use Rattle.cov_file.specs.Dated.{rows_at}
use Rattle.cov_file.specs.Rooms.{DatedFile}
use Rattle.cov_file.specs.Sights.{rows_by}
use Rattle.cov_file.proofs.Showing.{are_newest, by_newest_values}
use Rattle.cov_file.proofs.lines.FileLines.seen.Goals as goal

pub returns : goal.returns
returns c = λ f agrees.
    let later : c.self.inside.changes.newest ≤ c.latest.result = omega (arith, c.latest.ensures.newest) in
    ap (λ (d : DatedFile). rows_by f d.lines) (sym c.self.view_is)
    ∙ by_newest_values c.args.table.now c.args.choice c.self.inside.texts.entries c.self.inside.changes.lists c.self.inside.order.lines c.in_ok-values.values c.in_ok-values.ensures f agrees
    ∙ sym (are_newest c.self.inside.texts.entries c.self.inside.changes.lists c.self.inside.changes.newest c.self.inside.order.lines c.latest.ensures.nodes c.args.table.now c.args.choice c.latest.result later)
    ∙ ap (λ (d : DatedFile). rows_at c.args.table.now c.args.choice c.latest.result d.lines) c.self.view_is
    ∙ sym c.in_ok-rows.ensures ∙ sym c.in_ok-new.ensures
