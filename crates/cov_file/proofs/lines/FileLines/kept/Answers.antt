use Rattle.std.proofs.Common.{◌≤◌, ◌∙◌, sym, ap, arith}
use Rattle.std.proofs.lemmas.Bool.Decides.{nat_tests}
use Rattle.cov_file.specs.Dated.{rows_at}
use Rattle.cov_file.specs.Rooms.{DatedFile}
use Rattle.cov_file.specs.Kept.{dated_lines}
use Rattle.cov_file.specs.Sights.{shown_by}
use Rattle.cov_file.proofs.Showing.{are_newest, if_some}
use Rattle.cov_file.proofs.lines.FileLines.kept.Goals as goal

pub returns : goal.returns
returns c =
    let later : c.self.inside.changes.newest ≤ c.args.at = grind (arith, nat_tests, c.lt.ensures, c.if-lt.false, c.latest.ensures.newest) in
    if_some c.find.result _ _
    (λ rows is.
    sym (is (shown_by (dated_lines c.self.inside.texts.entries c.self.inside.changes.lists c.self.inside.order.lines)) c.self.invariant.1)
    ∙ sym (are_newest c.self.inside.texts.entries c.self.inside.changes.lists c.self.inside.changes.newest c.self.inside.order.lines c.latest.ensures.nodes c.args.table.now c.args.choice c.args.at later)
    ∙ ap (λ (f : DatedFile). rows_at c.args.table.now c.args.choice c.args.at f.lines) c.self.view_is)
    c.find.ensures
