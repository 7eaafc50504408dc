use Rattle.std.proofs.Common.{◌∙◌, ap}
use Rattle.std.proofs.lemmas.Result.{IfOk-weaker}
use Rattle.cov_file.specs.Dated.{rows_at}
use Rattle.cov_file.specs.Rooms.{DatedFile}
use Rattle.cov_file.specs.Kept.{dated_lines}
use Rattle.cov_file.proofs.lines.FileLines.lines_at.Goals as goal

pub returns : goal.returns
returns c =
    IfOk-weaker c.visible_rows.result _ _
    (λ rows is.
    is ∙ ap (λ lines. rows_at c.args.table.now c.args.choice c.args.at (dated_lines c.self.inside.texts.entries c.self.inside.changes.lists lines)) c.in_ok-lines.ensures.lines
    ∙ ap (λ (f : DatedFile). rows_at c.args.table.now c.args.choice c.args.at f.lines) c.self.view_is)
    c.visible_rows.ensures
