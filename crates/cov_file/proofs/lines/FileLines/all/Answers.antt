use Rattle.std.proofs.Common.{◌∙◌, ◌+◌, sym, ap, refl, [], ◌∷◌, ◌++◌, map}
use Rattle.cov_file.specs.Dated.{all_rows}
use Rattle.cov_file.specs.Rooms.{DatedFile}
use Rattle.cov_file.specs.Kept.{row_in}
use Rattle.cov_file.proofs.Shown.{rows_next, rows_end, all_listed}
use Rattle.cov_file.proofs.lines.FileLines.all.Goals as goal

pub loop-line-preserved : goal.loop-line-preserved
loop-line-preserved c = record {
  rows =
      rows_next (map (row_in c.self.inside.texts.entries)) c.in_ok-lines.lines c.loop-line.index (c.loop-line.index + 1) c.in-Some.line
      c.loop-line.rows c.push.new.self _ (row_in c.self.inside.texts.entries c.in-Some.line ∷ [])
      (sym c.get.ensures ∙ c.in-Some.is) refl (λ ys. refl)
      (c.in_ok-push.ensures.ok ∙ ap (λ r. c.loop-line.rows ++ r ∷ []) c.in_ok-copied_row.ensures) c.loop-line.invariant.rows;
  short = c.loop-line.invariant.short;
}

pub returns : goal.returns
returns c =
    rows_end (map (row_in c.self.inside.texts.entries)) c.in_ok-lines.lines c.loop-line.index c.loop-line.rows _
    (sym c.get.ensures ∙ c.in_default.is) refl c.loop-line.invariant.rows
    ∙ ap (map (row_in c.self.inside.texts.entries)) c.in_ok-lines.ensures.lines
    ∙ all_listed c.self.inside.texts.entries c.self.inside.changes.lists c.self.inside.order.lines
    ∙ ap (λ (f : DatedFile). all_rows f.lines) c.self.view_is
