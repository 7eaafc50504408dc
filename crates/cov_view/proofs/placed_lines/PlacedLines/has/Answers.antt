use Rattle.std.proofs.Common.{sym, ap, ◌≡◌, ◌∙◌}
use Rattle.std.specs.List.{list_any}
use Rattle.cov_base.proofs.CallerLemmas.{any-map}
use Rattle.cov_view.specs.AtPlaces.{joined, line_at}
use Rattle.cov_view.specs.Lines.{is_among}
use Rattle.cov_view.specs.References.{same_line}
use Rattle.cov_view.specs.declared.line.ViewLine.{ViewLine}
use Rattle.cov_view.proofs.placed_lines.PlacedLines.has.Goals as goal

pub returns : goal.returns
returns c =
    let rows : c.as_slice-rows.result.now ≡ c.self.inside.rows = c.as_slice-rows.ensures ∙ c.lend.ensures in
    c.is_placed.ensures
    ∙ (λ j. list_any (λ p. same_line (line_at (joined (rows j) (c.as_slice-own.ensures j)) p).line c.args.line.now) (c.as_slice.ensures.value j))
    ∙ sym (any-map (λ (l : ViewLine). same_line l.line c.args.line.now) (line_at (joined c.self.inside.rows c.self.inside.own)) c.self.inside.places.items)
    ∙ ap (is_among c.args.line.now) c.self.view_is
