use Rattle.std.proofs.Common.{not, sym, ap, subst, ◌≡◌, ◌<◌, ◌∙◌, length}
use Rattle.cov_base.proofs.CallerLemmas.{all-filter}
use Rattle.cov_view.specs.AtPlaces.{joined, line_at, at_places, without_place, AreWithin}
use Rattle.cov_view.specs.Lines.{without_ref}
use Rattle.cov_view.specs.References.{same_line}
use Rattle.cov_view.specs.declared.line.ViewLine.{ViewLine}
use Rattle.cov_view.proofs.Deletes.{filter-map}
use Rattle.cov_view.proofs.placed_lines.PlacedLines.delete.Goals as goal

pub invariant_of-self : goal.invariant_of-self
invariant_of-self c =
    let ls = joined c.self.inside.rows c.self.inside.own in
    subst (AreWithin ls) (sym c.take_out.ensures)
    (all-filter (λ p. p < length ls) (λ p. not (same_line (line_at (joined c.as_slice-rows.result.now c.as_slice-own.result.now) p).line c.args.line.now)) c.self.inside.places.items c.self.invariant)

pub returns : goal.returns
returns c =
    let ls = joined c.self.inside.rows c.self.inside.own in
    let rows : c.as_slice-rows.result.now ≡ c.self.inside.rows = c.as_slice-rows.ensures ∙ c.lend.ensures in
    ap (at_places ls) c.take_out.ensures
    ∙ (λ j. at_places ls (without_place (joined (rows j) (c.as_slice-own.ensures j)) c.args.line.now c.self.inside.places.items))
    ∙ filter-map (line_at ls) (λ (l : ViewLine). not (same_line l.line c.args.line.now)) c.self.inside.places.items
    ∙ ap (without_ref c.args.line.now) c.self.view_is
