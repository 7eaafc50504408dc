use Rattle.std.proofs.Common.{◌<◌, ◌∙◌, [], arith, length, subst, sym}
use Rattle.cov_base.specs.declared.file_row.FileRow.{FileRow}
use Rattle.cov_view.proofs.AtPlaces.{one_few, one_more, one_within}
use Rattle.cov_view.proofs.placed_lines.places_left.Goals as goal

pub loop-place-preserved : goal.loop-place-preserved
loop-place-preserved c =
    let there : c.loop-place.place < length c.args.rows.now = omega (arith, c.loop-place-test.true, c.in-Ok.ensures) in
    let gone = c.args.gone.now in
    let before = c.loop-place.places.items in
    let after = c.add_place.new.places.items in
    let none : FileRow = record { line = 0; text = [] } in
    record {
      whole = one_more c.args.rows.now gone before after c.loop-place.place c.is_gone.result none there c.is_gone.ensures c.add_place.ensures.items ∙ c.loop-place.invariant.whole;
      within = one_within c.args.rows.now gone before after c.loop-place.place c.is_gone.result none there c.add_place.ensures.items c.loop-place.invariant.within;
      few = one_few c.args.rows.now gone before after c.loop-place.place c.is_gone.result none c.add_place.ensures.items c.loop-place.invariant.few;
      reached = omega (arith, c.loop-place-test.true);
      room = subst (λ n. c.in-Ok.count < n) (sym c.add_place.ensures.capacity) c.loop-place.invariant.room;
    }
