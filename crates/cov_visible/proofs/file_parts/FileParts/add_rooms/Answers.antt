use Rattle.std.proofs.Common.{subst, sym, ◌∙◌}
use Rattle.std.specs.List.{AllByRecursion}
use Rattle.cov_visible.specs.Staging.{HasRoom}
use Rattle.cov_visible.proofs.StoredFiles.{same-length, same-rising, written-back}
use Rattle.cov_visible.proofs.Rooms.{ready-rest, ready-end}
use Rattle.cov_visible.proofs.file_parts.FileParts.add_rooms.Goals as goal

pub loop-ahead-preserved : goal.loop-ahead-preserved
loop-ahead-preserved c = record {
  same = c.in_ok-add_room_for.ensures.same ∙ c.loop-ahead.invariant.same;
  rising = same-rising c.loop-ahead.files c.add_room_for.new.files c.in_ok-add_room_for.ensures.same c.loop-ahead.invariant.rising;
  ready =
      ready-rest c.args.edits.now c.loop-ahead.ahead.now c.edit-item.result c.edit-item.result c.loop-ahead.files c.add_room_for.new.files c.edit-item.is
      c.in-len1-up.len_at_least c.in_ok-add_room_for.ensures.room c.requires.few c.loop-ahead.invariant.ready;
}

pub returns-clause-room : goal.returns-clause-room
returns-clause-room c =
    let files = c.loop-ahead.files in
    subst (AllByRecursion (HasRoom c.args.edits.now))
    (sym (written-back c.self.inside.parts.items files c.self.inside.parts.len (same-length c.as_mut_slice-files.result.now files c.loop-ahead.invariant.same ∙ c.as_mut_slice-files.ensures.len)))
    (ready-end c.args.edits.now c.loop-ahead.ahead.now files c.in_default.len_below c.loop-ahead.invariant.ready)
