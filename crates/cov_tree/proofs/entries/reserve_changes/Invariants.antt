use Rattle.std.proofs.Common.{◌≡◌, map, take}
use Rattle.cov_tree.specs.Dated.{with_no_room, HaveRoomFor}
use Rattle.cov_tree.proofs.entries.reserve_changes.Given as goal

abbrev pub invariant-plan : goal.invariant-plan
invariant-plan l = record {
  same : map with_no_room l.entries.items ≡ map with_no_room l.fn.entries.items;
  room : HaveRoomFor (take l.entry-index l.plan) l.entries.items;
}
