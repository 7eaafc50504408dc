use Rattle.std.proofs.Common.{refl, arith}
use Rattle.cov_file.proofs.Showing.{sights_stay}
use Rattle.cov_file.proofs.Rooms.{kept_with_room}
use Rattle.cov_file.proofs.lines.FileLines.expect_delete.Goals as goal

pub invariant_of-self-in_err-push : goal.invariant_of-self-in_err-push
invariant_of-self-in_err-push c = (
  kept_with_room c.self.inside.order.lines c.self.inside.texts.entries c.self.inside.changes c.prepare.new.self c.self.inside.coming.deletes.items c.push.new.self.items c.self.invariant.0 c.prepare.ensures.lists
      (omega (arith, c.in_ok-prepare.ensures.room, c.push.ensures.upper_bound, c.push.new.self.ok.0, c.len-deletes.ensures)),
  sights_stay c.self.inside.texts.entries c.self.inside.texts.entries c.self.inside.changes.lists c.prepare.new.self.lists c.self.inside.order.lines c.self.inside.order.lines c.self.inside.sights refl c.prepare.ensures.lists refl c.self.invariant.1,
)

pub invariant_of-self-2 : goal.invariant_of-self-2
invariant_of-self-2 c = (
  kept_with_room c.self.inside.order.lines c.self.inside.texts.entries c.self.inside.changes c.prepare.new.self c.self.inside.coming.deletes.items c.push.new.self.items c.self.invariant.0 c.prepare.ensures.lists
      (omega (arith, c.in_ok-prepare.ensures.room, c.push.ensures.upper_bound, c.push.new.self.ok.0, c.len-deletes.ensures)),
  sights_stay c.self.inside.texts.entries c.self.inside.texts.entries c.self.inside.changes.lists c.prepare.new.self.lists c.self.inside.order.lines c.self.inside.order.lines c.self.inside.sights refl c.prepare.ensures.lists refl c.self.invariant.1,
)
