use Rattle.std.proofs.Common.{refl, ap, length, arith}
use Rattle.cov_file.proofs.Showing.{sights_stay}
use Rattle.cov_file.proofs.Rooms.{kept_with_room}
use Rattle.cov_file.proofs.lines.FileLines.prepare.Goals as goal

pub invariant_of-self-2 : goal.invariant_of-self-2
invariant_of-self-2 c =
    let long = ap length c.as_slice.ensures in (
      kept_with_room c.self.inside.order.lines c.self.inside.texts.entries c.self.inside.changes c.prepare.new.self c.self.inside.coming.deletes.items c.extend_from_slice.new.self.items c.self.invariant.0 c.prepare.ensures.lists
          (omega (arith, c.in_ok-prepare.ensures.room, c.in_ok-extend_from_slice.ensures.len, c.extend_from_slice.new.self.ok.0, c.clear.ensures.len, c.len.ensures, long)),
      sights_stay c.self.inside.texts.entries c.self.inside.texts.entries c.self.inside.changes.lists c.prepare.new.self.lists c.self.inside.order.lines c.self.inside.order.lines c.self.inside.sights refl c.prepare.ensures.lists refl c.self.invariant.1,
    )
