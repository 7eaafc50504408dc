use Rattle.std.proofs.Common.{◌≡◌, ◌≤◌, ◌∙◌, ap, subst, true, cond, None, Some}
use Rattle.std.specs.Map.{keys_of}
use Rattle.std.proofs.Math.Nat.{le-min}
use Rattle.std.specs.Prelude.{OnOk}
use Rattle.cov_order.specs.Orders.{has_line}
use Rattle.cov_file.specs.Kept.{dated_lines}
use Rattle.cov_file.proofs.Changing.{numbers}
use Rattle.cov_file.proofs.Showing.{sights_stay}
use Rattle.cov_file.proofs.Rooms.{kept_moved, kept_prepared, on_ok, changeable_expected}
use Rattle.cov_file.proofs.lines.FileLines.make_room.Goals as goal

pub invariant_of-self-2 : goal.invariant_of-self-2
invariant_of-self-2 c = (
  kept_moved c.self.inside.order.lines c.reserve.new.self.lines c.self.inside.texts.entries c.reserve-2.new.self.entries c.prepare.new.self c.self.inside.coming.deletes.items
      c.reserve.ensures.same c.reserve-2.ensures.entries
      (kept_prepared c.prepare.result c.self.inside.order.lines c.self.inside.texts.entries c.self.inside.changes c.prepare.new.self c.self.inside.coming.deletes.items c.self.invariant.0
      c.prepare.ensures.lists c.prepare.ensures.newest c.prepare.ensures.kept
      (subst (λ n. OnOk c.prepare.result (n ≤ c.prepare.new.self.room)) (c.len-deletes.ensures ∙ c.self.inside.coming.deletes.ok.0) c.prepare.ensures.room) c.prepare.ensures.err),
  sights_stay c.self.inside.texts.entries c.reserve-2.new.self.entries c.self.inside.changes.lists c.prepare.new.self.lists c.self.inside.order.lines c.reserve.new.self.lines c.let_go_before_many.new.sights c.reserve-2.ensures.entries c.prepare.ensures.lists c.reserve.ensures.same
      (c.let_go_before_many.ensures (dated_lines c.self.inside.texts.entries c.self.inside.changes.lists c.self.inside.order.lines) c.self.invariant.1),
)

pub returns-clause-room : goal.returns-clause-room
returns-clause-room c =
    on_ok c.prepare.result (c.self.inside.coming.inserts ≤ c.prepare.new.self.inserts) (c.prepare.new.self.is_open ≡ true) _
    (λ room is_open. record {
      inserts = le-min c.in_ok-reserve.ensures.room (le-min c.in_ok-reserve-2.ensures.ok room);
      changes = λ line named there.
          changeable_expected c.prepare.new.self (keys_of c.reserve-2.new.self.entries) c.self.inside.coming.deletes.items c.reserve.new.self.lines line named
          (subst (λ lines. has_line line lines ≡ true) (numbers c.reserve-2.new.self.entries c.prepare.new.self.lists c.reserve.new.self.lines) there);
      position = ap (λ b. cond b None (Some c.prepare.new.self.newest)) is_open;
    })
    c.prepare.ensures.inserts c.prepare.ensures.open
