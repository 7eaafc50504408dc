use Rattle.std.proofs.Common.{refl, arith}
use Rattle.cov_order.proofs.Room.{reserved_room}
use Rattle.cov_order.proofs.pages.Pages.reserve.Goals as goal

pub returns-clause-room : goal.returns-clause-room
returns-clause-room c =
    reserved_room c.args.self.now c.grow.new.self
    (record { pages = c.grow.new.self.pages; sequence = c.grow.new.self.sequence; index = c.grow.new.self.index; empty = c.truncate.new.self })
    c.args.n c.requires.paged c.in_ok-grow.ensures.grows refl refl refl c.in_ok-grow.ensures.index c.in_ok-grow.ensures.begun
    (omega (arith, c.truncate.ensures.len, c.in_ok-grow.ensures.empty, c.most_splits-wanted.ensures, c.len.ensures))
