use Rattle.std.proofs.Common.{rules, arith, ◌≡◌, length}
use Rattle.cov_replica.proofs.Steps.{takes_piece}
use Rattle.cov_replica.proofs.reading.Reading.feed.Goals as goal

pub returns-in-Ok-clause-bytes : goal.returns-in-Ok-clause-bytes
returns-in-Ok-clause-bytes c =
    let s = c.args.self.now in
    let size : c.len-before.result ≡ length s.bytes.items = search (rules, arith) in
    takes_piece c.len-before.result s.bytes.items c.args.piece.now c.extend_from_slice.new.self.items c.read.new.self.bytes.items c.read.result size c.in-Ok.ensures.items c.read.ensures.keeps
