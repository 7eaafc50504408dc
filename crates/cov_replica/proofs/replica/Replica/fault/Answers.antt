use Rattle.std.proofs.Common.{sym}
use Rattle.cov_replica.proofs.Telling.{fault_taken}
use Rattle.cov_replica.proofs.replica.Replica.fault.Goals as goal

pub returns : goal.returns
returns c =
    let r = c.self.inside.reading in
    sym (fault_taken r.bytes.items _ r.at r.digest r.engine.history c.self.inside.fault c.self.invariant c.self.view_is)
