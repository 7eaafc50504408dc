use Rattle.cov_dd.proofs.Insertion.{placed}
use Rattle.cov_dd.proofs.table.place.Goals as goal

pub returns-clause-placed : goal.returns-clause-placed
returns-clause-placed c =
    let s = c.in_ok-index.ensures.stored in
    placed c.args.entries.now.keys c.insert_full.new.self.keys c.args.triple s.0 c.in_ok-index.index c.in_ok-index.ensures.keys s.1 s.2
