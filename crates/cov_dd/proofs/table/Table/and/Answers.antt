use Rattle.std.proofs.Common.{subst, sym}
use Rattle.cov_dd.specs.Diagrams.{Extends}
use Rattle.cov_dd.proofs.Nodes.{extends_none}
use Rattle.cov_dd.proofs.table.Table.and.Goals as goal

pub returns-in-Some-recall-clause-extends : goal.returns-in-Some-recall-clause-extends
returns-in-Some-recall-clause-extends g c = subst (Extends c.args.self.now) (sym c.recall.ensures.same) (extends_none c.args.self.now)
