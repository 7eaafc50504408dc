use Rattle.std.proofs.Common.{sym}
use Rattle.cov_dd.proofs.Nodes.{top-none}
use Rattle.cov_dd.proofs.table.Table.top_of.Goals as goal

pub returns-in-None-clause-top : goal.returns-in-None-clause-top
returns-in-None-clause-top c = sym (top-none c.args.self.now c.args.a (sym c.in-None.ensures.entry))
