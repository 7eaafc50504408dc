use Rattle.cov_dd.proofs.Conjunctions.{table_among, remembered_stands}
use Rattle.cov_dd.proofs.table.Table.recall.Goals as goal

pub invariant_of-self : goal.invariant_of-self
invariant_of-self c = table_among _ c.self.inside.conjunctions c.find.new.self c.self.invariant c.find.ensures.among

pub returns-clause-some : goal.returns-clause-some
returns-clause-some c = rw (← c.self.view_is) (remembered_stands _ c.self.inside.conjunctions c.args.pair c.find.result c.self.invariant c.find.ensures.some)
