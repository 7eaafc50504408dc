use Rattle.cov_tree_bench.proofs.renaming.test.Goals as goal

pub returns-clause-once : goal.returns-clause-once
returns-clause-once c = c.once_stays.ensures.planned c.args.table.now c.unsound.new.table c.args.plan.now c.args.entries.now c.unsound.ensures.extends c.requires.within c.requires.once
