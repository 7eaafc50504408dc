use Rattle.cov_low_tests.proofs.tests.entries.change_where_on.Goals as goal

pub change-requires-clause-within : goal.change-requires-clause-within
change-requires-clause-within g c = c.new-plan.ensures.within c.args.table.now c.args.entries.now c.requires.within

pub change-requires-clause-once : goal.change-requires-clause-once
change-requires-clause-once g c = c.new-plan.ensures.once c.args.table.now c.args.entries.now c.requires.once
