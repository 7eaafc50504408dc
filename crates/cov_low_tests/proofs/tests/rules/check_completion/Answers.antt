use Rattle.cov_low_tests.proofs.tests.rules.check_completion.Goals as goal

pub complete-requires-clause-holds : goal.complete-requires-clause-holds
complete-requires-clause-holds g c = c.requires.holds c.args.table.now
