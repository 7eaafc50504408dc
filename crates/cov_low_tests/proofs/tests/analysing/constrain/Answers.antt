use Rattle.cov_low_tests.proofs.tests.analysing.constrain.Goals as goal

pub prepare-requires : goal.prepare-requires
prepare-requires c = record { holds = c.requires.holds c.args.table.now }
