use Rattle.cov_dd.specs.Diagrams.{Extends}
use Rattle.cov_dd.proofs.CallerLemmas.{extends_trans}
use Rattle.cov_low_tests.proofs.tests.entries.unsound_where.Given.{Over}
use Rattle.cov_low_tests.proofs.tests.entries.unsound_where.Goals as goal
use Rattle.cov_low_tests.proofs.tests.entries.unsound_where.Goals.{After-unsound_change-arg-1}

grown : (g : Over) (c : After-unsound_change-arg-1 g) → Extends c.args.table.now c.literal-4.new.self
grown g c =
    extends_trans c.args.table.now c.literal-2.new.self c.literal-4.new.self
    (extends_trans c.args.table.now c.literal.new.self c.literal-2.new.self c.in_ok-gone.ensures.extends c.in_ok-taken.ensures.extends)
    (extends_trans c.literal-2.new.self c.literal-3.new.self c.literal-4.new.self c.in_ok-below.ensures.extends c.in_ok-within.ensures.extends)

pub unsound_change-requires-clause-within : goal.unsound_change-requires-clause-within
unsound_change-requires-clause-within g c =
    c.new-plan.ensures.within c.literal-4.new.self c.args.entries.now (c.nodes_stay.ensures.at c.args.table.now c.literal-4.new.self c.args.entries.now (grown g c) c.requires.within)

pub unsound_change-requires-clause-once : goal.unsound_change-requires-clause-once
unsound_change-requires-clause-once g c =
    c.new-plan.ensures.once c.literal-4.new.self c.args.entries.now (c.once_stays.ensures.at c.args.table.now c.literal-4.new.self c.args.entries.now (grown g c) c.requires.within c.requires.once)
