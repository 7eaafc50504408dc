use Rattle.std.proofs.Common.{drop, subst, sym}
use Rattle.cov_tree.specs.Places.{AreApart}
use Rattle.cov_tree.proofs.Sweeping.{apart_having}
use Rattle.cov_tree.proofs.entry.Places.renumber.Goals as goal

pub invariant_of-self : goal.invariant_of-self
invariant_of-self c = subst AreApart (sym c.renumber_nodes.ensures.items) (apart_having c.self.inside.items.items (drop c.args.first c.args.from.now) c.self.invariant)
