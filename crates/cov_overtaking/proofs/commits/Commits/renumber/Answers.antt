use Rattle.std.proofs.Common.{sym, subst}
use Rattle.cov_overtaking.specs.Overtakers.{noted, AreNoted}
use Rattle.cov_overtaking.proofs.Noting.{noted-having}
use Rattle.cov_overtaking.proofs.commits.Commits.renumber.Goals as goal

pub invariant_of-self : goal.invariant_of-self
invariant_of-self c =
    subst (AreNoted (noted c.self.inside.notes)) (sym c.renumber_marks.ensures.items)
    (noted-having (noted c.self.inside.notes) c.self.inside.marks.items _ c.self.invariant)
