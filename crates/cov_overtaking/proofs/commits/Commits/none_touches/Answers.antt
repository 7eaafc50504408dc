use Rattle.std.proofs.Common.{ap, subst}
use Rattle.cov_overtaking.specs.Overtakers.{noted, NoneTouches}
use Rattle.cov_overtaking.proofs.Noting.{none-newer}
use Rattle.cov_overtaking.proofs.commits.Commits.none_touches.Goals as goal

pub returns : goal.returns
returns c = λ old.
    subst (NoneTouches c.args.base c.args.nodes.now) (ap (λ v. v.items) c.self.view_is)
    (none-newer (noted c.self.inside.notes) c.args.base c.args.nodes.now (c.are_old.ensures old) c.self.inside.marks.items c.self.invariant)
