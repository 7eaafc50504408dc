use Rattle.std.proofs.Common.{◌≤◌, sym, subst}
use Rattle.std.specs.List.{AllByRecursion}
use Rattle.cov_overtaking.specs.Overtakers.{noted, AreNoted}
use Rattle.cov_overtaking.proofs.Noting.{one-noted}
use Rattle.cov_overtaking.proofs.commits.Commits.push.Goals as goal

pub invariant_of-self : goal.invariant_of-self
invariant_of-self c =
    subst (AreNoted (noted c.note_all.new.notes)) (sym c.in-Ok.ensures.items)
    (one-noted (noted c.self.inside.notes) (noted c.note_all.new.notes) c.note_all.ensures.later c.self.inside.marks.items c.args.mark c.self.invariant
    (subst (AllByRecursion (λ x. c.args.mark.position ≤ noted c.note_all.new.notes x)) c.as_slice.ensures c.note_all.ensures.noted))
