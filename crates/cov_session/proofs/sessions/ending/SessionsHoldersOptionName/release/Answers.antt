use Rattle.std.proofs.Common.{sym, subst}
use Rattle.cov_session.specs.Calls.{HasEnded}
use Rattle.cov_session.proofs.Naming.{has-ended}
use Rattle.cov_session.proofs.sessions.ending.SessionsHoldersOptionName.release.Goals as goal

pub returns-in-Some-2 : goal.returns-in-Some-2
returns-in-Some-2 c =
    let of = c.discard.ensures in
    subst (λ which. HasEnded which c.args.self.now c.discard.new.self) (sym c.in-Some.is)
    (has-ended c.in-Some.name c.args.self.now c.discard.new.self c.discard.result of.without of.none of.same of.open)
