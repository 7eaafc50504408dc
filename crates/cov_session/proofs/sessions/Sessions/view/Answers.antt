use Rattle.std.proofs.Common.{sym}
use Rattle.cov_session.proofs.Naming.{named-none}
use Rattle.cov_session.proofs.sessions.Sessions.view.Goals as goal

pub returns-in-None-clause-none : goal.returns-in-None-clause-none
returns-in-None-clause-none c = named-none c.args.name.now c.args.self.now (sym c.in-None.ensures)
