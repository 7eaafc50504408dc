use Rattle.cov_lines.proofs.Additions.{replied}
use Rattle.cov_lines.proofs.server.Server.finish.Goals as goal

pub returns-in-Ok-clause-counted : goal.returns-in-Ok-clause-counted
returns-in-Ok-clause-counted c = replied c.confirmed.result c.in-Ok.ensures.counted
