use Rattle.cov_serve.proofs.Commits.{text_short}
use Rattle.cov_serve.proofs.import.commit_text.Goals as goal

pub returns-clause-short : goal.returns-clause-short
returns-clause-short c = text_short c.lines.text c.args.count c.lines.left c.lines.invariant c.requires
