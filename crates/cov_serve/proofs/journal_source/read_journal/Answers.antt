use Rattle.std.proofs.Common.{◌∙◌, ◌++◌, ap}
use Rattle.cov_replica.specs.Taken.{taken}
use Rattle.cov_serve.proofs.journal_source.read_journal.Goals as goal

pub returns-in-Ok-feed_all-clause-taken : goal.returns-in-Ok-feed_all-clause-taken
returns-in-Ok-feed_all-clause-taken g c text left = (c.in-Ok-feed_all.ensures.fed text left).0 ∙ ap (λ b. taken (b ++ text)) c.in-Ok.ensures

pub returns-in-Ok-feed_all-clause-read : goal.returns-in-Ok-feed_all-clause-read
returns-in-Ok-feed_all-clause-read g c text left = (c.in-Ok-feed_all.ensures.fed text left).1
