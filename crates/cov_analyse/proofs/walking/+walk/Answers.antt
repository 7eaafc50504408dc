use Rattle.std.proofs.Common.{◌∙◌, ap, length}
use Rattle.cov_base.proofs.CallerLemmas.{length-with_option}
use Rattle.cov_analyse.proofs.walking.+walk.Goals as goal

pub returns-clause-count : goal.returns-clause-count
returns-clause-count t c = ap length c.with.ensures ∙ length-with_option c.walk-below.result c.in-Some.entry.now.option c.is_nearer_on-on.result ∙ c.walk-below.ensures.count
