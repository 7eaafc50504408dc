use Rattle.cov_journal.proofs.Uniqueness.{one_journal}
use Rattle.cov_journal.proofs.laws.one_journal.Goals as goal

pub returns : goal.returns
returns c = one_journal
