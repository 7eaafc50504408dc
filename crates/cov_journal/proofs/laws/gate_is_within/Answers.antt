use Rattle.cov_journal.proofs.Appending.{gate_within}
use Rattle.cov_journal.proofs.laws.gate_is_within.Goals as goal

pub returns : goal.returns
returns c image payloads at last fits written = gate_within at last payloads fits image written
