use Rattle.cov_base.proofs.Faulty.{faults_are_found}
use Rattle.cov_base.proofs.laws.faults_are_found.Goals as goal

pub returns : goal.returns
returns c = faults_are_found
