use Rattle.cov_hist.proofs.Declared.{refused-declared}
use Rattle.cov_hist.proofs.laws.refused_options_are_declared.Goals as goal

pub returns : goal.returns
returns c = refused-declared
