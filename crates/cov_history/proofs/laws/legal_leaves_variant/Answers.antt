use Rattle.std.proofs.Common.{[], refl}
use Rattle.cov_history.proofs.LeftVariants.{legal-leaves}
use Rattle.cov_history.proofs.laws.legal_leaves_variant.Goals as goal

pub returns : goal.returns
returns c history = legal-leaves [] history ([], refl, refl)
