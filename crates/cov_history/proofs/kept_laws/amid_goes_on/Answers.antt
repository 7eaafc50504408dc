use Rattle.std.proofs.Common.{◌++◌}
use Rattle.cov_history.proofs.Inserts.{amid-goes_on, stands-amid}
use Rattle.cov_history.proofs.kept_laws.amid_goes_on.Goals as goal

pub returns : goal.returns
returns c = λ history within begun later. (stands-amid history begun later within, amid-goes_on history within (begun ++ later) begun)
