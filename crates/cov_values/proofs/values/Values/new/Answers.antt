use Rattle.std.proofs.Common.{sym, subst, false, refl}
use Rattle.cov_values.specs.Values.{HaveValues}
use Rattle.cov_values.proofs.values.Values.new.Goals as goal

pub invariant_of-result : goal.invariant_of-result
invariant_of-result c = subst HaveValues (sym c.new.ensures.items) (λ n. false, (refl, tt))
