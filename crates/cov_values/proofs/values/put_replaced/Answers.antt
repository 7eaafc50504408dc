use Rattle.std.proofs.Common.{◌∙◌, ap, sym}
use Rattle.std.proofs.lemmas.Option.{same_Some}
use Rattle.cov_values.proofs.values.put_replaced.Goals as goal

pub returns-in-Some-clause-value : goal.returns-in-Some-clause-value
returns-in-Some-clause-value c = λ so f agrees m is. ap f (same_Some _ _ (sym is ∙ sym c.get.ensures ∙ c.in-Some.is)) ∙ c.put.ensures.value so f agrees
