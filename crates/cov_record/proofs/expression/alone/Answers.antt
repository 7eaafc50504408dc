use Rattle.std.proofs.Common.{◌∙◌, Some, ap}
use Rattle.cov_record.proofs.Forests.{never_alone, always_alone, named_alone}
use Rattle.cov_record.proofs.expression.alone.Goals as goal

pub returns-in-Never : goal.returns-in-Never
returns-in-Never c = λ bytes rest at. never_alone bytes rest (at ∙ ap (λ s. Some (s, rest)) c.in-Never.is)

pub returns-in-Always : goal.returns-in-Always
returns-in-Always c = λ bytes rest at. always_alone bytes rest (at ∙ ap (λ s. Some (s, rest)) c.in-Always.is)

pub returns-in-Named : goal.returns-in-Named
returns-in-Named c = λ bytes rest at. named_alone c.in-Named.option bytes rest (at ∙ ap (λ s. Some (s, rest)) c.in-Named.is)
