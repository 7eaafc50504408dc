use Rattle.std.proofs.Common.{arith, sym, ◌∙◌}
use Rattle.std.proofs.lemmas.Bool.{le-ltb}
use Rattle.cov_base.proofs.CallerLemmas.{is_on-above}
use Rattle.cov_analyse.proofs.bounding.is_set.Goals as goal

pub returns-else-number-count : goal.returns-else-number-count
returns-else-number-count c =
    le-ltb c.number.result c.count.result c.if-number-count.false ∙ sym (is_on-above c.args.choice c.args.option (omega arith))
