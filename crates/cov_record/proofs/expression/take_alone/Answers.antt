use Rattle.std.proofs.Common.{◌∙◌, ap, sym}
use Rattle.cov_record.specs.Reading.{front_sign}
use Rattle.cov_record.proofs.expression.take_alone.Goals as goal

pub returns-clause-tree : goal.returns-clause-tree
returns-clause-tree c =
    c.in_ok-tree.ensures c.args.ahead.now c.take_sign.new.ahead (ap front_sign (sym c.copy-front.ensures) ∙ c.in_ok-sign.ensures)
