use Rattle.cov_dd.proofs.CallerLemmas.{extends_trans}
use Rattle.cov_analyse.proofs.analysis.sides_of.Goals as goal

pub returns-in_err-off-clause-extends : goal.returns-in_err-off-clause-extends
returns-in_err-off-clause-extends c = extends_trans c.args.table.now c.literal.new.self c.without.new.self c.in_ok-literal.ensures.extends c.in_err-off.ensures.extends

pub returns-in_err-on-clause-extends : goal.returns-in_err-on-clause-extends
returns-in_err-on-clause-extends c =
    extends_trans c.args.table.now c.literal.new.self c.and.new.self c.in_ok-literal.ensures.extends
    (extends_trans c.literal.new.self c.without.new.self c.and.new.self c.in_ok-off.ensures.extends c.in_err-on.ensures.extends)

pub returns-clause-extends : goal.returns-clause-extends
returns-clause-extends c =
    extends_trans c.args.table.now c.literal.new.self c.and.new.self c.in_ok-literal.ensures.extends
    (extends_trans c.literal.new.self c.without.new.self c.and.new.self c.in_ok-off.ensures.extends c.in_ok-on.ensures.extends)
