use Rattle.cov_dd.proofs.CallerLemmas.{extends_trans}
use Rattle.cov_rules.proofs.rules.conjoined.Goals as goal

pub returns-in_err-conjunction-clause-extends : goal.returns-in_err-conjunction-clause-extends
returns-in_err-conjunction-clause-extends c = extends_trans c.args.table.now c.compile.new.table c.and.new.self c.in_ok-node.ensures.extends c.in_err-conjunction.ensures.extends

pub returns-clause-extends : goal.returns-clause-extends
returns-clause-extends c = extends_trans c.args.table.now c.compile.new.table c.and.new.self c.in_ok-node.ensures.extends c.and.ensures.extends
