use Rattle.cov_dd.proofs.CallerLemmas.{extends_trans}
use Rattle.cov_analyse.proofs.analysis.conjoin.Goals as goal

pub returns-clause-extends : goal.returns-clause-extends
returns-clause-extends c = extends_trans c.args.table.now c.compile.new.table c.and.new.self c.in_ok-other.ensures.extends c.and.ensures.extends
