use Rattle.cov_dd.proofs.CallerLemmas.{extends_trans}
use Rattle.cov_analyse.proofs.analysis.broken_alone.Goals as goal

pub returns-clause-extends : goal.returns-clause-extends
returns-clause-extends c = extends_trans c.args.table.now c.and.new.self c.without.new.self c.in_ok-others.ensures.extends c.without.ensures.extends
