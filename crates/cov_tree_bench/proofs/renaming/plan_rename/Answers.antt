use Rattle.cov_dd.proofs.CallerLemmas.{extends_trans}
use Rattle.cov_tree_bench.proofs.renaming.plan_rename.Goals as goal

pub returns-clause-extends : goal.returns-clause-extends
returns-clause-extends c = extends_trans c.args.table.now c.renamed.new.table c.test.new.table c.renamed.ensures.stays.extends c.test.ensures.extends
