use Rattle.cov_dd.proofs.CallerLemmas.{extends_trans}
use Rattle.cov_rules.proofs.rules.Rules.narrowed.Goals as goal

pub returns-clause-extends : goal.returns-clause-extends
returns-clause-extends c = extends_trans c.args.table.now c.with_preferences.new.table c.with_defaults.new.table c.in_ok-preferred.ensures.extends c.with_defaults.ensures.extends
