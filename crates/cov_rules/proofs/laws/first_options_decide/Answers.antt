use Rattle.cov_rules.proofs.Growing.{value_by_first_options, valid_by_first_options}
use Rattle.cov_rules.proofs.laws.first_options_decide.Goals as goal

pub returns-clause-value : goal.returns-clause-value
returns-clause-value c = value_by_first_options

pub returns-clause-valid : goal.returns-clause-valid
returns-clause-valid c = valid_by_first_options
