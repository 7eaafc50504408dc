use Rattle.cov_file.proofs.Showing.{shown_by_values}
use Rattle.cov_file.proofs.laws.shown_by_values.Goals as goal

pub returns : goal.returns
returns c = shown_by_values
