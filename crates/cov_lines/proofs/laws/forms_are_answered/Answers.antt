use Rattle.cov_lines.specs.Growth.{without_reply}
use Rattle.cov_lines.proofs.laws.forms_are_answered.Goals as goal

pub returns : goal.returns
returns c st line heard told = heard (without_reply st line told).0
