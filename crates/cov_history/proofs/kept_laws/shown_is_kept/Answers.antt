use Rattle.cov_history.proofs.Files.{shown-kept}
use Rattle.cov_history.proofs.kept_laws.shown_is_kept.Goals as goal

pub returns : goal.returns
returns c = shown-kept
