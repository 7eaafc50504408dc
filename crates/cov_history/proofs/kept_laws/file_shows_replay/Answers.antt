use Rattle.cov_history.proofs.Orders.{file-shows}
use Rattle.cov_history.proofs.kept_laws.file_shows_replay.Goals as goal

pub returns : goal.returns
returns c = file-shows
