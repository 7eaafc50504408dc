use Rattle.cov_history.proofs.Files.{file-replay}
use Rattle.cov_history.proofs.kept_laws.file_follows_replay.Goals as goal

pub returns : goal.returns
returns c = file-replay
