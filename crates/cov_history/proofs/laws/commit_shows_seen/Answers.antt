use Rattle.cov_history.proofs.Sessions.{commit-shows}
use Rattle.cov_history.proofs.laws.commit_shows_seen.Goals as goal

pub returns : goal.returns
returns c = commit-shows
