use Rattle.cov_history.proofs.Meanwhile.{commit-shows_file}
use Rattle.cov_history.proofs.laws.commit_shows_files.Goals as goal

pub returns : goal.returns
returns c = commit-shows_file
