use Rattle.std.proofs.Common.{rules}
use Rattle.cov_script.specs.Commits.{after_commits}
use Rattle.cov_script.proofs.commits.Commits.new.Goals as goal

pub returns : goal.returns
unfolding after_commits
returns c = search rules
