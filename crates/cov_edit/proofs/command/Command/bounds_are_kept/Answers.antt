use Rattle.cov_edit.proofs.Fits.{commit-fits}
use Rattle.cov_edit.proofs.command.Command.bounds_are_kept.Goals as goal

pub returns-in-Commit : goal.returns-in-Commit
returns-in-Commit c = rw c.in-Commit.is (commit-fits _ _ c.part.ensures.fits c.runs.ensures.fits)
