use Rattle.cov_serve.proofs.Words.{new_path_named}
use Rattle.cov_serve.proofs.job.new_path.Goals as goal

pub returns-in-Ok-clause-named : goal.returns-in-Ok-clause-named
returns-in-Ok-clause-named c = rw c.below_root.ensures (new_path_named c.args.bytes.now c.in-Ok.path c.in-Ok.ensures.ok)
