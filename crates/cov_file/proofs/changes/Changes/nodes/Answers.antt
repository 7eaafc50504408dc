use Rattle.cov_file.proofs.Renumbering.{all-listed}
use Rattle.cov_file.proofs.changes.Changes.nodes.Goals as goal

pub returns-in-Ok-clause-all : goal.returns-in-Ok-clause-all
returns-in-Ok-clause-all c = rw (← c.self.view_is) (λ test h. all-listed test c.self.inside.newest.items c.self.inside.earlier.items h)

pub returns-in-Err-clause-all : goal.returns-in-Err-clause-all
returns-in-Err-clause-all c = rw (← c.self.view_is) (λ test h. all-listed test c.self.inside.newest.items c.self.inside.earlier.items h)
