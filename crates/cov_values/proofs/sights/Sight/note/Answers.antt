use Rattle.cov_values.proofs.sights.Sight.note.Goals as goal

pub returns-in-Ok : goal.returns-in-Ok
returns-in-Ok g c = λ shows right f agrees. right f (c.in-Ok.ensures.grows f agrees)
