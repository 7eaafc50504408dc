use Rattle.std.proofs.Common.{length}
use Rattle.cov_visible.specs.Trying.{file_shows}
use Rattle.cov_visible.proofs.Trying.{Tried}
use Rattle.cov_visible.proofs.trial.Trial.first_refused.Given as goal

abbrev pub invariant-loop-ahead : goal.invariant-loop-ahead
invariant-loop-ahead l = let v = l.sight.visible.now in Tried (file_shows v.table l.sight.choice l.sight.at v.files) l.initial.self l.self l.edits l.ahead l.index

abbrev pub decreases-loop-ahead : goal.decreases-loop-ahead
decreases-loop-ahead l = length l.ahead
