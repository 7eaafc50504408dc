use Rattle.std.proofs.Common.{◌≡◌, [], length}
use Rattle.std.specs.List.{fold}
use Rattle.cov_alt.specs.Marking.{with_marked}
use Rattle.cov_alt.proofs.marking.mark_all.Given as goal

abbrev pub invariant-loop-ahead : goal.invariant-loop-ahead
invariant-loop-ahead l = fold (with_marked l.engine.history l.on l.off) l.lines l.ahead ≡ fold (with_marked l.engine.history l.on l.off) [] l.rows

abbrev pub decreases-loop-ahead : goal.decreases-loop-ahead
decreases-loop-ahead l = length l.ahead
