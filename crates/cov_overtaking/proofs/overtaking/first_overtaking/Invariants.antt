use Rattle.std.proofs.Common.{ℕ, Option, length}
use Rattle.cov_dd.specs.Diagrams.{Extends}
use Rattle.cov_overtaking.specs.Marks.{AreKept}
use Rattle.cov_overtaking.specs.Overtakers.{IsFirstOf}
use Rattle.cov_overtaking.proofs.overtaking.first_overtaking.Given as goal

abbrev pub invariant-loop-ahead : goal.invariant-loop-ahead
invariant-loop-ahead l = record {
  extends : Extends l.fn.table l.table;
  kept : AreKept l.fn.table l.ahead;
  first : (found : Option ℕ) → IsFirstOf l.fn.table l.base l.own l.ahead found → IsFirstOf l.fn.table l.base l.own l.commits found;
}

abbrev pub decreases-loop-ahead : goal.decreases-loop-ahead
decreases-loop-ahead l = length l.ahead
