use Rattle.std.proofs.Common.{length}
use Rattle.cov_dd.specs.Diagrams.{Extends}
use Rattle.cov_overtaking.specs.Touches.{RiseByNode, AreOfTable, DoNotMeet}
use Rattle.cov_overtaking.proofs.meeting.meet_in_turn.Given as goal

abbrev pub invariant-loop-touch : goal.invariant-loop-touch
invariant-loop-touch l = record {
  extends : Extends l.fn.table l.table;
  left_rises : RiseByNode l.ahead;
  right_rises : RiseByNode l.others;
  left_in : AreOfTable l.fn.table l.ahead;
  right_in : AreOfTable l.fn.table l.others;
  onward : DoNotMeet l.fn.table l.ahead l.others → DoNotMeet l.fn.table l.left l.right;
  back : DoNotMeet l.fn.table l.left l.right → DoNotMeet l.fn.table l.ahead l.others;
}

abbrev pub decreases-loop-touch : goal.decreases-loop-touch
decreases-loop-touch l = length l.ahead
