use Rattle.std.proofs.Common.{◌≡◌, ◌≤◌, ◌-◌, suc, take, length}
use Rattle.cov_dd.specs.Diagrams.{Extends}
use Rattle.cov_rules.specs.Installing.{expressions}
use Rattle.cov_analyse.specs.Analysing.{AreMeeting, IsMeeting}
use Rattle.cov_analyse.proofs.analysis.conjoin_all.Given as goal

abbrev pub invariant-loop-done : goal.invariant-loop-done
invariant-loop-done l =
    let es = expressions l.rules.standing.constraints in
    record {
      extends : Extends l.fn.table l.table;
      few : l.done ≤ length l.rules.standing.constraints;
      count : length l.nodes ≡ suc l.done;
      each : AreMeeting l.table l.nodes es l.order;
      stands : IsMeeting l.table l.node es (take l.done l.order);
    }

abbrev pub decreases-loop-done : goal.decreases-loop-done
decreases-loop-done l = length l.rules.standing.constraints - l.done
