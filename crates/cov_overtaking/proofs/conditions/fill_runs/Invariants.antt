use Rattle.std.proofs.Common.{◌≡◌, length}
use Rattle.cov_dd.specs.Diagrams.{Extends}
use Rattle.cov_edit.specs.Runs.{side_at, RunsRise}
use Rattle.cov_overtaking.specs.EditConditions.{AllAt, IsCondition, first_place}
use Rattle.cov_overtaking.proofs.Filling.{GoOn}
use Rattle.cov_overtaking.proofs.conditions.fill_runs.Given as goal

abbrev pub invariant-loop-ahead : goal.invariant-loop-ahead
invariant-loop-ahead l = record {
  extends : Extends l.fn.table l.table;
  rise : RunsRise l.ahead;
  on : GoOn l.runs l.count l.ahead;
  reached : length l.nodes.items ≡ first_place l.count l.ahead;
  all : AllAt (λ i n. IsCondition l.fn.table l.table l.within (side_at l.runs i) n) 0 l.nodes.items;
}

abbrev pub decreases-loop-ahead : goal.decreases-loop-ahead
decreases-loop-ahead l = length l.ahead
