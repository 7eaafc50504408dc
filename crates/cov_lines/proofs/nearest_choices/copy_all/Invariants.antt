use Rattle.std.proofs.Common.{◌≡◌, ◌≤◌, ◌-◌, take}
use Rattle.cov_rules.specs.Installing.{expressions}
use Rattle.cov_lines.proofs.nearest_choices.copy_all.Given as goal

abbrev pub invariant-loop-rule : goal.invariant-loop-rule
invariant-loop-rule l = record {
  within : l.rule ≤ l.count;
  first : l.exprs ≡ take l.rule (expressions l.rules.standing.constraints);
}

abbrev pub decreases-loop-rule : goal.decreases-loop-rule
decreases-loop-rule l = l.count - l.rule
