use Rattle.std.proofs.Common.{◌≡◌, ◌+◌, ◌≤◌, length, option_map, not, position}
use Rattle.cov_expr.specs.Formula.{value}
use Rattle.cov_expr.specs.Validity.{first_false}
use Rattle.cov_rules.specs.Installing.{expressions_at, reach_of}
use Rattle.cov_rules.proofs.rules.first_broken.Given as goal

abbrev pub invariant-loop-ahead : goal.invariant-loop-ahead
invariant-loop-ahead l = record {
  rule : l.rule + length l.ahead ≤ 1 + length l.constraints;
  within : reach_of (expressions_at l.at l.ahead) ≤ length l.choice;
  found : first_false (expressions_at l.at l.constraints) l.choice ≡ option_map (λ n. n + l.rule) (position (λ e. not (value e l.choice)) (expressions_at l.at l.ahead));
}

abbrev pub decreases-loop-ahead : goal.decreases-loop-ahead
decreases-loop-ahead l = length l.ahead
