use Rattle.std.proofs.Common.{◌≡◌, ◌≤◌, length}
use Rattle.std.specs.List.{AllByRecursion}
use Rattle.cov_expr.specs.Formula.{reach}
use Rattle.cov_expr.specs.Validity.{is_valid}
use Rattle.cov_cond_text.proofs.cond_text.all_hold.Given as goal

abbrev pub invariant-loop-ahead : goal.invariant-loop-ahead
invariant-loop-ahead l = (is_valid l.ahead l.choice ≡ is_valid l.conditions l.choice) × AllByRecursion (λ e. reach e ≤ length l.choice) l.ahead

abbrev pub decreases-loop-ahead : goal.decreases-loop-ahead
decreases-loop-ahead l = length l.ahead
