use Rattle.std.proofs.Common.{◌≡◌, ◌≤◌, ◌-◌}
use Rattle.std.specs.Prelude.{is_none}
use Rattle.std.specs.List.{find, range_with_len}
use Rattle.cov_expr.specs.Partials.{bound_value}
use Rattle.cov_hist.specs.Past.{first_open, is_bound_on}
use Rattle.cov_lines.proofs.Filling.{filled}
use Rattle.cov_lines.proofs.whole.whole_choice.Given as goal

abbrev pub invariant-loop-number : goal.invariant-loop-number
invariant-loop-number l = record {
  within : l.number ≤ l.count;
  is : l.choice ≡ filled (is_bound_on l.partial) l.count l.number;
  unbound : find (λ option. is_none (bound_value l.partial option)) (range_with_len l.number (l.count - l.number)) ≡ first_open l.count l.partial;
}

abbrev pub decreases-loop-number : goal.decreases-loop-number
decreases-loop-number l = l.count - l.number
