use Rattle.std.proofs.Common.{◌≡◌, ◌≤◌, ◌-◌}
use Rattle.std.specs.Prelude.{is_none}
use Rattle.std.specs.List.{find, range_with_len}
use Rattle.cov_expr.specs.Partials.{bound_value}
use Rattle.cov_hist.specs.Past.{first_open}
use Rattle.cov_hist.proofs.values.first_open.Given as goal

abbrev pub invariant-loop-number : goal.invariant-loop-number
invariant-loop-number l = record {
  within : l.number ≤ l.count;
  unbound : find (λ option. is_none (bound_value l.partial option)) (range_with_len l.number (l.count - l.number)) ≡ first_open l.count l.partial;
}

abbrev pub decreases-loop-number : goal.decreases-loop-number
decreases-loop-number l = l.count - l.number
