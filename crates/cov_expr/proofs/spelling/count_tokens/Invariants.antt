use Rattle.std.proofs.Common.{◌≡◌, ◌-◌, ◌≤◌, length, drop}
use Rattle.cov_expr.specs.Tokens.{tokens_of, tokens_from, token_count}
use Rattle.cov_expr.specs.Sizes.{counted}
use Rattle.cov_expr.proofs.spelling.count_tokens.Given as goal

abbrev pub invariant-loop-at : goal.invariant-loop-at
invariant-loop-at l = record {
  within : l.at ≤ length l.bytes;
  few : l.count ≤ l.at;
  ahead : token_count (tokens_of l.bytes) ≡ counted l.count (tokens_from l.at 0 (drop l.at l.bytes));
}

abbrev pub decreases-loop-at : goal.decreases-loop-at
decreases-loop-at l = length l.initial.bytes - l.at
