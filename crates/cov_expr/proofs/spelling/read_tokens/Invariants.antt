use Rattle.std.proofs.Common.{◌≡◌, ◌-◌, ◌≤◌, List, length, drop}
use Rattle.std.specs.Prelude.{Some}
use Rattle.cov_expr.specs.Reading.{start, run, read_lexed}
use Rattle.cov_expr.specs.Readings.{state_of}
use Rattle.cov_expr.specs.FrontReads.{HasTokens}
use Rattle.cov_expr.specs.Tokens.{tokens_of, tokens_from}
use Rattle.cov_expr.specs.declared.token.Token.{Token}
use Rattle.cov_expr.proofs.spelling.read_tokens.Given as goal

abbrev pub invariant-loop-at : goal.invariant-loop-at
invariant-loop-at l = record {
  within : l.at ≤ length l.bytes;
  tokens : HasTokens (tokens_from l.at 0 (drop l.at l.bytes));
  ahead : read_lexed (tokens_of l.bytes) (length l.bytes) start ≡ read_lexed (tokens_from l.at 0 (drop l.at l.bytes)) (length l.bytes) (state_of l.reading);
  led : (ts : List Token) × (length ts ≤ l.at) × (run ts start ≡ Some (state_of l.reading));
}

abbrev pub decreases-loop-at : goal.decreases-loop-at
decreases-loop-at l = length l.initial.bytes - l.at
