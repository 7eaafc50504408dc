use Rattle.std.proofs.Common.{◌≡◌, false, arith}
use Rattle.std.proofs.lemmas.Bool.Decides.{nat_tests}
use Rattle.cov_base.proofs.CallerLemmas.{all-rest}
use Rattle.cov_values.specs.Values.{IsOther}
use Rattle.cov_values.specs.declared.values.Evaluated.{Evaluated}
use Rattle.cov_values.proofs.Valued.{all-none, all-with, first_value}
use Rattle.cov_values.proofs.values.found.Goals as goal

pub returns-then-first-node-clause-known : goal.returns-then-first-node-clause-known
returns-then-first-node-clause-known c = λ f agrees. first_value f c.loop-ahead.ahead.now _ c.args.node c.in-len1-up.len_at_least (c.loop-ahead.invariant.among f agrees) c.if-first-node.true

pub loop-ahead-preserved : goal.loop-ahead-preserved
loop-ahead-preserved c = record {
  among = λ f agrees. let a = c.loop-ahead.invariant.among f agrees in (a.0, all-rest (λ (e : Evaluated). f e.node ≡ e.value) c.loop-ahead.ahead.now a.1);
  others = λ rest. c.loop-ahead.invariant.others (all-with (IsOther c.args.node) c.loop-ahead.ahead.now (record { node = 0; value = false }) c.in-len1-up.len_at_least (grind (arith, nat_tests, c.if-first-node.false)) rest);
}

pub returns-clause-unknown : goal.returns-clause-unknown
returns-clause-unknown c = λ none. c.loop-ahead.invariant.others (all-none (IsOther c.args.node) c.loop-ahead.ahead.now c.in_default.len_below)
