use Rattle.std.proofs.Common.{subst}
use Rattle.cov_values.specs.Replaced.{IsReplacedTo}
use Rattle.cov_values.specs.Values.{HaveValues}
use Rattle.cov_values.proofs.Valued.{valued_before}
use Rattle.cov_values.proofs.Valued.{all-none, all-with}
use Rattle.cov_values.proofs.values.Values.renumbered.Goals as goal

pub loop-ahead-preserved : goal.loop-ahead-preserved
loop-ahead-preserved c = record {
  replaced = λ f agrees rest.
      c.loop-ahead.invariant.replaced f (c.put_replaced.ensures.grows f agrees)
      (all-with (IsReplacedTo c.args.by.now f) c.loop-ahead.ahead.now _ c.in-len1-up.len_at_least (c.put_replaced.ensures.value c.if-not-put_replaced.false f agrees) rest);
}

pub returns : goal.returns
returns c = λ f agrees.
    let have = subst HaveValues c.self.view_is c.self.invariant in
    valued_before c.args.by.now f have.0 c.args.self.now agrees.0 have.1
    (c.loop-ahead.invariant.replaced f agrees (all-none (IsReplacedTo c.args.by.now f) c.loop-ahead.ahead.now c.in_default.len_below))
