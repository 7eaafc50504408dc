use Rattle.std.proofs.Common.{arith}
use Rattle.cov_rules.proofs.Closing.{only_left}
use Rattle.cov_rules.proofs.lefts.Left.whole.Goals as goal

pub returns : goal.returns
returns c ts s = only_left ts c.args.self.now s (λ o lt. c.loop-number.invariant.bound o (omega (arith, lt, c.loop-number-test.false, c.count-number-end.ensures.count))) c.if-self-ne-TRUE.false
