use Rattle.std.proofs.Common.{arith}
use Rattle.cov_analyse.proofs.LeastNumbers.{all_least, all_steps, further, none_measured}
use Rattle.cov_analyse.proofs.measuring.measure_all.Goals as goal

pub loop-index-init : goal.loop-index-init
loop-index-init c = record {
  few = omega arith;
  count = c.requires.count;
  measured = none_measured c.args.entries.now c.args.choice c.args.numbers.now c.requires.none;
  done = λ j h. absurd (omega (arith, h));
}

pub measure-requires-clause-steps : goal.measure-requires-clause-steps
measure-requires-clause-steps c = all_steps c.args.entries.now c.loop-index.index (omega (arith, c.loop-index-test.true))

pub loop-index-preserved : goal.loop-index-preserved
loop-index-preserved c = record {
  few = omega (arith, c.loop-index-test.true);
  count = c.measure.ensures.count;
  measured = c.measure.ensures.measured;
  done = further c.loop-index.numbers c.measure.new.numbers c.loop-index.index c.measure.ensures.kept c.loop-index.invariant.done c.measure.ensures.child;
}

pub returns : goal.returns
returns c =
    all_least c.args.entries.now c.args.choice c.loop-index.numbers c.loop-index.index c.loop-index.invariant.count
    (omega (arith, c.loop-index-test.false, c.loop-index.invariant.count)) c.loop-index.invariant.done c.loop-index.invariant.measured
