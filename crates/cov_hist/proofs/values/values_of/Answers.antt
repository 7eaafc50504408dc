use Rattle.std.proofs.Common.{length, ap, ◌∙◌, arith}
use Rattle.cov_base.specs.Choices.{with_option}
use Rattle.cov_hist.specs.Past.{is_bound_on}
use Rattle.cov_hist.proofs.Staying.{filled-all, filled-length, filled-more, filled-none}
use Rattle.cov_hist.proofs.values.values_of.Goals as goal

pub loop-number-init : goal.loop-number-init
loop-number-init c = record { within = omega arith; is = c.new-choice.ensures ∙ filled-none (is_bound_on c.args.partial.now) c.args.count }

pub with-choice-requires : goal.with-choice-requires
with-choice-requires c =
    let long = ap length c.loop-number.invariant.is ∙ filled-length (is_bound_on c.args.partial.now) c.args.count c.loop-number.number c.loop-number.invariant.within in
    let option = c.new-option.ensures in
    let less = c.loop-number-test.true in
    omega (arith, long, option, less)

pub loop-number-preserved : goal.loop-number-preserved
loop-number-preserved c =
    let f = is_bound_on c.args.partial.now in
    let less = c.loop-number-test.true in
    record {
      within = omega (arith, less);
      is = c.with-choice.ensures ∙ ap (λ o. with_option c.loop-number.choice o c.is_bound_on.result) c.new-option.ensures
          ∙ filled-more f c.args.count c.loop-number.number c.loop-number.choice c.is_bound_on.result (omega (arith, less)) c.loop-number.invariant.is (c.is_bound_on.ensures ∙ ap f c.new-option.ensures);
    }

pub returns : goal.returns
returns c =
    let done = c.loop-number-test.false in
    filled-all (is_bound_on c.args.partial.now) c.args.count c.loop-number.number c.loop-number.choice (omega (arith, done)) c.loop-number.invariant.within c.loop-number.invariant.is
