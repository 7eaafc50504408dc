use Rattle.std.proofs.Common.{length, ap, subst, sym, ◌∙◌, arith}
use Rattle.cov_dd.proofs.CallerLemmas.{extends_trans}
use Rattle.cov_rules.specs.Completion.{answer_of, has_any}
use Rattle.cov_rules.specs.Lefts.{choices_left, Closes, IsClosed}
use Rattle.cov_rules.proofs.Closing.{one_left, left_more, bound_more, ahead_more}
use Rattle.cov_rules.proofs.lefts.Left.only.Goals as goal

pub returns-in-Ok-None-clause-extends : goal.returns-in-Ok-None-clause-extends
returns-in-Ok-None-clause-extends c = extends_trans c.args.table.now c.loop-number.table c.close.new.table c.loop-number.invariant.extends c.close.ensures.extends

pub returns-in-Err-clause-extends : goal.returns-in-Err-clause-extends
returns-in-Err-clause-extends c = extends_trans c.args.table.now c.loop-number.table c.close.new.table c.loop-number.invariant.extends c.close.ensures.extends

pub loop-number-preserved : goal.loop-number-preserved
loop-number-preserved c =
    let us = c.loop-number.table in
    let left = c.loop-number.left in
    let n = length c.args.self.now.bound in
    let cs = choices_left c.args.table.now c.args.self.now in
    let closed : IsClosed us c.close.new.table left c.new-option.result c.in-Ok-Some.closed = subst (Closes us c.close.new.table left c.new-option.result) c.in-Ok-Some.field-0-is c.in-Ok-Some.ensures.closes in
    record {
      extends = extends_trans c.args.table.now us c.close.new.table c.loop-number.invariant.extends c.close.ensures.extends;
      left = left_more us c.close.new.table left c.in-Ok-Some.closed c.new-option.result c.loop-number.number n cs c.loop-number.invariant.left c.new-option.ensures closed;
      bound = bound_more us c.close.new.table left c.in-Ok-Some.closed c.new-option.result c.loop-number.number n cs c.loop-number.invariant.left c.new-option.ensures closed c.loop-number.invariant.bound;
      ahead = ahead_more us c.close.new.table left c.in-Ok-Some.closed c.new-option.result c.loop-number.number n cs c.loop-number.invariant.left c.new-option.ensures closed
          (omega (arith, c.loop-number-test.true, c.count-count.ensures.count)) c.loop-number.invariant.ahead;
    }

pub returns-clause-complete : goal.returns-clause-complete
returns-clause-complete c =
    let n = length c.args.self.now.bound in
    let cs = choices_left c.args.table.now c.args.self.now in
    let is = c.loop-number.invariant.left in
    let alone = one_left c.loop-number.table c.loop-number.left is.sound
    (λ o lt. c.loop-number.invariant.bound o (omega (arith, lt, is.count, c.loop-number-test.false, c.count-count.ensures.count))) (ap has_any is.choices ∙ c.requires.some) in
    ap (answer_of n) (sym is.choices ∙ alone)
