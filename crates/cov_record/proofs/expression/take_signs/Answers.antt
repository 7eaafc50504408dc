use Rattle.std.proofs.Common.{◌∙◌, ◌-◌, ◌+◌, sym, ap, arith}
use Rattle.cov_base.specs.declared.limits.TheConstants.{MOST_PARTS}
use Rattle.cov_record.specs.Reading.{front_forest, onto}
use Rattle.cov_record.proofs.Signs.{forest_more, onto_nil}
use Rattle.cov_record.proofs.expression.take_signs.Goals as goal

pub signs-init : goal.signs-init
signs-init c = record {
  whole = sym (ap (λ ss. onto ss (front_forest MOST_PARTS 1 c.args.ahead.now)) c.requires ∙ onto_nil (front_forest MOST_PARTS 1 c.args.ahead.now));
  few = omega arith;
}

pub signs-preserved : goal.signs-preserved
signs-preserved c = record {
  whole =
      c.signs.invariant.whole
      ∙ forest_more c.signs.room c.signs.need (c.signs.need - 1 + c.width-more.result) (c.signs.room - 1) c.signs.ahead c.take_sign.new.ahead c.in-Some.sign c.signs.signs.items
      (omega (arith, c.if-room-eq0.false)) (omega (arith, c.signs-test.true)) (omega (arith, c.signs-test.true, c.width-more.ensures.width)) c.in-Some.ensures
      ∙ ap (λ ss. onto ss (front_forest (c.signs.room - 1) (c.signs.need - 1 + c.width-more.result) c.take_sign.new.ahead)) (sym c.in-Ok.ensures.items);
  few = omega (arith, c.signs.invariant.few, c.width-more.ensures.most, c.signs-test.true, c.if-room-eq0.false);
}
