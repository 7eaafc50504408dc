use Rattle.std.proofs.Common.{◌<◌, ◌∙◌, is_some, length, take, sym, ap, None, arith}
use Rattle.std.proofs.lemmas.Grind.{common_steps}
use Rattle.std.proofs.lemmas.List.{take_all, length-set}
use Rattle.std.proofs.lemmas.List.FromFn.{fill_by_all}
use Rattle.cov_expr.specs.Partials.{bound_value}
use Rattle.cov_expr.specs.Binding.{first_repeated}
use Rattle.cov_expr.proofs.Gathering.{first_again_here, first_again_later, value_set}
use Rattle.cov_expr.proofs.binding.fill.Goals as goal

pub returns-then-is_some-clause-repeated : goal.returns-then-is_some-clause-repeated
returns-then-is_some-clause-repeated c =
    let below : c.number.result < length c.loop-option.values = grind (arith, common_steps) in
    first_again_here c.args.bindings.now c.loop-option.option-index c.loop-option-item.result (omega arith) c.loop-option-item.is (first_repeated c.args.bindings.now) c.loop-option.invariant.1
    (ap (λ n. is_some (bound_value (take c.loop-option.option-index c.args.bindings.now) n)) (sym c.number.ensures.number) ∙ ap is_some (sym (c.loop-option.invariant.0 c.number.result below)) ∙ sym c.is_some.ensures ∙ c.if-is_some.true)

pub loop-option-preserved : goal.loop-option-preserved
loop-option-preserved c =
    let below : c.number.result < length c.loop-option.values = grind (arith, common_steps) in
    let new = ap (λ n. is_some (bound_value (take c.loop-option.option-index c.args.bindings.now) n)) (sym c.number.ensures.number) ∙ ap is_some (sym (c.loop-option.invariant.0 c.number.result below)) ∙ sym c.is_some.ensures ∙ c.if-is_some.false in (
      λ k within. value_set c.args.bindings.now c.loop-option.option-index c.loop-option-item.result (omega arith) c.loop-option-item.is new c.loop-option.values c.number.result c.number.ensures.number c.loop-option.invariant.0 k within (simp length-set at within),
      first_again_later c.args.bindings.now c.loop-option.option-index c.loop-option-item.result (omega arith) c.loop-option-item.is new (first_repeated c.args.bindings.now) c.loop-option.invariant.1,
    )

pub returns-clause-values : goal.returns-clause-values
returns-clause-values c =
    fill_by_all (bound_value c.args.bindings.now) c.loop-option.values (length c.args.values.now) None c.loop-option.auto.values
    (λ k below. c.loop-option.invariant.0 k (omega (arith, below)) ∙ ap (λ bs. bound_value bs k) (take_all c.loop-option.option-index c.args.bindings.now c.loop-option-test.false))
