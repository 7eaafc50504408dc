use Rattle.std.proofs.Common.{◌≡◌, false, sym, ap, ◌∙◌, arith}
use Rattle.std.specs.Prelude.{is_none}
use Rattle.cov_expr.specs.Partials.{bound_value}
use Rattle.cov_hist.proofs.Staying.{find-later}
use Rattle.cov_hist.proofs.values.first_open.Goals as goal

pub loop-number-preserved : goal.loop-number-preserved
loop-number-preserved c =
    let partial = c.args.partial.now in
    let less = c.loop-number-test.true in
    let bound : is_none (bound_value partial c.loop-number.number) ≡ false =
    ap (λ o. is_none (bound_value partial o)) (sym c.new-option.ensures) ∙ ap is_none (sym c.get.ensures ∙ c.in-Some.is) in
    record {
      within = omega (arith, less);
      unbound = find-later (λ option. is_none (bound_value partial option)) c.loop-number.number c.args.count (omega (arith, less)) bound ∙ c.loop-number.invariant.unbound;
    }
