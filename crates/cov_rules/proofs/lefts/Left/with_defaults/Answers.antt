use Rattle.std.proofs.Common.{◌≤◌, ◌+◌, subst, sym, arith}
use Rattle.cov_dd.proofs.CallerLemmas.{extends_trans}
use Rattle.cov_rules.specs.Completion.{fallbacks}
use Rattle.cov_rules.specs.Installing.{literal, reach_of}
use Rattle.cov_rules.specs.declared.rules.Fallback.{Fallback}
use Rattle.cov_rules.proofs.Closing.{fallback_at, wish_more}
use Rattle.cov_rules.proofs.lefts.Left.with_defaults.Goals as goal

pub with_default-requires-clause-option : goal.with_default-requires-clause-option
with_default-requires-clause-option c =
    let reaches = subst (λ (d : Fallback). d.option + 1 ≤ reach_of (fallbacks c.args.defaults.now)) (sym c.default-item.is) (fallback_at c.args.defaults.now c.loop-default.default-index c.default-item.result c.loop-default-test.true) in
    omega (arith, reaches, c.requires.below, c.loop-default.invariant.kept.count)

pub returns-in_err-left-clause-extends : goal.returns-in_err-left-clause-extends
returns-in_err-left-clause-extends c = extends_trans c.args.table.now c.loop-default.table c.with_default.new.table c.loop-default.invariant.extends c.in_err-left.ensures.extends

pub loop-default-preserved : goal.loop-default-preserved
loop-default-preserved c = record {
  extends = extends_trans c.args.table.now c.loop-default.table c.with_default.new.table c.loop-default.invariant.extends c.in_ok-left.ensures.extends;
  kept = wish_more (λ (d : Fallback). literal d.option d.on) c.args.defaults.now c.loop-default.default-index c.default-item.result c.loop-default-test.true c.default-item.is
      c.args.table.now c.loop-default.table c.with_default.new.table c.args.self.now c.loop-default.left c.in_ok-left.left c.loop-default.invariant.kept c.in_ok-left.ensures.kept;
}
