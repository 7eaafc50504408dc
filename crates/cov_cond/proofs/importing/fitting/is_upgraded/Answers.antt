use Rattle.std.proofs.Common.{◌≡◌, ◌+◌, ◌-◌, refl, sym, ap, ◌∙◌, arith}
use Rattle.std.specs.Prelude.{slice_get}
use Rattle.cov_cond.proofs.Upgrades.{upgrade-here, upgrade-later}
use Rattle.cov_cond.proofs.importing.fitting.is_upgraded.Goals as goal

pub returns-then-is_upgrade : goal.returns-then-is_upgrade
returns-then-is_upgrade c =
    let history = c.args.engine.now.history in
    let before = c.loop-before.before in
    let there : c.new.result - 1 ≡ before = omega (arith, c.new.ensures) in
    sym
    (sym c.loop-before.invariant.1
    ∙ upgrade-here history before (before + 1) c.command.result.now (ap (slice_get history) (sym there) ∙ c.command.ensures) refl (sym c.is_upgrade.ensures ∙ c.if-is_upgrade.true))

pub loop-before-preserved : goal.loop-before-preserved
loop-before-preserved c =
    let history = c.args.engine.now.history in
    let before = c.loop-before.before in
    let there : c.new.result - 1 ≡ before = omega (arith, c.new.ensures) in
    let more = c.loop-before-test.true in (
      omega (arith, more),
      upgrade-later history before (before + 1) c.command.result.now (ap (slice_get history) (sym there) ∙ c.command.ensures) refl (sym c.is_upgrade.ensures ∙ c.if-is_upgrade.false) ∙ c.loop-before.invariant.1,
    )
