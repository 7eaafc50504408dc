use Rattle.std.proofs.Common.{sym, subst}
use Rattle.cov_visible.specs.Carrying.{CanCarryOutAll, AreAllCarriedOut}
use Rattle.cov_visible.proofs.CallerLemmas.{all-carried-rising}
use Rattle.cov_engine.proofs.staging.install.Goals as goal

pub carry_out_all-requires-clause-can : goal.carry_out_all-requires-clause-can
carry_out_all-requires-clause-can c = subst (λ ss. CanCarryOutAll c.args.mark.position ss c.args.visible.now.files) (sym c.from.ensures.0) c.requires.can

pub expect_nothing-requires : goal.expect_nothing-requires
expect_nothing-requires c = record { rising = all-carried-rising c.args.mark.position c.from.result.items c.args.visible.now.files c.carry_out_all.new.self c.carry_out_all.ensures c.requires.rising }

pub returns-clause-files : goal.returns-clause-files
returns-clause-files c = (
  c.carry_out_all.new.self,
  subst (λ ss. AreAllCarriedOut c.args.mark.position ss c.args.visible.now.files c.carry_out_all.new.self) c.from.ensures.0 c.carry_out_all.ensures,
  c.expect_nothing.ensures,
)
