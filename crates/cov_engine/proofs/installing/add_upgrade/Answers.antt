use Rattle.std.proofs.Common.{[], ◌∷◌, refl, sym, ap}
use Rattle.cov_edit.specs.History.{options_of}
use Rattle.cov_history.specs.Sessions.{has_commit}
use Rattle.cov_engine.specs.States.{receipt_number}
use Rattle.cov_engine.proofs.OptionPositions.{positions-same}
use Rattle.cov_engine.proofs.States.{upgrade-installed, upgraded-now}
use Rattle.cov_engine.proofs.Holdings.{held-declared}
use Rattle.cov_engine.proofs.installing.add_upgrade.Goals as goal

pub returns-clause-kept : goal.returns-clause-kept
returns-clause-kept c =
    let history = c.args.state.now.commands.commands in
    let k = c.args.command.now in
    let is = c.requires.prepared.1.1.0 in (
      (
        upgrade-installed history k c.args.state.now.options.names c.args.state.now.visible.table c.args.state.now.rules.standing c.args.state.now.counts
            is c.requires.prepared.0.fits c.requires.prepared.0.accepted c.requires.prepared.1.0.0,
        positions-same history k c.args.state.now.option_positions (ap (λ j. options_of (j ∷ [])) is) c.requires.prepared.1.0.1,
        sym (upgraded-now history k is),
      ),
      held-declared history _ k _ _ _ _ _ c.requires.prepared.1.1.1 (ap (λ j. has_commit (j ∷ [])) is) refl,
    )

pub returns-clause-number : goal.returns-clause-number
returns-clause-number c = ap (receipt_number c.args.state.now.commands.commands) (sym c.requires.prepared.1.1.0)
