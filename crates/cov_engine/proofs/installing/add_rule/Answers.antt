use Rattle.std.proofs.Common.{refl, sym, ◌∙◌, ap, ◌+◌}
use Rattle.cov_engine.proofs.OptionPositions.{positions-rule}
use Rattle.cov_engine.proofs.States.{rule-alone, rule-installed, rule-raises_none, upgraded-kept}
use Rattle.cov_engine.proofs.Holdings.{held-declared}
use Rattle.cov_engine.proofs.installing.add_rule.Goals as goal

pub returns-clause-kept : goal.returns-clause-kept
returns-clause-kept c = (
  (
    rule-installed c.args.state.now.commands.commands c.args.command.now c.args.rule c.args.plan c.new-at.result c.args.state.now.options.names c.args.state.now.visible.table c.args.state.now.rules.standing
        c.install.new.self.standing c.args.state.now.counts c.requires.prepared.1.1.0 c.requires.prepared.0.fits c.requires.prepared.0.accepted (c.new-at.ensures ∙ ap (λ n. n + 1) c.len.ensures) c.requires.prepared.1.0.0
        c.requires.prepared.1.1.1.nodes c.install.ensures.follows c.install.ensures.holds c.install.ensures.below,
    positions-rule c.args.state.now.commands.commands c.args.command.now c.args.rule c.args.state.now.option_positions c.requires.prepared.1.1.0 c.requires.prepared.1.0.1,
    c.requires.prepared.1.0.2 ∙ sym (upgraded-kept c.args.state.now.commands.commands c.args.command.now (rule-raises_none c.args.command.now c.args.rule c.requires.prepared.1.1.0)),
  ),
  held-declared c.args.state.now.commands.commands _ c.args.command.now _ _ _ _ _ c.requires.prepared.1.1.2 (rule-alone c.args.command.now c.args.rule c.requires.prepared.1.1.0) refl,
)
