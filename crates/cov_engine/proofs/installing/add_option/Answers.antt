use Rattle.std.proofs.Common.{[], ◌∷◌, ◌+◌, length, refl, sym, ap, ◌∙◌, arith}
use Rattle.cov_edit.specs.Limits.{is_upgraded}
use Rattle.cov_history.specs.Sessions.{has_commit}
use Rattle.cov_engine.proofs.OptionPositions.{positions-count, positions-option}
use Rattle.cov_engine.proofs.States.{option-installed, options-below, upgraded-kept}
use Rattle.cov_engine.proofs.Holdings.{held-declared}
use Rattle.cov_engine.proofs.installing.add_option.Goals as goal

pub push-requires : goal.push-requires
push-requires c =
    let history = c.args.state.now.commands.commands in
    let same = ap length c.requires.prepared.1.0.1 ∙ positions-count 0 history in
    let few = options-below history c.args.command.now c.args.name c.requires.prepared.1.1.0 c.requires.prepared.0.accepted in
    omega (arith, same, few)

pub returns-clause-kept : goal.returns-clause-kept
returns-clause-kept c = (
  (
    option-installed c.args.state.now.commands.commands c.args.command.now c.args.name c.args.state.now.options.names c.declare.new.self.names c.args.state.now.visible.table c.args.state.now.rules.standing
        c.args.state.now.counts c.requires.prepared.1.1.0 c.requires.prepared.0.fits c.requires.prepared.0.accepted c.requires.prepared.1.0.0 c.declare.ensures.names,
    positions-option c.args.state.now.commands.commands c.args.command.now c.args.name c.new-at.result c.args.state.now.option_positions c.push.new.self c.requires.prepared.1.1.0
        (c.new-at.ensures ∙ ap (λ n. n + 1) c.len.ensures) c.requires.prepared.1.0.1 c.push.ensures,
    c.requires.prepared.1.0.2 ∙ sym (upgraded-kept c.args.state.now.commands.commands c.args.command.now (ap (λ k. is_upgraded (k ∷ [])) c.requires.prepared.1.1.0)),
  ),
  held-declared c.args.state.now.commands.commands _ c.args.command.now _ _ _ _ _ c.requires.prepared.1.1.2 (ap (λ k. has_commit (k ∷ [])) c.requires.prepared.1.1.0) refl,
)
