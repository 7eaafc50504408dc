use Rattle.std.proofs.Common.{ap, refl, sym, subst, ◌∙◌}
use Rattle.std.proofs.lemmas.Result.{IfErr-weaker, IfOk-weaker}
use Rattle.cov_edit.specs.History.{option_count, constraints_of, preferences_of, defaults_of}
use Rattle.cov_rules.specs.Completion.{literals, IsRefusalBy}
use Rattle.cov_rules.proofs.CallerLemmas.{completed_is_valid}
use Rattle.cov_engine.specs.States.{EngineValue}
use Rattle.cov_engine.proofs.Holdings.{held-grown}
use Rattle.cov_engine.proofs.States.{state-grown, completed-there}
use Rattle.cov_engine.proofs.engine.Engine.complete.Goals as goal

pub invariant_of-self : goal.invariant_of-self
invariant_of-self c = (
  (
    state-grown c.self.inside.state.commands.commands c.self.inside.state.options.names c.self.inside.state.visible.table c.complete.new.table
        c.self.inside.state.rules.standing c.self.inside.state.rules.standing c.self.inside.state.counts c.self.invariant.0.0 c.complete.ensures.extends refl,
    c.self.invariant.0.1,
    c.self.invariant.0.2,
  ),
  held-grown c.self.inside.state.commands.commands c.self.inside.state.visible.table c.complete.new.table c.self.inside.state.index.commits.items
      c.self.inside.state.index.file_of_line.items c.self.inside.state.visible.entries c.self.inside.state.visible.files c.self.invariant.1 c.complete.ensures.extends,
)

pub returns-clause-answer : goal.returns-clause-answer
returns-clause-answer c =
    let history = c.args.self.now.history in
    let there = completed-there c.args.self.now c.self.inside.state.commands.commands c.self.inside.state.options.names c.self.inside.state.visible.table c.self.inside.state.rules.standing
    c.self.inside.state.counts c.count-count.result c.args.partial.now (ap (λ (e : EngineValue). e.history) c.self.view_is) c.self.invariant.0.0 c.count-count.ensures.count in
    IfOk-weaker c.complete.result _ _
    (λ choice e. completed_is_valid (option_count history) (constraints_of history) (preferences_of history) (literals (defaults_of history)) c.args.partial.now choice (sym there ∙ e)) c.complete.ensures.complete

pub returns-clause-refused : goal.returns-clause-refused
returns-clause-refused c =
    let there = completed-there c.args.self.now c.self.inside.state.commands.commands c.self.inside.state.options.names c.self.inside.state.visible.table c.self.inside.state.rules.standing
    c.self.inside.state.counts c.count-count.result c.args.partial.now (ap (λ (e : EngineValue). e.history) c.self.view_is) c.self.invariant.0.0 c.count-count.ensures.count in
    IfErr-weaker c.complete.result _ _ (λ fault refused. subst (λ a. IsRefusalBy a fault) there refused) c.complete.ensures.refused
