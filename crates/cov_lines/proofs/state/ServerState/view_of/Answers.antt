use Rattle.std.proofs.Common.{ap}
use Rattle.cov_lines.specs.States.{Serving}
use Rattle.cov_lines.proofs.Growing.{is-named}
use Rattle.cov_lines.proofs.state.ServerState.view_of.Goals as goal

pub returns-clause-found : goal.returns-clause-found
returns-clause-found c =
    is-named c.args.self.now.state c.self.inside.engine.history c.self.inside.sessions c.self.inside.trees c.args.name.now c.in_ok-view.field-0.now (ap (λ (v : Serving). v.state) c.self.view_is) c.self.invariant c.in_ok-view.ensures.view
