use Rattle.std.proofs.Common.{ap}
use Rattle.cov_engine.specs.States.{EngineValue}
use Rattle.cov_engine.proofs.Views.{visible-shows}
use Rattle.cov_engine.proofs.Wholes.{held-whole}
use Rattle.cov_engine.proofs.engine.Engine.visible.Goals as goal

pub returns-clause-whole : goal.returns-clause-whole
returns-clause-whole c = held-whole c.self.inside.state.commands.commands c.self.inside.state.index.commits.items c.self.inside.state.index.file_of_line.items c.self.inside.state.visible c.self.invariant.1

pub returns-clause-shows : goal.returns-clause-shows
returns-clause-shows c =
    visible-shows c.self.inside.state.commands.commands c.args.self.now.history c.self.inside.state.index.commits.items c.self.inside.state.index.file_of_line.items c.self.inside.state.visible
    c.self.invariant.0.0.legal c.self.invariant.1 (ap (λ (e : EngineValue). e.history) c.self.view_is)
