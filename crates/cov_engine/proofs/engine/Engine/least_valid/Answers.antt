use Rattle.std.proofs.Common.{refl}
use Rattle.cov_engine.proofs.Holdings.{held-grown}
use Rattle.cov_engine.proofs.States.{state-grown}
use Rattle.cov_engine.proofs.engine.Engine.least_valid.Goals as goal

pub invariant_of-self : goal.invariant_of-self
invariant_of-self c = (
  (
    state-grown c.self.inside.state.commands.commands c.self.inside.state.options.names c.self.inside.state.visible.table c.first_meeting.new.table
        c.self.inside.state.rules.standing c.self.inside.state.rules.standing c.self.inside.state.counts c.self.invariant.0.0 c.first_meeting.ensures.extends refl,
    c.self.invariant.0.1,
    c.self.invariant.0.2,
  ),
  held-grown c.self.inside.state.commands.commands c.self.inside.state.visible.table c.first_meeting.new.table c.self.inside.state.index.commits.items
      c.self.inside.state.index.file_of_line.items c.self.inside.state.visible.entries c.self.inside.state.visible.files c.self.invariant.1 c.first_meeting.ensures.extends,
)
