use Rattle.std.proofs.Common.{take, ap, ◌∙◌}
use Rattle.cov_base.specs.Rows.{is_present}
use Rattle.cov_edit.specs.Replay.{replay}
use Rattle.cov_engine.specs.States.{EngineValue}
use Rattle.cov_engine.proofs.engine.Engine.has_node.Goals as goal

pub returns : goal.returns
returns c =
    c.has_node.ensures
    ∙ ap (λ rows. is_present rows c.args.node) (c.self.invariant.1.of_entries.rows c.args.choice c.args.at)
    ∙ ap (λ (v : EngineValue). is_present (replay c.args.choice (take c.args.at v.history)).rows c.args.node) c.self.view_is
