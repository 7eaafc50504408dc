use Rattle.std.proofs.Common.{take, subst}
use Rattle.cov_edit.specs.Replay.{replay}
use Rattle.cov_visible.specs.Reading.{IsFileAmong, IsFileAt}
use Rattle.cov_engine.specs.States.{EngineValue}
use Rattle.cov_engine.proofs.engine.Engine.file_at.Goals as goal

pub returns : goal.returns
returns c =
    subst (λ (e : EngineValue). IsFileAt (replay c.args.choice (take c.args.at e.history)) c.args.path.now c.file_at.result) c.self.view_is
    (subst (λ rows. IsFileAmong rows c.args.path.now c.file_at.result) (c.self.invariant.1.of_entries.rows c.args.choice c.args.at) c.file_at.ensures)
