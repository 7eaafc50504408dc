use Rattle.std.proofs.Common.{map, take, ap, ◌∙◌}
use Rattle.std.proofs.lemmas.Result.{IfOk-weaker}
use Rattle.cov_edit.specs.Replay.{replay}
use Rattle.cov_edit.specs.Variant.{lines_of}
use Rattle.cov_visible.specs.Reading.{line_row}
use Rattle.cov_engine.specs.States.{EngineValue}
use Rattle.cov_engine.proofs.LinesRead.{lines-read}
use Rattle.cov_engine.proofs.Wholes.{held-rise}
use Rattle.cov_engine.proofs.engine.Engine.lines_at.Goals as goal

pub lines_at-requires : goal.lines_at-requires
lines_at-requires c = record { rising = held-rise c.self.inside.state.commands.commands c.self.inside.state.visible.table c.self.inside.state.index.commits.items c.self.inside.state.index.file_of_line.items c.self.inside.state.visible.entries c.self.inside.state.visible.files c.self.invariant.1 }

pub returns : goal.returns
returns c =
    let state = c.self.inside.state in
    let own = lines-read state.commands.commands state.visible.table state.index.commits.items state.index.file_of_line.items state.visible.entries state.visible.files c.self.invariant.0.0.legal c.self.invariant.1
    c.args.choice c.args.at c.args.file in
    IfOk-weaker c.lines_at.result _ _ (λ rows e. e ∙ own ∙ ap (λ (v : EngineValue). map line_row (lines_of (replay c.args.choice (take c.args.at v.history)) c.args.file)) c.self.view_is) c.lines_at.ensures
