use Rattle.std.proofs.Common.{ap}
use Rattle.cov_edit.specs.Variant.{Variant}
use Rattle.cov_history.proofs.Replays.{replay-seen}
use Rattle.cov_history.proofs.kept_laws.lines_follow_replay.Goals as goal

pub returns : goal.returns
returns c = λ choice p history. ap (λ (v : Variant). v.lines) (replay-seen choice p history)
