use Rattle.cov_visible.proofs.CallerLemmas.{front-rising}
use Rattle.cov_engine.proofs.installing.cut_off.Goals as goal

pub unstage-requires : goal.unstage-requires
unstage-requires c = record { rising = front-rising c.count_below-files.result c.args.visible.now.files c.requires.rising }
