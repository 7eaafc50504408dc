use Rattle.cov_visible.proofs.CallerLemmas.{front-contents, staged-rising}
use Rattle.cov_engine.proofs.staging.stage.Goals as goal

pub add_rooms-requires-clause-rising : goal.add_rooms-requires-clause-rising
add_rooms-requires-clause-rising c = staged-rising c.args.visible.now.files c.stage.new.self _ c.in_ok-stage.ensures.ok c.requires.rising

pub returns-clause-front_files : goal.returns-clause-front_files
returns-clause-front_files c = front-contents c.args.visible.now.files c.stage.new.self c.add_rooms.new.self c.in_ok-stage.ensures.front c.add_rooms.ensures.same
