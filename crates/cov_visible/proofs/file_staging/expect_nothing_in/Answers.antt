use Rattle.cov_visible.proofs.StoredFiles.{set-contents}
use Rattle.cov_visible.proofs.file_staging.expect_nothing_in.Goals as goal

pub returns-in-Some : goal.returns-in-Some
returns-in-Some c = set-contents c.args.files.now c.in-Some.at c.index-files-at.result c.expect_nothing.new.self c.expect_nothing.ensures
