use Rattle.std.proofs.Common.{◌∙◌}
use Rattle.cov_visible.proofs.StoredFiles.{set-contents}
use Rattle.cov_visible.proofs.file_parts.expect_nothing_from.Goals as goal

pub loop-at-preserved : goal.loop-at-preserved
loop-at-preserved c = record {
  same = set-contents c.loop-at.files c.loop-at.at c.index-files-at.result c.expect_nothing.new.self c.expect_nothing.ensures ∙ c.loop-at.invariant.same;
}
