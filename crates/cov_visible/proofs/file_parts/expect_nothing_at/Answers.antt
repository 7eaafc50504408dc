use Rattle.std.proofs.Common.{◌∙◌}
use Rattle.cov_visible.proofs.StoredFiles.{same-rising}
use Rattle.cov_visible.proofs.file_parts.expect_nothing_at.Goals as goal

pub loop-ahead-preserved : goal.loop-ahead-preserved
loop-ahead-preserved c = record {
  same = c.expect_nothing_in.ensures ∙ c.loop-ahead.invariant.same;
  rising = same-rising c.loop-ahead.files c.expect_nothing_in.new.files c.expect_nothing_in.ensures c.loop-ahead.invariant.rising;
}
