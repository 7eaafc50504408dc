use Rattle.sha2.specs.Hashers.{Holds256}
use Rattle.cov_view.proofs.Feeding.{feed_more}
use Rattle.cov_view.proofs.hashing.feed_rows.Goals as goal

pub loop-ahead-preserved : goal.loop-ahead-preserved
loop-ahead-preserved c = record {
  fed = feed_more c.args.rows.now c.loop-ahead.ahead.now c.first-item.result c.first-item.result (Holds256 c.args.hasher.now) (Holds256 c.loop-ahead.hasher) (Holds256 c.feed_row.new.hasher)
      c.first-item.is c.in-len1-up.len_at_least c.feed_row.ensures c.loop-ahead.invariant.fed;
}
