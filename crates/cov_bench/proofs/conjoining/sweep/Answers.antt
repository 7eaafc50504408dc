use Rattle.cov_bench.proofs.Sweeping.{swept_within}
use Rattle.cov_bench.proofs.conjoining.sweep.Goals as goal

pub loop-preserved : goal.loop-preserved
loop-preserved c = swept_within c.loop.table c.sweep.new.self c.loop.nodes c.sweep.new.roots c.in_ok-sweep.ensures.roots
