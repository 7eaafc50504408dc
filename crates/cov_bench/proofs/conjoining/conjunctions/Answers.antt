use Rattle.std.proofs.Common.{sym, subst, arith}
use Rattle.cov_dd.specs.Diagrams.{diagram_size}
use Rattle.cov_bench.proofs.Sweeping.{one_more, AreBelow}
use Rattle.cov_bench.proofs.conjoining.conjunctions.Goals as goal

pub loop-preserved : goal.loop-preserved
loop-preserved c =
    let last = c.in_ok-all-2.ensures.stands.within in
    record {
      all = last;
      nodes = subst (AreBelow (diagram_size c.and.new.self)) (sym c.in_ok-push.ensures.ok)
          (one_more (diagram_size c.loop.table) (diagram_size c.and.new.self) c.in_ok-all-2.all c.loop.nodes (omega (arith, c.in_ok-one.ensures.grows, c.in_ok-all-2.ensures.entries, c.in_ok-all-2.ensures.extends.count)) c.loop.invariant.nodes last);
    }
