use Rattle.std.proofs.Common.{◌∙◌, arith}
use Rattle.cov_loop.proofs.CallerLemmas.{given_then}
use Rattle.cov_serve.proofs.Feeding.{feeds_last, feeds_more}
use Rattle.cov_serve.proofs.journal_source.feed_all.Goals as goal

pub returns-then-count-eq0-clause-fed : goal.returns-then-count-eq0-clause-fed
returns-then-count-eq0-clause-fed g c text left =
    feeds_last text c.args.replica.now c.pieces.replica c.feed_next.new.replica (g.S.Source.left c.pieces.source) (g.S.Source.left c.feed_next.new.source) c.in_ok-count.count
    (c.pieces.invariant.fed text left) (λ rest is. c.in_ok-count.ensures.fed rest is) c.if-count-eq0.true

pub pieces-preserved : goal.pieces-preserved
pieces-preserved g c =
    let before = c.pieces.invariant in
    let now = c.in_ok-count.ensures in
    record {
      few = omega (arith, c.pieces-test.true, now.bound);
      counted = omega (arith, before.counted, now.given);
      unended = now.ends c.if-count-eq0.false ∙ before.unended;
      later = omega (arith, before.later, c.feed_next.ensures.later);
      left = given_then (g.S.Source.left c.args.source.now) (g.S.Source.left c.pieces.source) (g.S.Source.left c.feed_next.new.source)
          (g.S.Source.given c.args.source.now) (g.S.Source.given c.pieces.source) (g.S.Source.given c.feed_next.new.source) before.left c.feed_next.ensures.left;
      fed = λ text is.
          feeds_more text c.args.replica.now c.pieces.replica c.feed_next.new.replica (g.S.Source.left c.pieces.source) (g.S.Source.left c.feed_next.new.source) c.in_ok-count.count
          (before.fed text is) (λ rest e. now.fed rest e);
    }
