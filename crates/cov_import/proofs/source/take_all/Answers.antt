use Rattle.std.proofs.Common.{rules}
use Rattle.cov_loop.specs.Turns.{ahead_of}
use Rattle.cov_loop.proofs.CallerLemmas.{counted_then, given_then}
use Rattle.cov_import.proofs.Keeping.{begins, keeps_all, keeps_on, left_is_empty}
use Rattle.cov_import.proofs.source.take_all.Goals as goal

pub taking-init : goal.taking-init
taking-init g c = record {
  kept = λ text before ahead is. begins before text c.args.kept.now (ahead_of c.args.lines.now (g.S.Source.left c.args.source.now)) ahead is;
  counted = search rules;
  left = search rules;
}

pub taking-preserved : goal.taking-preserved
taking-preserved g c = record {
  kept = λ text before ahead is.
      keeps_on c.take_next.new.kept (ahead_of c.take_next.new.lines (g.S.Source.left c.take_next.new.source)) (c.taking.invariant.kept text before ahead is)
      (λ t a. rw c.in-true.is at (c.in-Ok.ensures.takes t a));
  counted = counted_then c.taking.invariant.counted c.take_next.ensures.counted;
  left = given_then (g.S.Source.left c.args.source.now) (g.S.Source.left c.taking.source) (g.S.Source.left c.take_next.new.source)
      (g.S.Source.given c.args.source.now) (g.S.Source.given c.taking.source) (g.S.Source.given c.take_next.new.source)
      c.taking.invariant.left c.take_next.ensures.left;
}

pub returns-in-false-clause-kept : goal.returns-in-false-clause-kept
returns-in-false-clause-kept g c text before ahead is =
    let left = g.S.Source.left c.take_next.new.source in
    let all = keeps_all c.take_next.new.kept (ahead_of c.take_next.new.lines left) (c.taking.invariant.kept text before ahead is) (λ t a. rw c.in-false.is at (c.in-Ok.ensures.takes t a)) in
    (all.0, left_is_empty c.take_next.new.lines left all.1)

pub returns-in-false-clause-counted : goal.returns-in-false-clause-counted
returns-in-false-clause-counted g c = counted_then c.taking.invariant.counted c.take_next.ensures.counted

pub returns-in-Err-clause-counted : goal.returns-in-Err-clause-counted
returns-in-Err-clause-counted g c = counted_then c.taking.invariant.counted c.take_next.ensures.counted
