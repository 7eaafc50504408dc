use Rattle.std.proofs.Common.{◌∙◌, subst}
use Rattle.cov_io.specs.Devices.{AppendsAll, AppendsSome}
use Rattle.cov_lines.specs.Step.{step}
use Rattle.cov_serve.specs.Replicas.{PutsAnswer}
use Rattle.cov_serve.proofs.Replicas.{puts_both, puts_none, puts_part}
use Rattle.cov_serve.proofs.replica.put_both.Goals as goal

pub returns-in-Ok-put-clause-puts : goal.returns-in-Ok-put-clause-puts
returns-in-Ok-put-clause-puts g c history =
    let line = c.args.line.now in
    let old = c.args.out.now in
    let mid = c.put.new.self in
    let new = c.put_answer.new.out in
    let trees = c.args.trees.now in
    let trees' = c.put_answer.new.trees in
    puts_both line c.args.reader.now.history history (g.K.Sink.written old) (g.K.Sink.written mid) (g.K.Sink.written new) (g.T.Trees.rows trees) (g.T.Trees.rows trees')
    (g.K.Sink.faults old) (g.K.Sink.faults mid) (g.K.Sink.faults new) (g.T.Trees.faults trees) (g.T.Trees.faults trees')
    (subst (λ t. AppendsAll t (g.K.Sink.written old) (g.K.Sink.written mid)) (c.as_slice.ensures ∙ (rw c.in-Ok.is at c.requires.told)) c.in-Ok-put.ensures.all) c.put.ensures.cause.later c.put_answer.result
    (subst (λ st. PutsAnswer (step st line) (g.K.Sink.written mid) (g.K.Sink.written new) (g.T.Trees.rows trees) (g.T.Trees.rows trees') (g.K.Sink.faults mid) (g.K.Sink.faults new) (g.T.Trees.faults trees) (g.T.Trees.faults trees') c.put_answer.result)
    c.requires.state c.put_answer.ensures.puts)

pub returns-in-Err-put-clause-puts : goal.returns-in-Err-put-clause-puts
returns-in-Err-put-clause-puts g c history =
    let old = c.args.out.now in
    let mid = c.put.new.self in
    let trees = c.args.trees.now in
    puts_part c.args.line.now c.args.reader.now.history history (g.K.Sink.written old) (g.K.Sink.written mid) (g.K.Sink.written mid) (g.T.Trees.rows trees) (g.T.Trees.rows trees)
    (g.K.Sink.faults old) (g.K.Sink.faults mid) (g.K.Sink.faults mid) (g.T.Trees.faults trees) (g.T.Trees.faults trees)
    (subst (λ t. AppendsSome t (g.K.Sink.written old) (g.K.Sink.written mid)) (c.as_slice.ensures ∙ (rw c.in-Ok.is at c.requires.told)) c.in-Err-put.ensures.some) c.in-Err-put.ensures.cause.failed

pub returns-in-Err-clause-puts : goal.returns-in-Err-clause-puts
returns-in-Err-clause-puts g c history =
    let old = c.args.out.now in
    let trees = c.args.trees.now in
    puts_none c.args.line.now c.args.reader.now.history history (g.K.Sink.written old) (g.K.Sink.written old) (g.K.Sink.written old) (g.T.Trees.rows trees) (g.T.Trees.rows trees)
    (g.K.Sink.faults old) (g.K.Sink.faults old) (g.K.Sink.faults old) (g.T.Trees.faults trees) (g.T.Trees.faults trees)
