use Rattle.std.proofs.Common.{ap, subst, sym, ◌≡◌}
use Rattle.std.specs.Prelude.{IfOk}
use Rattle.cov_lines.specs.States.{State}
use Rattle.cov_serve.specs.Jobs.{answered_replica}
use Rattle.cov_serve.specs.Program.{taken_line}
use Rattle.cov_serve.specs.Replicas.{Puts}
use Rattle.cov_serve.proofs.replica.serve_line.Goals as goal

pub put_both-status-requires-clause-told : goal.put_both-status-requires-clause-told
put_both-status-requires-clause-told g c =
    subst (λ h. IfOk c.taken_line-told.result (λ text. text ≡ taken_line h)) (sym (ap (λ (s : State). s.history) c.new-reader.ensures))
    (c.taken_line-told.ensures c.args.engine.history c.position.ensures)

pub returns-clause-puts : goal.returns-clause-puts
returns-clause-puts g c history =
    let out = c.args.out.now in
    let out' = c.put_both-status.new.out in
    let trees = c.args.trees.now in
    let trees' = c.put_both-status.new.trees in
    subst (λ h. Puts (answered_replica c.args.line.now h history) (g.K.Sink.written out) (g.K.Sink.written out') (g.T.Trees.rows trees) (g.T.Trees.rows trees') (g.K.Sink.faults out) (g.K.Sink.faults out') (g.T.Trees.faults trees) (g.T.Trees.faults trees') c.put_both-status.result)
    (ap (λ (s : State). s.history) c.new-reader.ensures) (c.put_both-status.ensures.puts history)
