use Rattle.std.proofs.Common.{inl, inr, ap, subst, sym, ◌≡◌, ◌⊎◌}
use Rattle.cov_io.specs.Devices.{AppendsAll}
use Rattle.cov_lines.specs.Step.{step}
use Rattle.cov_serve.specs.Replicas.{PutsAnswer}
use Rattle.cov_serve.proofs.Replicas.{given_all, given_some}
use Rattle.cov_serve.proofs.replica.put_given.Goals as goal

pub returns-in-Ok-clause-puts : goal.returns-in-Ok-clause-puts
returns-in-Ok-clause-puts g c old line new gives =
    let out = g.K.Sink.written in
    let rows = g.T.Trees.rows in
    subst (λ s. PutsAnswer (step old line) (out c.args.out.now) (out c.put_reply.new.out) (rows c.args.trees.now) (rows c.put_reply.new.trees)
    (g.K.Sink.faults c.args.out.now) (g.K.Sink.faults c.put_reply.new.out) (g.T.Trees.faults c.args.trees.now) (g.T.Trees.faults c.put_reply.new.trees) s) (sym c.answered_status.ensures)
    (given_all old line new c.args.reply.now gives c.in-Ok.answer c.in-Ok.ensures.served c.in-Ok.ensures.all c.in-Ok.ensures.rows_all)

pub returns-in-Err-clause-puts : goal.returns-in-Err-clause-puts
returns-in-Err-clause-puts g c old line new gives =
    let out = g.K.Sink.written in
    let rows = g.T.Trees.rows in
    subst (λ s. PutsAnswer (step old line) (out c.args.out.now) (out c.put_reply.new.out) (rows c.args.trees.now) (rows c.put_reply.new.trees)
    (g.K.Sink.faults c.args.out.now) (g.K.Sink.faults c.put_reply.new.out) (g.T.Trees.faults c.args.trees.now) (g.T.Trees.faults c.put_reply.new.trees) s) (sym c.from.ensures)
    (given_some old line new c.args.reply.now gives c.in-Err.ending c.in-Err.ensures.some c.in-Err.ensures.rows_some (first c.in-Err.ensures.rows_first) (c.in-Err.ensures.stopped 0 0))
  where
    first : AppendsAll c.args.reply.now.rows (g.T.Trees.rows c.args.trees.now) (g.T.Trees.rows c.put_reply.new.trees) ⊎ (c.put_reply.new.out ≡ c.args.out.now)
        → AppendsAll c.args.reply.now.rows (g.T.Trees.rows c.args.trees.now) (g.T.Trees.rows c.put_reply.new.trees) ⊎ (g.K.Sink.written c.put_reply.new.out ≡ g.K.Sink.written c.args.out.now)
    first (inl all) = inl all
    first (inr same) = inr (ap g.K.Sink.written same)
