use Rattle.cov_serve.proofs.Replicas.{given_none}
use Rattle.cov_serve.proofs.replica.put_answer.Goals as goal

pub returns-in-Ok-clause-puts : goal.returns-in-Ok-clause-puts
returns-in-Ok-clause-puts g c = c.put_given.ensures.puts c.args.reader.now c.args.line.now c.answer.new.self c.in-Ok.ensures

pub returns-in-Err-clause-puts : goal.returns-in-Err-clause-puts
returns-in-Err-clause-puts g c =
    given_none c.args.reader.now c.args.line.now (g.K.Sink.written c.args.out.now) (g.T.Trees.rows c.args.trees.now) (g.K.Sink.faults c.args.out.now) (g.T.Trees.faults c.args.trees.now)
