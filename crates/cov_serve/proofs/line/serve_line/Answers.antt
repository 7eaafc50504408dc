use Rattle.cov_serve.proofs.line.serve_line.Goals as goal

pub returns-in-Ok-clause-durable : goal.returns-in-Ok-clause-durable
returns-in-Ok-clause-durable g c = c.in-Ok.ensures.durable
