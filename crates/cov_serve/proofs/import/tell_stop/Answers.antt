use Rattle.cov_edit.specs.History.{options_of}
use Rattle.cov_serve.proofs.Imports.{untold}
use Rattle.cov_serve.proofs.import.tell_stop.Goals as goal

pub returns-in-Err-clause-tells : goal.returns-in-Err-clause-tells
returns-in-Err-clause-tells g c = untold (options_of c.args.server.state.history) c.args.stop.now (g.K.Sink.written c.args.out.now) (g.K.Sink.faults c.args.out.now)
