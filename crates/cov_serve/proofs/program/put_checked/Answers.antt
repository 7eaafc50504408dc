use Rattle.std.proofs.Common.{refl}
use Rattle.cov_serve.specs.Program.{check_line}
use Rattle.cov_loop.proofs.CallerLemmas.{same_some}
use Rattle.cov_serve.proofs.program.put_checked.Goals as goal

pub returns-in-Err-clause-puts : goal.returns-in-Err-clause-puts
returns-in-Err-clause-puts g c =
    let written = g.K.Sink.written c.args.out.now in
    record { front = same_some (check_line c.args.server.state.history) written written refl; whole = λ e. absurd (cc); ends = tt }
