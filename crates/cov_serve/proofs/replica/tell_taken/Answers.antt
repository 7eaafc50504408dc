use Rattle.std.proofs.Common.{◌∙◌, sym}
use Rattle.cov_serve.proofs.Replicas.{answered_puts, fault_puts}
use Rattle.cov_serve.proofs.replica.tell_taken.Goals as goal

pub put_fault-status-requires : goal.put_fault-status-requires
put_fault-status-requires g c = sym c.fault.ensures ∙ c.in-Some.is

pub returns-in-None-clause-puts : goal.returns-in-None-clause-puts
returns-in-None-clause-puts g c history =
    answered_puts c.args.line.now c.args.fed c.into_engine.result.history history c.into_engine.ensures (sym c.fault.ensures ∙ c.in-None.is) (c.serve_line.ensures.puts history)

pub returns-in-Some-clause-puts : goal.returns-in-Some-clause-puts
returns-in-Some-clause-puts g c history =
    fault_puts c.args.line.now c.args.fed c.in-Some.fault history (sym c.fault.ensures ∙ c.in-Some.is) (c.put_fault-status.ensures.puts history (g.T.Trees.rows c.args.trees.now) (g.T.Trees.faults c.args.trees.now))
