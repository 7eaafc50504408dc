use Rattle.std.proofs.Common.{◌∙◌, ◌+◌, ◌<◌, arith, ℕ, List, length, replicate}
use Rattle.std.proofs.lemmas.List.{length-replicate}
use Rattle.cov_base.specs.declared.limits.TheConstants.{MOST_SCRIPT_LINE_BYTES}
use Rattle.cov_loop.proofs.Appending.{doing}
use Rattle.cov_loop.proofs.line.serve_long.Goals as goal

pub returns-in-Ok-clause-same : goal.returns-in-Ok-clause-same
returns-in-Ok-clause-same g c =
    let line : List ℕ = replicate (MOST_SCRIPT_LINE_BYTES + 1) 0 in
    let long : MOST_SCRIPT_LINE_BYTES < length line = omega (arith, length-replicate {A = ℕ} (MOST_SCRIPT_LINE_BYTES + 1) 0) in
    doing c.put_reply.result ((c.in-Ok.ensures.gives line long).state_is ∙ g.met.V.LineServer.long_kept (g.V.LineServer.state_of c.args.server.now) line long)
