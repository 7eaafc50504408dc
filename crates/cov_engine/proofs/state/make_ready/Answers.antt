use Rattle.std.proofs.Common.{sym, ◌∙◌, arith}
use Rattle.cov_history.specs.Verdict.{verdict}
use Rattle.cov_engine.proofs.Refused.{early-verdict}
use Rattle.cov_engine.proofs.Ruling.{refused-by}
use Rattle.cov_engine.proofs.state.make_ready.Goals as goal

pub returns-in-Ok-Some-clause-refused : goal.returns-in-Ok-Some-clause-refused
returns-in-Ok-Some-clause-refused c =
    let history = c.args.state.now.commands.commands in
    let own = c.len.ensures in
    let below = c.if-len.false in
    refused-by c.in-Ok-Some.refusal (verdict history c.args.command.now)
    (early-verdict history c.args.command.now c.in-Ok-Some.refusal (omega (arith, own, below)) (sym c.in-Ok-Some.ensures ∙ c.in-Ok-Some.field-0-is))
