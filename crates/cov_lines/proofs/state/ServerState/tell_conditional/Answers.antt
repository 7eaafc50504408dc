use Rattle.std.proofs.Common.{sym, subst}
use Rattle.cov_edit.specs.Replay.{replay}
use Rattle.cov_lines.specs.Acting.{Acts, Stops}
use Rattle.cov_lines.specs.States.{State}
use Rattle.cov_lines.specs.Step.{conditions_told, file_in}
use Rattle.cov_lines.proofs.Acted.{stopped}
use Rattle.cov_lines.proofs.Named.{conditions-stop}
use Rattle.cov_lines.proofs.state.ServerState.tell_conditional.Goals as goal

pub returns-in_err-file : goal.returns-in_err-file
returns-in_err-file c =
    let st = c.args.self.now.state in
    let wanted = conditions_told st c.args.choice.now c.args.path.now in
    let choice = c.in_ok-choice.choice in
    let stop = c.in_err-file.field-0.0 in
    let back = c.in_ok-choice.ensures.same in
    subst (λ new. Acts wanted st new c.from_residual-in_err-file.result) (sym back)
    (stopped (Acts wanted st st) c.from_residual-in_err-file.result stop c.from_residual-in_err-file.ensures.1
    (conditions-stop st c.args.choice.now c.args.path.now choice stop c.in_ok-choice.ensures.found
    (subst (λ (t : State). Stops (file_in (replay choice t.history) c.args.path.now) t t stop) back c.in_err-file.ensures)))
