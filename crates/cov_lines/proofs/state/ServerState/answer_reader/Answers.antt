use Rattle.std.proofs.Common.{◌∙◌, ap, subst}
use Rattle.std.specs.Prelude.{IfOk}
use Rattle.cov_codes.specs.declared.stop.Stop.{Stop}
use Rattle.cov_loop.specs.Answers.{Gives}
use Rattle.cov_lines.specs.Acting.{Stops}
use Rattle.cov_lines.specs.States.{State}
use Rattle.cov_lines.specs.Step.{acted, refused}
use Rattle.cov_lines.proofs.Additions.{done-gives, refused-step}
use Rattle.cov_lines.proofs.state.ServerState.answer_reader.Goals as goal

pub returns-in-Ok : goal.returns-in-Ok
returns-in-Ok c = done-gives c.args.self.now.state c.read_variant.new.self.state c.args.line.now c.in-Ok.reply c.in-Ok.ensures.0

pub returns-in-Err-Refused : goal.returns-in-Err-Refused
returns-in-Err-Refused c =
    let st = c.args.self.now.state in
    let new = c.read_variant.new.self.state in
    let line = c.args.line.now in
    let stops = subst (λ (s : Stop). Stops (acted st line) st new s) c.in-Err-Refused.field-0-is c.in-Err-Refused.ensures in
    subst (λ o. IfOk c.refuse.result (Gives o new))
    (ap (λ (t : State). refused t c.in-Err-Refused.code) stops.same ∙ refused-step st line c.in-Err-Refused.code stops.is) c.refuse.ensures
