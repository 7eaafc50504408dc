use Rattle.std.proofs.Common.{rules, ap, refl, subst, sym}
use Rattle.cov_record.specs.Laws.{IsNoRecord}
use Rattle.cov_replica.specs.Accepting.{Accepts}
use Rattle.cov_replica.specs.Taken.{by_command}
use Rattle.cov_replica.proofs.Spelling.{one_reading, unread}
use Rattle.cov_replica.proofs.accepting.accept_payload.Goals as goal

pub returns-in-Ok : goal.returns-in-Ok
returns-in-Ok c =
    subst (λ o. Accepts (by_command c.args.engine.now.history o) c.args.engine.now.history c.accept_command.new.engine.history c.accept_command.result)
    (sym ((one_reading c.args.payload.now c.in-Ok.command).0 c.in-Ok.ensures.ok)) c.accept_command.ensures

pub returns-in-Err-Refused : goal.returns-in-Err-Refused
returns-in-Err-Refused c =
    let no : IsNoRecord c.args.payload.now = search rules in
    (ap (by_command c.args.engine.now.history) (unread c.args.payload.now no), refl)
