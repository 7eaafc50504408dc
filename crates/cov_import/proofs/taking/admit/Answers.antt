use Rattle.std.proofs.Common.{◌∙◌, sym}
use Rattle.cov_import.specs.Taking.{StopsTaking, admitted}
use Rattle.cov_lines.specs.Adding.{StopsCommand}
use Rattle.cov_import.proofs.Refusing.{admit_stops, handed_stops}
use Rattle.cov_import.proofs.taking.admit.Goals as goal

pub returns-in-Ok-Some-clause-refused : goal.returns-in-Ok-Some-clause-refused
returns-in-Ok-Some-clause-refused c =
    let history = c.args.server.state.history in
    let commits = c.args.commits.commands in
    rw c.hand_on.ensures
    (handed_stops c.args.commits c.check-server.result.1 (StopsCommand history c.in-Ok-Some.first) (StopsTaking history (admitted history commits))
    (λ stop h. admit_stops history c.in-Ok-Some.first commits stop (sym c.in-Ok-Some.ensures ∙ c.in-Ok-Some.field-0-is) h) c.check-server.ensures.refused)
