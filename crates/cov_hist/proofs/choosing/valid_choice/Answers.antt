use Rattle.std.proofs.Common.{sym, ap}
use Rattle.cov_hist.specs.Past.{unless_invalid}
use Rattle.cov_hist.proofs.choosing.valid_choice.Goals as goal

pub returns-in-Ok : goal.returns-in-Ok
returns-in-Ok c = sym (ap (λ o. unless_invalid o c.args.choice) c.in-Ok.ensures.ok)

pub returns-in-Err : goal.returns-in-Err
returns-in-Err c = sym (ap (λ o. unless_invalid o c.args.choice) c.in-Err.ensures.err)
