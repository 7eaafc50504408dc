use Rattle.std.proofs.Common.{nat_eq, sym}
use Rattle.cov_base.proofs.CallerLemmas.{place-absent, place-found}
use Rattle.cov_script.proofs.unread.first_space.Goals as goal

pub returns-in-Some-clause-place : goal.returns-in-Some-clause-place
returns-in-Some-clause-place c = sym (place-found (λ b. nat_eq b 32) c.args.bytes.now c.in-Some.at (sym c.in-Some.ensures.place))

pub returns-in-None-clause-place : goal.returns-in-None-clause-place
returns-in-None-clause-place c = sym (place-absent (λ b. nat_eq b 32) c.args.bytes.now (sym c.in-None.ensures.place))
