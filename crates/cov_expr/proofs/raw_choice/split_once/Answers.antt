use Rattle.std.proofs.Common.{sym, ap, nat_eq, take, arith}
use Rattle.std.proofs.lemmas.Grind.{common_steps}
use Rattle.cov_base.proofs.CallerLemmas.{place-found}
use Rattle.cov_expr.proofs.raw_choice.split_once.Goals as goal

pub returns-in-Some-clause-found : goal.returns-in-Some-clause-found
returns-in-Some-clause-found c =
    rw (place-found (λ b. nat_eq b c.args.byte) c.args.text.now c.in-Some.at (sym c.in-Some.ensures.place)) c.in-Some.ensures.within

pub returns-in-Some-clause-before : goal.returns-in-Some-clause-before
returns-in-Some-clause-before c =
    ap (λ n. take n c.args.text.now) (sym (place-found (λ b. nat_eq b c.args.byte) c.args.text.now c.in-Some.at (sym c.in-Some.ensures.place)))

pub returns-in-Some-clause-after : goal.returns-in-Some-clause-after
returns-in-Some-clause-after c =
    let same = place-found (λ b. nat_eq b c.args.byte) c.args.text.now c.in-Some.at (sym c.in-Some.ensures.place) in
    rw same (grind (arith, common_steps))
