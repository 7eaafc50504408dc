use Rattle.std.proofs.Common.{sym, ◌∙◌, arith}
use Rattle.cov_order.proofs.Places.{behind_found, behind_all}
use Rattle.cov_order.proofs.page.place.Goals as goal

pub returns-in-Some-clause-place : goal.returns-in-Some-clause-place
returns-in-Some-clause-place c = behind_found c.args.anchor c.args.lines.now c.in-Some.at (λ e. omega (arith, e, c.number.ensures, c.if-number-eq0.false)) (sym c.find.ensures ∙ c.in-Some.is)

pub returns-in-None-clause-place : goal.returns-in-None-clause-place
returns-in-None-clause-place c = behind_all c.args.anchor c.args.lines.now (λ e. omega (arith, e, c.number.ensures, c.if-number-eq0.false)) (sym c.find.ensures ∙ c.in-None.is)
