use Rattle.std.proofs.Common.{sym, ◌∙◌}
use Rattle.cov_view.proofs.Places.{behind_found, behind_all}
use Rattle.cov_view.proofs.line.place.Goals as goal

pub returns-in-Some-clause-place : goal.returns-in-Some-clause-place
returns-in-Some-clause-place c = behind_found c.args.after.now c.args.lines.now c.in-Some.at (sym c.is_head.ensures ∙ c.if-is_head.false) (sym c.find.ensures ∙ c.in-Some.is)

pub returns-in-None-clause-place : goal.returns-in-None-clause-place
returns-in-None-clause-place c = behind_all c.args.after.now c.args.lines.now (sym c.is_head.ensures ∙ c.if-is_head.false) (sym c.find.ensures ∙ c.in-None.is)
