use Rattle.std.proofs.Common.{nat_eq, sym, ◌∙◌}
use Rattle.cov_base.proofs.CallerLemmas.{insert_behind, insert_last}
use Rattle.cov_order.proofs.pages.place_of.Goals as goal

pub returns-in-Some-clause-place : goal.returns-in-Some-clause-place
returns-in-Some-clause-place c = λ next. insert_behind (λ n. nat_eq n c.args.number) c.args.sequence.now next c.in-Some.at (sym c.find.ensures ∙ c.in-Some.is)

pub returns-in-None-clause-place : goal.returns-in-None-clause-place
returns-in-None-clause-place c = λ next. insert_last (λ n. nat_eq n c.args.number) c.args.sequence.now next (sym c.find.ensures ∙ c.in-None.is)
