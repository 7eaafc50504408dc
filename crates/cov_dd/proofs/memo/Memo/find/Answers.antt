use Rattle.std.proofs.Common.{ap, ◌∙◌}
use Rattle.cov_dd.proofs.Pairs.{found_some, found_none}
use Rattle.cov_dd.proofs.memo.Memo.find.Goals as goal

pub returns-clause-some : goal.returns-clause-some
returns-clause-some c =
    rw (← ap (λ m. m.made) c.self.view_is) (found_some c.self.inside.made.entries c.args.pair c.copied.result (c.copied.ensures ∙ c.get.ensures.value))

pub returns-clause-none : goal.returns-clause-none
returns-clause-none c =
    rw (← ap (λ m. m.made) c.self.view_is) (found_none c.self.inside.made.entries c.args.pair c.copied.result (c.copied.ensures ∙ c.get.ensures.value))
