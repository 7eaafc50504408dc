use Rattle.std.proofs.Common.{take, sym, ap, ◌∙◌}
use Rattle.cov_hist.specs.Past.{first_late, unless_late, whole_choice}
use Rattle.cov_hist.proofs.choosing.choice_after.Goals as goal

pub returns-in-Some : goal.returns-in-Some
returns-in-Some c =
    let found = ap (λ n. first_late n c.args.partial.now) (sym c.options_at.ensures.count) ∙ sym c.first_late.ensures ∙ c.in-Some.is in
    sym (ap (λ o. unless_late o (whole_choice (take c.args.at c.args.engine.now.history) c.args.partial.now)) found)

pub returns-in-None : goal.returns-in-None
returns-in-None c =
    let found = ap (λ n. first_late n c.args.partial.now) (sym c.options_at.ensures.count) ∙ sym c.first_late.ensures ∙ c.in-None.is in
    c.whole_choice.ensures
    ∙ sym (ap (λ o. unless_late o (whole_choice (take c.args.at c.args.engine.now.history) c.args.partial.now)) found)
