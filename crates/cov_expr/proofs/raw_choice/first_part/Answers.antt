use Rattle.std.proofs.Common.{sym, ◌∙◌, nat_eq, ◌∷◌}
use Rattle.std.specs.List.{slice_split}
use Rattle.std.proofs.lemmas.List.Splits.{slice_split_first}
use Rattle.cov_base.proofs.CallerLemmas.{split-absent}
use Rattle.cov_expr.proofs.raw_choice.first_part.Goals as goal

pub returns-in-None-clause-none : goal.returns-in-None-clause-none
returns-in-None-clause-none c = split-absent (λ b. nat_eq b 44) c.args.text.now c.in-None.ensures.none

pub returns-in-Some-clause-some : goal.returns-in-Some-clause-some
returns-in-Some-clause-some c =
    slice_split_first (λ b. nat_eq b 44) c.args.text.now 0 c.in-Some.ensures.found
    ∙ sym (λ i. c.in-Some.ensures.before i ∷ slice_split (λ b. nat_eq b 44) (c.in-Some.ensures.after i))
