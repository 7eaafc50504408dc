use Rattle.std.proofs.Common.{arith, sym, ◌∙◌}
use Rattle.std.proofs.lemmas.Grind.{common_steps}
use Rattle.cov_base.proofs.Paths.{found_first, found_none}
use Rattle.cov_base.proofs.name.cut.Goals as goal

pub returns-in-Some-clause-parts : goal.returns-in-Some-clause-parts
returns-in-Some-clause-parts c =
    let e = found_first c.args.bytes.now c.in-Some.at (sym c.first_slash.ensures.place ∙ c.in-Some.is) in grind (arith, common_steps)

pub returns-in-None-clause-parts : goal.returns-in-None-clause-parts
returns-in-None-clause-parts c = found_none c.args.bytes.now (sym c.first_slash.ensures.place ∙ c.in-None.is)
