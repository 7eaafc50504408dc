use Rattle.std.proofs.Common.{◌<◌, sym, subst, ◌∙◌, arith}
use Rattle.std.specs.Prelude.{IfOk}
use Rattle.std.proofs.lemmas.Bool.Decides.{nat_tests}
use Rattle.cov_cond.specs.Building.{IsBuilt}
use Rattle.cov_cond.proofs.Building.{child-entry}
use Rattle.cov_cond.proofs.expressing.+building.Goals as goal

pub child_part-returns-in-Some : goal.child_part-returns-in-Some
child_part-returns-in-Some t c =
    let some : 0 < c.args.steps = grind (arith, nat_tests, c.if-steps-eq0.false) in
    subst (λ x. IfOk c.entry_part.result (IsBuilt x c.args.room))
    (sym (child-entry c.args.entries.now c.args.steps c.args.child c.in-At.index c.in-Some.entry c.in-At.is some (sym c.entry_at.ensures ∙ c.in-Some.is)))
    c.entry_part.ensures
