use Rattle.std.proofs.Common.{Bool, sym, subst, ◌∙◌}
use Rattle.std.proofs.lemmas.Result.{IfOk-weaker}
use Rattle.cov_dd.specs.Cofactors.{cofactor}
use Rattle.cov_dd.specs.Diagrams.{top, span, Stands}
use Rattle.cov_rules.proofs.Fixing.{passed, fixed_more}
use Rattle.cov_rules.proofs.lefts.Left.fix_one.Goals as goal

pub returns-then-not-get-clause-fixed : goal.returns-then-not-get-clause-fixed
returns-then-not-get-clause-fixed c ts first is = passed ts c.args.table.now c.args.self.now c.requires.values c.args.option first c.args.node is (sym c.get.ensures ∙ c.if-not-get.true)

pub returns-clause-fixed : goal.returns-clause-fixed
returns-clause-fixed c =
    let us = c.args.table.now in
    IfOk-weaker c.restrict.result _ _
    (λ r s ts first is. fixed_more ts us c.args.self.now c.requires.values c.args.option first c.args.node is c.restrict.new.self r (sym c.get.ensures ∙ c.if-not-get.false)
    (subst (λ (b : Bool). Stands c.restrict.new.self r (top us c.args.node) (span us c.args.node) (cofactor us c.args.node c.args.option b)) c.get-2.ensures s)) c.restrict.ensures.stands
