use Rattle.std.proofs.Common.{◌<◌, ◌&&◌, max, length, ap, subst, arith}
use Rattle.cov_dd.specs.Diagrams.{span, value_in, Stands}
use Rattle.cov_expr.specs.Formula.{reach, value}
use Rattle.cov_rules.specs.Installing.{RulesValue}
use Rattle.cov_rules.proofs.Planning as planning
use Rattle.cov_rules.proofs.rules.Rules.prepare_constraint.Goals as goal

few : (c : goal.After-judged) → length c.args.self.now.standing.constraints < c.args.limit
few c = omega (arith, c.if-len-from.false, c.len.ensures, c.from.ensures, ap (λ (v : RulesValue). length v.standing.constraints) c.self.view_is)

-- the conjunction with the new constraint
conjunction : (c : goal.After-judged) → Stands c.conjoined.new.table c.in-Ok.plan.conjunction 0 (max (span c.args.table.now c.args.self.now.standing.conjunction) (reach c.args.expr.now)) (λ d. value_in c.args.table.now c.args.self.now.standing.conjunction d && value c.args.expr.now d)
conjunction c =
    subst (λ (v : RulesValue). Stands c.conjoined.new.table c.in-Ok.plan.conjunction 0 (max (span c.args.table.now v.standing.conjunction) (reach c.args.expr.now)) (λ d. value_in c.args.table.now v.standing.conjunction d && value c.args.expr.now d))
    c.self.view_is c.in-Ok.ensures.conjunction

pub returns-clause-planned : goal.returns-clause-planned
returns-clause-planned c =
    planning.planned c.args.limit (omega (arith, c.ranges.limit.fits)) c.args.table.now c.conjoined.new.table c.args.self.now c.reserve.new.self c.args.expr.now c.in-Ok.plan c.requires.holds (few c) (conjunction c)
    c.judged.result c.in-Ok-reserve.ensures.room c.in-Ok-reserve.ensures.same c.in-Ok.ensures.node c.judged.ensures.ok

pub returns-clause-accepted : goal.returns-clause-accepted
returns-clause-accepted c =
    planning.accepted c.args.limit (omega (arith, c.ranges.limit.fits)) c.args.table.now c.conjoined.new.table c.args.self.now c.reserve.new.self c.args.expr.now c.in-Ok.plan c.requires.holds (few c) (conjunction c)
    c.judged.result c.judged.ensures.met

pub returns-clause-refused : goal.returns-clause-refused
returns-clause-refused c =
    planning.refused c.args.limit (omega (arith, c.ranges.limit.fits)) c.args.table.now c.conjoined.new.table c.args.self.now c.reserve.new.self c.args.expr.now c.in-Ok.plan c.requires.holds (few c) (conjunction c)
    c.judged.result c.judged.ensures.err
