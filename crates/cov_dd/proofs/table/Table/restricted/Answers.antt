use Rattle.std.proofs.Common.{subst, arith}
use Rattle.cov_dd.specs.Diagrams.{IsDiagram}
use Rattle.cov_dd.proofs.Cofactors.{later_stands}
use Rattle.cov_dd.proofs.table.Table.restricted.Goals as goal

pub returns-then-number-first-clause-some : goal.returns-then-number-first-clause-some
returns-then-number-first-clause-some c =
    later_stands c.args.self.now (subst IsDiagram c.self.view_is c.self.invariant.diagram) c.args.a c.args.option c.args.on c.requires
    (omega (arith, c.if-number-first.true, c.number-number.ensures.number, c.top_of-first.ensures.top))
