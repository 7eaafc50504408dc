use Rattle.std.proofs.Common.{Bool, subst, sym}
use Rattle.cov_dd.specs.Cofactors.{cofactor}
use Rattle.cov_dd.specs.Diagrams.{top, span, IsDiagram, Stands}
use Rattle.cov_dd.proofs.Cofactors.{on_stands, off_stands}
use Rattle.cov_dd.proofs.table.Table.side.Goals as goal

pub returns-then-on : goal.returns-then-on
returns-then-on c =
    let ts = c.args.self.now in
    subst (λ (b : Bool). Stands ts c.sides-sides.result.on (top ts c.args.a) (span ts c.args.a) (cofactor ts c.args.a c.args.option b)) (sym c.if-on.true)
    (on_stands ts (subst IsDiagram c.self.view_is c.self.invariant.diagram) c.args.a c.args.option c.sides-sides.result.off c.sides-sides.result.on c.sides-sides.ensures c.requires.own)

pub returns : goal.returns
returns c =
    let ts = c.args.self.now in
    subst (λ (b : Bool). Stands ts c.sides-sides.result.off (top ts c.args.a) (span ts c.args.a) (cofactor ts c.args.a c.args.option b)) (sym c.if-on.false)
    (off_stands ts (subst IsDiagram c.self.view_is c.self.invariant.diagram) c.args.a c.args.option c.sides-sides.result.off c.sides-sides.result.on c.sides-sides.ensures c.requires.own)
