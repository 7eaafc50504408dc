use Rattle.std.proofs.Common.{subst, sym, ◌∙◌, arith}
use Rattle.std.proofs.lemmas.Bool.{eqb-true}
use Rattle.cov_dd.specs.Diagrams.{IsDiagram}
use Rattle.cov_dd.proofs.Nodes.{top-none}
use Rattle.cov_dd.proofs.Taking.{sides_of_entry, sides_of_other}
use Rattle.cov_dd.proofs.table.Table.sides.Goals as goal

pub returns-in-Some : goal.returns-in-Some
returns-in-Some c =
    sides_of_entry c.args.self.now (subst IsDiagram c.self.view_is c.self.invariant.diagram) c.args.a c.args.option c.in-Some.triple
    (sym c.in-Some.ensures.entry) (eqb-true c.in-Some.triple.option c.args.option (sym c.if-eq.ensures))

pub returns-in_default-2 : goal.returns-in_default-2
returns-in_default-2 c =
    sides_of_other c.args.self.now c.args.a c.args.option c.requires.within
    (omega (arith, c.requires.below, top-none c.args.self.now c.args.a (sym c.entry.ensures.entry ∙ c.in_default.is)))
