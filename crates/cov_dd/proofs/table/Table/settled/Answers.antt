use Rattle.std.proofs.Common.{subst}
use Rattle.cov_dd.specs.Diagrams.{IsDiagram}
use Rattle.cov_dd.proofs.Descent.{settled_stands}
use Rattle.cov_dd.proofs.table.Table.settled.Goals as goal

pub returns-clause-some : goal.returns-clause-some
returns-clause-some c =
    settled_stands c.args.operation c.args.self.now (subst IsDiagram c.self.view_is c.self.invariant.diagram) c.args.a c.args.b c.requires.a c.requires.b
    c.shortcut.result c.shortcut.ensures.some
