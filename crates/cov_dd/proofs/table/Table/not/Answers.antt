use Rattle.std.proofs.Common.{subst}
use Rattle.std.proofs.lemmas.Result.{IfOk-weaker}
use Rattle.cov_dd.specs.Diagrams.{IsDiagram}
use Rattle.cov_dd.proofs.Nodes.{some_nodes}
use Rattle.cov_dd.proofs.Descent.{complement_stands}
use Rattle.cov_dd.proofs.table.Table.not.Goals as goal

pub without-requires-clause-a : goal.without-requires-clause-a
without-requires-clause-a c = some_nodes c.args.self.now

pub returns-clause-stands : goal.returns-clause-stands
returns-clause-stands c = IfOk-weaker c.without.result _ _ (λ r. complement_stands c.args.self.now (subst IsDiagram c.self.view_is c.self.invariant.diagram) c.without.new.self c.args.a r) c.without.ensures.stands
