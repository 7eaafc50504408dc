use Rattle.std.proofs.Common.{ap, subst}
use Rattle.std.proofs.lemmas.Bool.{eq-eqb, eqb-true}
use Rattle.cov_dd.specs.Diagrams.{value_in, IsDiagram}
use Rattle.cov_dd.proofs.Canonical.{canonical}
use Rattle.cov_dd.proofs.table.Table.is_same.Goals as goal

pub returns-clause-agree : goal.returns-clause-agree
returns-clause-agree c = (
  λ same choice long. ap (λ n. value_in c.args.self.now n choice) (eqb-true c.args.a c.args.b same),
  λ agree. eq-eqb c.args.a c.args.b (canonical c.args.self.now (subst IsDiagram c.self.view_is c.self.invariant.diagram) c.args.a c.args.b c.requires.a c.requires.b agree),
)
