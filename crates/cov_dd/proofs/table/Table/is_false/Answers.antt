use Rattle.std.proofs.Common.{ap, subst, sym, ◌∙◌, arith}
use Rattle.std.proofs.lemmas.Bool.{eq-eqb, eqb-true}
use Rattle.cov_dd.specs.Diagrams.{value_in, IsDiagram}
use Rattle.cov_dd.proofs.Nodes.{value-constant, some_nodes}
use Rattle.cov_dd.proofs.Canonical.{canonical}
use Rattle.cov_dd.proofs.table.Table.is_false.Goals as goal

pub returns : goal.returns
returns c = (
  λ same choice long. ap (λ n. value_in c.args.self.now n choice) (eqb-true c.args.a 0 same) ∙ value-constant c.args.self.now 0 choice (omega arith),
  λ false_everywhere. eq-eqb c.args.a 0 (
      canonical c.args.self.now (subst IsDiagram c.self.view_is c.self.invariant.diagram) c.args.a 0 c.requires (omega (arith, some_nodes c.args.self.now))
      (λ choice long. false_everywhere choice long ∙ sym (value-constant c.args.self.now 0 choice (omega arith)))
      ),
)
