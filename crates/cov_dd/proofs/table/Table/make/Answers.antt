use Rattle.std.proofs.Common.{ap, subst, ◌∙◌, reverse, IfOk}
use Rattle.std.proofs.lemmas.Result.{on_err_weaker}
use Rattle.cov_dd.specs.declared.triple.Triple.{Triple}
use Rattle.cov_dd.specs.Diagrams.{Placed, IsDiagram}
use Rattle.cov_dd.specs.Combinations.{IsTable}
use Rattle.cov_dd.proofs.Insertion.{result_extends, result_stands}
use Rattle.cov_dd.proofs.Conjunctions.{placed_table}
use Rattle.cov_dd.proofs.table.Table.make.Goals as goal

abbrev triple : goal.After-place → Triple
triple c = record { option = c.args.option; off = c.args.off; on = c.args.on }

pub invariant_of-self : goal.invariant_of-self
invariant_of-self c =
    placed_table c.args.self.now (reverse c.place.new.entries.keys) c.self.inside.conjunctions (triple c)
    c.requires.off c.requires.on c.requires.off_above c.requires.on_above c.if-off-on.false c.place.result
    (subst (λ ts. IfOk c.place.result (Placed ts (reverse c.place.new.entries.keys) (triple c))) c.self.view_is c.place.ensures.placed)
    (on_err_weaker c.place.result (λ same. ap reverse same ∙ c.self.view_is) c.place.ensures.err)
    (subst (λ ts. IsTable ts c.self.inside.conjunctions) c.self.view_is c.self.invariant)

pub returns-clause-extends : goal.returns-clause-extends
returns-clause-extends c =
    result_extends c.args.self.now (reverse c.place.new.entries.keys) (subst IsDiagram c.self.view_is c.self.invariant.diagram) (triple c)
    c.requires.off c.requires.on c.requires.off_above c.requires.on_above c.if-off-on.false c.place.result
    (subst (λ ts. IfOk c.place.result (Placed ts (reverse c.place.new.entries.keys) (triple c))) c.self.view_is c.place.ensures.placed)
    (on_err_weaker c.place.result (λ same. ap reverse same ∙ c.self.view_is) c.place.ensures.err)

pub returns-clause-stands : goal.returns-clause-stands
returns-clause-stands c =
    result_stands c.args.self.now (reverse c.place.new.entries.keys) (subst IsDiagram c.self.view_is c.self.invariant.diagram) (triple c)
    c.requires.off c.requires.on c.requires.off_above c.requires.on_above c.if-off-on.false c.place.result
    (subst (λ ts. IfOk c.place.result (Placed ts (reverse c.place.new.entries.keys) (triple c))) c.self.view_is c.place.ensures.placed)
