use Rattle.std.proofs.Common.{◌≡◌, ◌∙◌, ◌<◌, false, length, ap, sym, subst, arith}
use Rattle.std.proofs.lemmas.List.{length-replicate}
use Rattle.std.specs.List.{AllByRecursion}
use Rattle.cov_dd.specs.Diagrams.{diagram_size, IsDiagram}
use Rattle.cov_dd.proofs.Nodes.{some_nodes}
use Rattle.cov_dd.proofs.Marking.{are_marked}
use Rattle.cov_dd.proofs.table.Table.mark_reached.Goals as goal

pub mark-requires : goal.mark-requires
mark-requires c =
    let size : length c.args.marks.now ≡ diagram_size c.args.self.now = ap length c.requires.empty ∙ length-replicate (diagram_size c.args.self.now) false in
    let some = some_nodes c.args.self.now in
    (omega (arith, size, some), (omega (arith, size, some), tt))

pub mark-requires-2 : goal.mark-requires-2
mark-requires-2 c =
    subst (λ k. AllByRecursion (λ a. a < k) c.args.roots.now)
    (sym (c.mark.auto.marks ∙ ap length c.requires.empty ∙ length-replicate (diagram_size c.args.self.now) false)) c.requires.roots

pub mark_below-requires : goal.mark_below-requires
mark_below-requires c = c.mark-2.auto.marks ∙ c.mark.auto.marks ∙ ap length c.requires.empty ∙ length-replicate (diagram_size c.args.self.now) false

pub returns : goal.returns
returns c =
    are_marked c.args.self.now (subst IsDiagram c.self.view_is c.self.invariant.diagram) c.args.roots.now c.args.marks.now c.mark.new.marks c.mark-2.new.marks c.mark_below.new.marks
    c.requires.empty (c.mark-2.auto.marks ∙ c.mark.auto.marks ∙ ap length c.requires.empty ∙ length-replicate (diagram_size c.args.self.now) false)
    c.mark.ensures c.mark-2.ensures c.mark_below.ensures
