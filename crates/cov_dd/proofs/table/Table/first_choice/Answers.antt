use Rattle.std.proofs.Common.{◌∙◌, sym, ap, subst, arith, nat_eq, cond, length, Some, false}
use Rattle.std.proofs.lemmas.List.{length-replicate}
use Rattle.cov_dd.specs.Diagrams.{IsDiagram, span}
use Rattle.cov_dd.proofs.Walks.{walked, walked-none, walked-step, length-step, span-step, bits_of-zero, first_choice}
use Rattle.cov_dd.proofs.table.Table.first_choice.Goals as goal

pub loop-triple-init : goal.loop-triple-init
loop-triple-init c = record {
  walk = ap (walked c.args.self.now c.args.a) (c.new-choice.ensures ∙ bits_of-zero c.args.count);
  long = ap length (c.new-choice.ensures ∙ bits_of-zero c.args.count) ∙ length-replicate c.args.count false;
  options = c.requires.options;
}

pub loop-triple-preserved : goal.loop-triple-preserved
loop-triple-preserved c =
    let t = c.in-Some.triple in
    let d = subst IsDiagram c.self.view_is c.self.invariant.diagram in
    record {
      walk = ap (λ n. walked c.args.self.now n c.switched-choice.result) c.child-node.ensures
          ∙ ap (walked c.args.self.now (cond (nat_eq t.off 0) t.on t.off)) c.switched-choice.ensures
          ∙ walked-step c.args.self.now c.loop-triple.node t c.loop-triple.choice d (sym c.in-Some.ensures.entry)
          ∙ c.loop-triple.invariant.walk;
      long = ap length c.switched-choice.ensures ∙ length-step c.args.self.now c.loop-triple.node t c.loop-triple.choice (nat_eq t.off 0) ∙ c.loop-triple.invariant.long;
      options = omega (arith, c.loop-triple.invariant.options, ap (span c.args.self.now) c.child-node.ensures, span-step c.args.self.now c.loop-triple.node t c.loop-triple.choice (nat_eq t.off 0) c.in-Some.ensures.known);
    }

pub returns : goal.returns
returns c =
    first_choice c.args.self.now (subst IsDiagram c.self.view_is c.self.invariant.diagram) c.args.a c.args.count c.requires.within c.requires.other c.requires.options c.requires.count
    ∙ ap Some (sym c.loop-triple.invariant.walk ∙ walked-none c.args.self.now c.loop-triple.node c.loop-triple.choice (sym c.in_default.ensures.entry))
