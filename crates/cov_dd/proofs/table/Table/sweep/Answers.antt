use Rattle.std.proofs.Common.{◌∙◌, ◌<◌, List, ℕ, Bool, ap, sym, subst, reverse, length, map, slice_index}
use Rattle.std.specs.List.{AllByRecursion}
use Rattle.cov_dd.specs.declared.operation.Operation.TheVariants.{And}
use Rattle.cov_dd.specs.Diagrams.{IsDiagram}
use Rattle.cov_dd.specs.Combinations.{AreRight}
use Rattle.cov_dd.specs.Marks.{AreMarked}
use Rattle.cov_dd.proofs.Keeping.{swept_diagram, swept_fewer, swept_within, swept_roots, swept_reached}
use Rattle.cov_dd.proofs.table.Table.sweep.Goals as goal

pub renumber-requires : goal.renumber-requires
renumber-requires c =
    subst (λ (ns : List ℕ). AllByRecursion (λ a. a < length ns) c.args.roots.now) (sym c.as_slice-3.ensures.value)
    (swept_within
    c.args.self.now (subst IsDiagram c.self.view_is c.self.invariant.diagram) c.args.roots.now c.requires c.as_slice-2.result.now
    (subst (λ (q : List ℕ × List Bool). AreMarked c.args.self.now q.0 q.1) (λ j. (c.as_slice.ensures j, sym c.as_slice-2.ensures.value j)) c.in_ok-marks.ensures)
    (record { entries = reverse c.entries.inside.entries.keys; numbers = c.entries.inside.numbers.items }) (c.entries.view_is ∙ c.in_ok-entries.ensures))

pub invariant_of-self : goal.invariant_of-self
invariant_of-self c = record {
  diagram = swept_diagram
      c.args.self.now (subst IsDiagram c.self.view_is c.self.invariant.diagram) c.args.roots.now c.requires c.as_slice-2.result.now
      (subst (λ (q : List ℕ × List Bool). AreMarked c.args.self.now q.0 q.1) (λ j. (c.as_slice.ensures j, sym c.as_slice-2.ensures.value j)) c.in_ok-marks.ensures)
      (record { entries = reverse c.entries.inside.entries.keys; numbers = c.entries.inside.numbers.items }) (c.entries.view_is ∙ c.in_ok-entries.ensures);
  right = subst (AreRight And (reverse c.entries.inside.entries.keys)) (sym c.clear.ensures) tt;
}

pub returns-clause-roots : goal.returns-clause-roots
returns-clause-roots c =
    swept_roots
    c.args.self.now (subst IsDiagram c.self.view_is c.self.invariant.diagram) c.args.roots.now c.requires c.as_slice-2.result.now
    (subst (λ (q : List ℕ × List Bool). AreMarked c.args.self.now q.0 q.1) (λ j. (c.as_slice.ensures j, sym c.as_slice-2.ensures.value j)) c.in_ok-marks.ensures)
    (record { entries = reverse c.entries.inside.entries.keys; numbers = c.entries.inside.numbers.items }) (c.entries.view_is ∙ c.in_ok-entries.ensures)
    c.renumber.new.nodes (c.renumber.ensures ∙ ap (λ (ns : List ℕ). map (slice_index ns) c.args.roots.now) c.as_slice-3.ensures.value)

pub returns-clause-reached : goal.returns-clause-reached
returns-clause-reached c =
    swept_reached
    c.args.self.now (subst IsDiagram c.self.view_is c.self.invariant.diagram) c.args.roots.now c.requires c.as_slice-2.result.now
    (subst (λ (q : List ℕ × List Bool). AreMarked c.args.self.now q.0 q.1) (λ j. (c.as_slice.ensures j, sym c.as_slice-2.ensures.value j)) c.in_ok-marks.ensures)
    (record { entries = reverse c.entries.inside.entries.keys; numbers = c.entries.inside.numbers.items }) (c.entries.view_is ∙ c.in_ok-entries.ensures)
    c.renumber.new.nodes (c.renumber.ensures ∙ ap (λ (ns : List ℕ). map (slice_index ns) c.args.roots.now) c.as_slice-3.ensures.value)

pub returns-clause-fewer : goal.returns-clause-fewer
returns-clause-fewer c =
    swept_fewer
    c.args.self.now (subst IsDiagram c.self.view_is c.self.invariant.diagram) c.args.roots.now c.requires c.as_slice-2.result.now
    (subst (λ (q : List ℕ × List Bool). AreMarked c.args.self.now q.0 q.1) (λ j. (c.as_slice.ensures j, sym c.as_slice-2.ensures.value j)) c.in_ok-marks.ensures)
    (record { entries = reverse c.entries.inside.entries.keys; numbers = c.entries.inside.numbers.items }) (c.entries.view_is ∙ c.in_ok-entries.ensures)
