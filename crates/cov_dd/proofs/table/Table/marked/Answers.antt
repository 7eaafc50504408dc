use Rattle.std.proofs.Common.{◌∙◌, ◌+◌, ap, sym, subst, take_at, drop, length, replicate, false}
use Rattle.cov_dd.specs.Diagrams.{diagram_size}
use Rattle.cov_dd.specs.Marks.{AreMarked}
use Rattle.cov_dd.proofs.Insertion.{diagram_size-keys}
use Rattle.cov_dd.proofs.table.Table.marked.Goals as goal

pub mark_reached-requires-clause-empty : goal.mark_reached-requires-clause-empty
mark_reached-requires-clause-empty c =
    c.as_mut_slice.ensures.value
    ∙ c.in_ok-marks.ensures.items_if_clones_equal (λ y e. e)
    ∙ ap (λ n. replicate n false) (ap (λ n. n + 2) c.len.ensures.len ∙ sym (diagram_size-keys c.self.inside.entries.keys) ∙ ap diagram_size c.self.view_is)

pub returns : goal.returns
returns c =
    subst (AreMarked c.args.self.now c.args.roots.now)
    (sym (take_at c.mark_reached.new.marks (drop (length c.mark_reached.new.marks) c.in_ok-marks.marks.items) c.in_ok-marks.marks.len
    (c.mark_reached.auto.marks ∙ c.as_mut_slice.ensures.len)))
    c.mark_reached.ensures
