use Rattle.std.proofs.Common.{◌++◌, sym, subst, ◌∙◌}
use Rattle.std.proofs.lemmas.List.{with_items_is}
use Rattle.cov_view.proofs.Holding.{AreHeld, held-kept}
use Rattle.cov_view.proofs.rows.Rows.append_lines.Goals as goal

pub invariant_of-self : goal.invariant_of-self
invariant_of-self c =
    let index = c.self.inside.index in
    let rows = with_items_is c.self.inside.rows c.append_lines.new.rows (c.append_lines.auto.rows ∙ c.deref_mut.ensures.len) in
    subst (AreHeld index) (sym rows)
    (held-kept c.append_lines.result index c.args.file.now (λ ls. ls ++ c.args.lines) c.deref_mut.result.now c.append_lines.new.rows c.append_lines.ensures.ok c.append_lines.ensures.err
    (subst (AreHeld index) (sym c.deref_mut.ensures.value) c.self.invariant))
