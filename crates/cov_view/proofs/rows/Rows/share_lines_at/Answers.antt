use Rattle.std.proofs.Common.{◌++◌, map, sym, subst, ◌∙◌}
use Rattle.std.proofs.lemmas.List.{with_items_is}
use Rattle.cov_view.specs.Seen.{old_line}
use Rattle.cov_view.proofs.Holding.{AreHeld, held-kept}
use Rattle.cov_view.proofs.rows.Rows.share_lines_at.Goals as goal

pub invariant_of-self : goal.invariant_of-self
invariant_of-self c =
    let index = c.self.inside.index in
    let rows = with_items_is c.self.inside.rows c.share_lines.new.rows (c.share_lines.auto.rows ∙ c.deref_mut.ensures.len) in
    subst (AreHeld index) (sym rows)
    (held-kept c.share_lines.result index c.args.file.now (λ ls. ls ++ map old_line c.args.lines) c.deref_mut.result.now c.share_lines.new.rows c.share_lines.ensures.ok c.share_lines.ensures.err
    (subst (AreHeld index) (sym c.deref_mut.ensures.value) c.self.invariant))
