use Rattle.std.proofs.Common.{sym, subst, ◌∙◌}
use Rattle.std.proofs.lemmas.List.{with_items_is}
use Rattle.cov_view.specs.Lines.{after_ref}
use Rattle.cov_view.proofs.Holding.{AreHeld, held-kept}
use Rattle.cov_view.proofs.rows.Rows.insert_line.Goals as goal

pub invariant_of-self : goal.invariant_of-self
invariant_of-self c =
    let index = c.self.inside.index in
    let rows = with_items_is c.self.inside.rows c.insert_line.new.rows (c.insert_line.auto.rows ∙ c.deref_mut.ensures.len) in
    subst (AreHeld index) (sym rows)
    (held-kept c.insert_line.result index c.args.file.now (after_ref c.args.after.now c.args.line) c.deref_mut.result.now c.insert_line.new.rows c.insert_line.ensures.ok c.insert_line.ensures.err
    (subst (AreHeld index) (sym c.deref_mut.ensures.value) c.self.invariant))
