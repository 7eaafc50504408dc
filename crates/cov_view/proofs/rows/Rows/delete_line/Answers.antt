use Rattle.std.proofs.Common.{sym, subst, ◌∙◌}
use Rattle.std.proofs.lemmas.List.{with_items_is}
use Rattle.cov_view.specs.Lines.{without_ref}
use Rattle.cov_view.proofs.Holding.{AreHeld, held-lines}
use Rattle.cov_view.proofs.rows.Rows.delete_line.Goals as goal

pub invariant_of-self : goal.invariant_of-self
invariant_of-self c =
    let index = c.self.inside.index in
    let rows = with_items_is c.self.inside.rows c.delete_line.new.rows (c.delete_line.auto.rows ∙ c.deref_mut.ensures.len) ∙ c.delete_line.ensures in
    subst (AreHeld index) (sym rows)
    (held-lines index c.args.file.now (without_ref c.args.line.now) c.deref_mut.result.now
    (subst (AreHeld index) (sym c.deref_mut.ensures.value) c.self.invariant))
