use Rattle.std.proofs.Common.{List, ap, refl, sym, subst, ◌∙◌}
use Rattle.std.proofs.lemmas.List.{with_items_is}
use Rattle.cov_view.specs.Finding.{Finds}
use Rattle.cov_view.specs.Seen.{at_row, with_parent_by}
use Rattle.cov_view.specs.declared.row.ViewRow.{ViewRow}
use Rattle.cov_view.proofs.Holding.{AreHeld}
use Rattle.cov_view.proofs.Standing.{once-changed}
use Rattle.cov_view.proofs.rows.Rows.set_parent.Goals as goal

pub invariant_of-self : goal.invariant_of-self
invariant_of-self c =
    let node = c.args.node.now in
    let f = with_parent_by c.args.parent.now in
    let index = c.change_parent.new.self in
    let rows = with_items_is c.self.inside.rows c.set_parent.new.rows (c.set_parent.auto.rows ∙ c.deref_mut.ensures.len) ∙ c.set_parent.ensures ∙ ap (at_row node f) c.deref_mut.ensures.value in
    subst (AreHeld index) (sym rows) (
      once-changed node f (λ r. refl) c.self.inside.rows.items c.self.invariant.0,
      subst (λ (rs : List ViewRow). Finds index (at_row node f rs)) c.as_slice.ensures.value c.change_parent.ensures,
    )
