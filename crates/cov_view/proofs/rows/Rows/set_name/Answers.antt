use Rattle.std.proofs.Common.{List, ℕ, ap, refl, sym, subst, ◌∙◌}
use Rattle.std.proofs.lemmas.List.{with_items_is}
use Rattle.cov_view.specs.Finding.{Finds}
use Rattle.cov_view.specs.Seen.{at_row, with_name_by}
use Rattle.cov_view.specs.declared.row.ViewRow.{ViewRow}
use Rattle.cov_view.proofs.Holding.{AreHeld}
use Rattle.cov_view.proofs.Standing.{once-changed}
use Rattle.cov_view.proofs.rows.Rows.set_name.Goals as goal

pub invariant_of-self-2 : goal.invariant_of-self-2
invariant_of-self-2 c =
    let node = c.args.node.now in
    let f = with_name_by c.args.name in
    let index = c.change_name.new.self in
    let rows = with_items_is c.self.inside.rows c.set_name.new.rows (c.set_name.auto.rows ∙ c.deref_mut.ensures.len) ∙ c.set_name.ensures ∙ ap (at_row node f) c.deref_mut.ensures.value in
    subst (AreHeld index) (sym rows) (
      once-changed node f (λ r. refl) c.self.inside.rows.items c.self.invariant.0,
      subst (λ (rs : List ViewRow). Finds index (at_row node f rs)) c.as_slice.ensures.value
          (subst (λ (name : List ℕ). Finds index (at_row node (with_name_by name) c.as_slice.result.now)) c.as_slice-2.ensures.bytes c.in_ok-change_name.ensures.ok),
    )
