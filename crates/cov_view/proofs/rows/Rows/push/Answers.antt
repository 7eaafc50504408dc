use Rattle.std.proofs.Common.{List, [], ◌∷◌, ◌++◌, ap, sym, subst, ◌∙◌}
use Rattle.cov_view.specs.Finding.{Finds}
use Rattle.cov_view.specs.Seen.{has_row, StandOnce}
use Rattle.cov_view.specs.declared.row.ViewRow.{ViewRow}
use Rattle.cov_view.proofs.Standing.{once-append}
use Rattle.cov_view.proofs.rows.Rows.push.Goals as goal

pub invariant_of-self-2 : goal.invariant_of-self-2
invariant_of-self-2 c =
    let rows = c.self.inside.rows.items in
    let row : ViewRow = c.args.row in
    let joined = c.push_reserved.ensures.items ∙ ap (λ (rs : List ViewRow). rs ++ row ∷ []) c.reserve.ensures.items in
    let fresh = ap (λ (rs : List ViewRow). has_row rs row.node) c.self.view_is ∙ c.requires in (
      subst StandOnce (sym joined) (once-append rows row c.self.invariant.0 fresh),
      subst (Finds c.note.new.self) (ap (λ (rs : List ViewRow). rs ++ row ∷ []) c.as_slice.ensures.value ∙ sym c.push_reserved.ensures.items) c.in_ok-note.ensures.ok,
    )
