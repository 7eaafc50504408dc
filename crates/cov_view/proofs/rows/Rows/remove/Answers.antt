use Rattle.std.proofs.Common.{◌≡◌, List, position, ap, sym, subst, ◌∙◌}
use Rattle.cov_view.specs.Finding.{Finds}
use Rattle.cov_view.specs.References.{same_node}
use Rattle.cov_view.specs.Seen.{without_node, StandOnce}
use Rattle.cov_view.specs.declared.row.ViewRow.{ViewRow}
use Rattle.cov_view.proofs.Keys.{no_place, removed_row}
use Rattle.cov_view.proofs.Standing.{none-among, none-without, once-without}
use Rattle.cov_view.proofs.rows.Rows.remove.Goals as goal

-- the rows are those without the node's
left : (c : goal.After-drop-remove-in-Some) → c.remove-in-Some.new.self.items ≡ without_node c.args.node.now c.self.inside.rows.items
left c =
    c.remove-in-Some.ensures.items
    ∙ removed_row c.args.node.now c.self.inside.rows.items c.in-Some.at c.self.invariant.0
    (ap (λ (rows : List ViewRow). position (λ r. same_node r.node c.args.node.now) rows) c.self.view_is ∙ sym c.place-place.ensures.place ∙ c.in-Some.is)

-- no row is the node's
same : (c : goal.In-None) → without_node c.args.node.now c.self.inside.rows.items ≡ c.self.inside.rows.items
same c =
    none-without c.args.node.now c.self.inside.rows.items
    (none-among c.self.inside.rows.items c.args.node.now
    (no_place (λ r. same_node r.node c.args.node.now) c.self.inside.rows.items
    (ap (λ (rows : List ViewRow). position (λ r. same_node r.node c.args.node.now) rows) c.self.view_is ∙ sym c.place-place.ensures.place ∙ c.in-None.is)))

pub invariant_of-self : goal.invariant_of-self
invariant_of-self c = (
  subst StandOnce (sym (left c)) (once-without c.args.node.now c.self.inside.rows.items c.self.invariant.0),
  subst (Finds c.remove.new.self) (ap (without_node c.args.node.now) c.as_slice.ensures.value ∙ sym (left c)) c.remove.ensures,
)

pub invariant_of-self-in-None : goal.invariant_of-self-in-None
invariant_of-self-in-None c = (
  c.self.invariant.0,
  subst (Finds c.remove.new.self) (ap (without_node c.args.node.now) c.as_slice.ensures.value ∙ same c) c.remove.ensures,
)

pub returns-in-Some : goal.returns-in-Some
returns-in-Some c = left c ∙ ap (without_node c.args.node.now) c.self.view_is

pub returns-in-None : goal.returns-in-None
returns-in-None c = sym (same c) ∙ ap (without_node c.args.node.now) c.self.view_is
