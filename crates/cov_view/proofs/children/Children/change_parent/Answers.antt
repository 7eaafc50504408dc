use Rattle.std.proofs.Common.{List, Some, refl, sym, subst, ◌∙◌}
use Rattle.cov_view.specs.Keys.{IsIndex}
use Rattle.cov_view.specs.References.{same_node}
use Rattle.cov_view.specs.Seen.{with_parent_by}
use Rattle.cov_view.specs.declared.row.ViewRow.{ViewRow}
use Rattle.cov_view.proofs.Changes.{none_found}
use Rattle.cov_view.proofs.Directories.{Key, index-changes}
use Rattle.cov_view.proofs.Keys.{read_row}
use Rattle.cov_view.proofs.children.Children.change_parent.Goals as goal

pub returns-in_default : goal.returns-in_default
returns-in_default c =
    subst (λ (rows : List ViewRow). IsIndex c.args.self.now.is_kept rows c.args.self.now.nodes.entries)
    (sym (none_found c.args.node.now (with_parent_by c.args.parent.now) c.args.rows.now (sym c.requires.place ∙ c.in_default.is))) c.requires.index

pub returns-in-Some-take : goal.returns-in-Some-take
returns-in-Some-take c =
    let node = c.args.node.now in
    let rows = c.args.rows.now in
    let key : Key = record { dir = c.args.parent.now; name = c.in-Some-take.name } in
    index-changes c.args.self.now.is_kept c.take.new.self.is_kept c.put.new.self.is_kept rows node (with_parent_by c.args.parent.now) c.index-rows-at.result
    c.args.self.now.nodes.entries c.take.new.self.nodes.entries c.put.new.self.nodes.entries key (λ q. refl)
    (read_row (λ (r : ViewRow). same_node r.node node) rows c.in-Some.at c.index-rows-at.result (sym c.requires.place ∙ c.in-Some.is) ∙ (λ i. Some (sym c.index-rows-at.is i)))
    c.requires.once c.take.ensures.kept c.take.ensures.left refl (c.in-Some-take.ensures.name) c.put.ensures c.requires.index
