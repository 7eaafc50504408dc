use Rattle.std.proofs.Common.{◌≡◌, List, Some, slice_index_or, refl, sym, ap, subst, ◌∙◌}
use Rattle.cov_view.specs.Keys.{IsIndex}
use Rattle.cov_view.specs.References.{same_node}
use Rattle.cov_view.specs.Seen.{with_name_by}
use Rattle.cov_view.specs.declared.row.ViewRow.{ViewRow}
use Rattle.cov_view.proofs.Changes.{none_found}
use Rattle.cov_view.proofs.Directories.{Key, index-changes}
use Rattle.cov_view.proofs.Keys.{read_row}
use Rattle.cov_view.proofs.children.Children.change_name.Goals as goal

pub returns-in_default : goal.returns-in_default
returns-in_default c =
    subst (λ (rows : List ViewRow). IsIndex c.args.self.now.is_kept rows c.args.self.now.nodes.entries)
    (sym (none_found c.args.node.now (with_name_by c.args.name.items) c.args.rows.now (sym c.requires.place ∙ c.in_default.is))) c.requires.index

pub returns : goal.returns
returns c =
    let node = c.args.node.now in
    let rows = c.args.rows.now in
    let at = read_row (λ (r : ViewRow). same_node r.node node) rows c.in-Some.at in
    let place = sym c.requires.place ∙ c.in-Some.is in
    let key : Key = record { dir = (slice_index_or rows c.in-Some.at c.index-rows-at.result).parent; name = c.args.name } in
    index-changes c.args.self.now.is_kept c.take.new.self.is_kept c.put.new.self.is_kept rows node (with_name_by c.args.name.items) c.index-rows-at-2.result
    c.args.self.now.nodes.entries c.take.new.self.nodes.entries c.put.new.self.nodes.entries key (λ q. refl)
    (at c.index-rows-at-2.result place ∙ (λ i. Some (sym c.index-rows-at-2.is i)))
    c.requires.once c.take.ensures.kept c.take.ensures.left
    (let e : Some (slice_index_or rows c.in-Some.at c.index-rows-at.result) ≡ Some c.index-rows-at-2.result = sym (at c.index-rows-at.result place) ∙ at c.index-rows-at-2.result place ∙ (λ i. Some (sym c.index-rows-at-2.is i)) in
    let f : slice_index_or rows c.in-Some.at c.index-rows-at.result ≡ c.index-rows-at-2.result = cc in ap (λ (r : ViewRow). r.parent) f)
    refl c.put.ensures c.requires.index
