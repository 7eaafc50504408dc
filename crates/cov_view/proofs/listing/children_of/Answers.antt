use Rattle.std.proofs.Common.{List, [], ◌∷◌, ◌++◌, map, filter, sym, ap, ◌∙◌}
use Rattle.cov_view.specs.Listing.{dir_row}
use Rattle.cov_view.specs.References.{same_node}
use Rattle.cov_view.specs.declared.row.ViewRow.{ViewRow}
use Rattle.cov_view.specs.declared.listing.DirRow.{DirRow}
use Rattle.cov_view.proofs.Listed.{listed_more, listed_all}
use Rattle.cov_view.proofs.listing.children_of.Goals as goal

pub rows-init : goal.rows-init
rows-init c = c.new-children.ensures.items

pub rows-preserved : goal.rows-preserved
rows-preserved c =
    c.in_ok-add_child.ensures
    ∙ ap (λ (l : List DirRow). l ++ map dir_row (filter (λ (r : ViewRow). same_node r.parent c.args.dir.now) (c.row-item.result ∷ []))) c.rows.invariant
    ∙ sym (listed_more c.args.dir.now c.args.rows.now c.rows.row-index c.row-item.result c.rows-test.true c.row-item.is)

pub returns : goal.returns
returns c = c.rows.invariant ∙ listed_all c.args.dir.now c.args.rows.now c.rows.row-index c.rows-test.false
