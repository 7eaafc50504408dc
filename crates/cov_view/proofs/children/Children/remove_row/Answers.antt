use Rattle.std.proofs.Common.{Some, sym, ◌∙◌}
use Rattle.cov_view.specs.References.{same_node}
use Rattle.cov_view.specs.declared.row.ViewRow.{ViewRow}
use Rattle.cov_view.proofs.Directories.{index-removes, index-stays}
use Rattle.cov_view.proofs.Keys.{read_row, no_place}
use Rattle.cov_view.proofs.children.Children.remove_row.Goals as goal

pub returns-in-Some : goal.returns-in-Some
returns-in-Some c =
    let node = c.args.node.now in
    let rows = c.args.rows.now in
    index-removes c.args.self.now.is_kept c.take.new.self.is_kept rows node c.index-rows-at.result c.args.self.now.nodes.entries c.take.new.self.nodes.entries
    (read_row (λ (r : ViewRow). same_node r.node node) rows c.in-Some.at c.index-rows-at.result (sym c.requires.place ∙ c.in-Some.is) ∙ (λ i. Some (sym c.index-rows-at.is i)))
    c.take.ensures.left c.take.ensures.kept c.requires.index

pub returns-in-None : goal.returns-in-None
returns-in-None c =
    let node = c.args.node.now in
    index-stays c.args.self.now.is_kept c.args.rows.now node c.args.self.now.nodes.entries (no_place (λ (r : ViewRow). same_node r.node node) c.args.rows.now (sym c.requires.place ∙ c.in-None.is)) c.requires.index
