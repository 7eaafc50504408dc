use Rattle.std.proofs.Common.{◌++◌, map, take, sym, ap, ◌∙◌}
use Rattle.std.specs.List.{filter}
use Rattle.cov_tree.specs.Dated.{among, entry_at}
use Rattle.cov_tree.specs.Entries.{rows_in}
use Rattle.cov_tree.proofs.Among.{among_more, is_of}
use Rattle.cov_tree.proofs.Rows.{taken}
use Rattle.cov_tree.proofs.entries.rows_of_all.Goals as goal

pub nodes-preserved : goal.nodes-preserved
nodes-preserved c =
    let rows = rows_in c.args.table.now c.args.choice (map (entry_at c.args.at) c.args.entries.now) in
    let node = c.node-item.result in
    c.in_ok-add_rows_of.ensures
    ∙ ap (λ rs. rs ++ filter (is_of node) rows) c.nodes.invariant
    ∙ sym (among_more (take c.nodes.node-index c.args.nodes.now) node rows)
    ∙ ap (λ ns. among ns rows) (sym (taken c.args.nodes.now c.nodes.node-index node c.nodes-test.true c.node-item.is))
