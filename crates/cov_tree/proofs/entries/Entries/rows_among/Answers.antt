use Rattle.std.proofs.Common.{[], ap, map, sym, ◌∙◌}
use Rattle.std.proofs.lemmas.Result.{IfOk-weaker}
use Rattle.cov_tree.specs.Dated.{Dated, among, entry_at, nodes_at}
use Rattle.cov_tree.specs.Entries.{rows_in}
use Rattle.cov_tree.proofs.Installing.{nodes_are}
use Rattle.cov_tree.proofs.entries.Entries.rows_among.Goals as goal

pub returns : goal.returns
returns c =
    IfOk-weaker c.rows_of_all.result _ _
    (λ found is.
    is
    ∙ ap (λ es. among c.args.nodes.now (rows_in c.args.table.now c.args.choice (map (entry_at c.args.at) es))) c.as_slice.ensures.value
    ∙ ap (λ es. among c.args.nodes.now (rows_in c.args.table.now c.args.choice es))
    (sym (nodes_are c.args.at (record { from = c.self.inside.from; entries = c.self.inside.entries.items; room = 0; noted = [] }) c.self.invariant.1))
    ∙ ap (λ (d : Dated). among c.args.nodes.now (rows_in c.args.table.now c.args.choice (nodes_at c.args.at d))) c.self.view_is)
    c.rows_of_all.ensures
