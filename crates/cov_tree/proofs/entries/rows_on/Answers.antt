use Rattle.std.proofs.Common.{[], ◌∷◌, ◌++◌, map, take, append-nil, sym, ap, ◌∙◌}
use Rattle.cov_tree.specs.Dated.{entry_at}
use Rattle.cov_tree.specs.Entries.{rows_of, rows_in}
use Rattle.cov_tree.proofs.Installing.{map_behind}
use Rattle.cov_tree.proofs.Rows.{rows_in-append, taken}
use Rattle.cov_tree.proofs.entries.rows_on.Goals as goal

pub entries-preserved : goal.entries-preserved
entries-preserved c =
    let table = c.args.table.now in
    let choice = c.args.choice in
    let at = c.args.at in
    let before = take c.entries.entry-index c.args.entries.now in
    let entry = c.entry-item.result in
    let own = rows_of table choice entry.node entry.kind (entry_at at entry).places in
    c.in_ok-add_rows.ensures
    ∙ ap (λ ps. c.entries.rows ++ rows_of table choice entry.node entry.kind ps) c.places_at.ensures
    ∙ ap (λ rs. rs ++ own) c.entries.invariant
    ∙ ap (λ rs. rows_in table choice (map (entry_at at) before) ++ rs) (sym (append-nil own))
    ∙ sym (rows_in-append table choice (map (entry_at at) before) (entry_at at entry ∷ []))
    ∙ ap (rows_in table choice) (sym (map_behind (entry_at at) before entry) ∙ ap (map (entry_at at)) (sym (taken c.args.entries.now c.entries.entry-index entry c.entries-test.true c.entry-item.is)))
