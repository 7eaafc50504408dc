use Rattle.std.proofs.Common.{[], ◌∷◌, ◌++◌, take, append-nil, sym, ap, ◌∙◌}
use Rattle.cov_tree.specs.Entries.{rows_of, rows_in}
use Rattle.cov_tree.proofs.Rows.{rows_in-append, taken}
use Rattle.cov_tree.proofs.entries.visible_rows.Goals as goal

pub entries-preserved : goal.entries-preserved
entries-preserved c =
    let table = c.args.table.now in
    let choice = c.args.choice in
    let before = take c.entries.entry-index c.args.entries.now in
    let entry = c.entry-item.result in
    c.in_ok-add_rows.ensures
    ∙ (λ j. c.entries.rows ++ rows_of table choice (c.node.ensures j) (c.kind.ensures j) (c.places.ensures j))
    ∙ ap (λ rs. rs ++ rows_of table choice entry.node entry.kind entry.places) c.entries.invariant
    ∙ ap (λ rs. rows_in table choice before ++ rs) (sym (append-nil (rows_of table choice entry.node entry.kind entry.places)))
    ∙ sym (rows_in-append table choice before (entry ∷ []))
    ∙ ap (rows_in table choice) (sym (taken c.args.entries.now c.entries.entry-index entry c.entries-test.true c.entry-item.is))
