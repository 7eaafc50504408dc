use Rattle.std.proofs.Common.{take, drop}
use Rattle.std.proofs.lemmas.List.{take-append-drop}
use Rattle.cov_loop.proofs.Appending.{all_then_some, failing, same_some}
use Rattle.cov_loop.proofs.rows.put_rows.Goals as goal

pub returns-in_err-put_row-clause-some : goal.returns-in_err-put_row-clause-some
returns-in_err-put_row-clause-some g c =
    let rows = c.as_slice-row-items.result.now in
    failing c.from_residual.result
    (rw (← c.as_slice-row-items.ensures, ← take-append-drop c.rows.row-index rows)
    (all_then_some (take c.rows.row-index rows) (drop c.rows.row-index rows) (g.T.Trees.rows c.args.trees.now) (g.T.Trees.rows c.rows.trees) (g.T.Trees.rows c.put_row.new.trees)
    c.rows.invariant.written (same_some _ _ _ c.in_err-put_row.ensures.none)))
