use Rattle.std.proofs.Common.{ap, sym, subst, ◌∙◌}
use Rattle.cov_base.specs.Rows.{AreOnce}
use Rattle.cov_view.specs.Shown.{bare_rows}
use Rattle.cov_view.proofs.Holding.{AreHeld}
use Rattle.cov_view.proofs.Shown.{rows-bare}
use Rattle.cov_view.proofs.Standing.{stand-once}
use Rattle.cov_view.proofs.rows.Rows.of_tree.Goals as goal

pub invariant_of-result : goal.invariant_of-result
invariant_of-result c =
    let tree = c.args.tree in
    let once = stand-once 0 (bare_rows tree) (rows-bare tree (subst AreOnce c.lend.ensures c.in_ok-rows.ensures.once)) in
    subst (AreHeld c.shared.result) (sym (c.in_ok-rows.ensures.rows ∙ ap bare_rows c.lend.ensures)) (once, c.shared.ensures)
