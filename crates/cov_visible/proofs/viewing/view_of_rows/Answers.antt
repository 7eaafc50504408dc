use Rattle.std.proofs.Common.{map, sym, ap, subst, ◌∙◌}
use Rattle.cov_view.specs.Seen.{Seen}
use Rattle.cov_view.specs.Soundness.{AreOld, old_row}
use Rattle.cov_visible.proofs.ShownRows.{bare-old, bare-told}
use Rattle.cov_visible.proofs.viewing.view_of_rows.Goals as goal

pub returns-clause-view : goal.returns-clause-view
returns-clause-view c =
    let nodes = c.in_ok-add_rows.ensures.nodes ∙ ap (λ (v : Seen). v.nodes_made) c.in_ok-view.ensures in
    let lines = c.in_ok-add_rows.ensures.lines ∙ ap (λ (v : Seen). v.lines_made) c.in_ok-view.ensures in
    λ i. record { rows = c.in_ok-add_rows.ensures.rows i; nodes_made = nodes i; lines_made = lines i }

pub returns-clause-old : goal.returns-clause-old
returns-clause-old c = subst AreOld (sym c.in_ok-add_rows.ensures.rows) (bare-old c.args.rows.now)

pub returns-clause-rows : goal.returns-clause-rows
returns-clause-rows c = ap (map old_row) c.in_ok-add_rows.ensures.rows ∙ bare-told c.args.rows.now
