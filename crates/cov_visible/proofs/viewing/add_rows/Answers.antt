use Rattle.std.proofs.Common.{◌≡◌, [], ◌∷◌, ◌++◌, None, refl, sym, ap, subst, ◌∙◌}
use Rattle.cov_base.specs.Rows.{Row}
use Rattle.cov_base.specs.declared.number.NodeRef.TheVariants.{Old}
use Rattle.cov_view.specs.Seen.{kind_in}
use Rattle.cov_visible.specs.Showing.{bare_row}
use Rattle.cov_visible.proofs.Fresh.{added-fresh, added-next, added-all}
use Rattle.cov_visible.proofs.viewing.add_rows.Goals as goal

pub loop-ahead-init : goal.loop-ahead-init
loop-ahead-init c = record { rows = ([], refl, c.requires.none); nodes = refl; lines = refl }

pub add_row-requires : goal.add_row-requires
add_row-requires c =
    let rows = c.loop-ahead.view.rows in
    subst (λ (r : Row). kind_in rows (Old r.node) ≡ None) (sym c.row.view_is)
    (added-fresh c.args.rows.now rows c.loop-ahead.ahead.now c.row-item.result c.requires.once c.row-item.is c.in-len1-up.len_at_least c.loop-ahead.invariant.rows)

pub loop-ahead-preserved : goal.loop-ahead-preserved
loop-ahead-preserved c =
    let rows = c.loop-ahead.view.rows in
    let step = c.in_ok-add_row.ensures.rows ∙ ap (λ (r : Row). rows ++ bare_row r ∷ []) c.row.view_is in
    record {
      rows = added-next c.args.rows.now rows c.add_row.new.self.rows c.loop-ahead.ahead.now c.row-item.result c.row-item.is c.in-len1-up.len_at_least step c.loop-ahead.invariant.rows;
      nodes = c.add_row.ensures.nodes ∙ c.loop-ahead.invariant.nodes;
      lines = c.add_row.ensures.lines ∙ c.loop-ahead.invariant.lines;
    }

pub returns-clause-rows : goal.returns-clause-rows
returns-clause-rows c = added-all c.args.rows.now c.loop-ahead.view.rows c.loop-ahead.ahead.now c.in_default.len_below c.loop-ahead.invariant.rows
