use Rattle.std.proofs.Common.{◌++◌, ◌∙◌, map, ap, refl}
use Rattle.cov_tree.specs.Dated.{newest_entry}
use Rattle.cov_tree.specs.Shown.{rows_by, rows_of_by}
use Rattle.cov_tree.proofs.Shown.{rows_next}
use Rattle.cov_tree.proofs.entries.showing.see_all.Goals as goal

pub loop-ahead-preserved : goal.loop-ahead-preserved
loop-ahead-preserved c = record {
  rows = λ f agrees.
      rows_next (λ e. rows_of_by f e.node e.kind e.places) (λ es. rows_by f (map newest_entry es)) refl (λ e es. refl) c.loop-ahead.ahead.now c.entry-item.result
      c.loop-ahead.tree c.see_places.new.tree _ c.in-len1-up.len_at_least c.entry-item.is
      (c.in_ok-see_places.ensures.rows f agrees ∙ ap (λ ps. c.loop-ahead.tree ++ rows_of_by f c.entry-item.result.node c.entry-item.result.kind ps) c.as_slice.ensures)
      (c.loop-ahead.invariant.rows f (c.in_ok-see_places.ensures.grows f agrees));
}
