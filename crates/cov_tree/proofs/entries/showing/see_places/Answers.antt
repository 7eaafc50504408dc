use Rattle.std.proofs.Common.{[], ◌∷◌, refl}
use Rattle.cov_tree.specs.Shown.{rows_of_by}
use Rattle.cov_tree.proofs.Shown.{place_step, rows_next}
use Rattle.cov_tree.proofs.entries.showing.see_places.Goals as goal

pub loop-ahead-preserved : goal.loop-ahead-preserved
loop-ahead-preserved c = record {
  rows = λ f agrees.
      rows_next (λ p. rows_of_by f c.args.node c.args.kind (p ∷ [])) (rows_of_by f c.args.node c.args.kind) refl (place_step f c.args.node c.args.kind) c.loop-ahead.ahead.now c.place-item.result
      c.loop-ahead.tree c.see_place.new.tree _ c.in-len1-up.len_at_least c.place-item.is (c.in_ok-see_place.ensures.rows f agrees)
      (c.loop-ahead.invariant.rows f (c.in_ok-see_place.ensures.grows f agrees));
  grows = λ f agrees. c.loop-ahead.invariant.grows f (c.in_ok-see_place.ensures.grows f agrees);
}
