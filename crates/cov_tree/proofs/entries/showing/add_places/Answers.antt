use Rattle.std.proofs.Common.{[], ◌∷◌, sym, subst, refl}
use Rattle.cov_base.specs.Rows.{AreOnce}
use Rattle.cov_tree.specs.Shown.{rows_of_by}
use Rattle.cov_values.specs.Values.{on_choice}
use Rattle.cov_tree.proofs.Shown.{next_once, place_fresh, place_step}
use Rattle.cov_tree.proofs.entries.showing.add_places.Goals as goal

pub add_place-requires : goal.add_place-requires
add_place-requires c = record {
  fresh = λ is.
      let f = on_choice c.args.table.now c.args.choice in
      place_fresh f c.args.node c.args.kind c.place-item.result c.loop-ahead.tree
      (next_once (λ p. rows_of_by f c.args.node c.args.kind (p ∷ [])) (rows_of_by f c.args.node c.args.kind) refl (place_step f c.args.node c.args.kind) c.loop-ahead.ahead.now c.place-item.result
      c.loop-ahead.tree c.in-len1-up.len_at_least c.place-item.is (subst AreOnce (sym c.loop-ahead.invariant.rows) c.requires.once)) is;
}
