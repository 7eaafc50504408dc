use Rattle.std.proofs.Common.{◌++◌, map, sym, subst, refl}
use Rattle.cov_base.specs.Rows.{AreOnce}
use Rattle.cov_tree.specs.Dated.{entry_at}
use Rattle.cov_tree.specs.Entries.{rows_in, rows_of}
use Rattle.cov_tree.proofs.Shown.{next_once}
use Rattle.cov_tree.proofs.entries.showing.add_all.Goals as goal

pub add_places-requires : goal.add_places-requires
add_places-requires c = record {
  once =
      subst (λ ps. AreOnce (c.loop-ahead.tree ++ rows_of c.args.table.now c.args.choice c.entry-item.result.node c.entry-item.result.kind ps)) (sym c.places_at.ensures)
      (next_once (λ e. rows_of c.args.table.now c.args.choice e.node e.kind (entry_at c.args.at e).places) (λ es. rows_in c.args.table.now c.args.choice (map (entry_at c.args.at) es)) refl (λ e es. refl)
      c.loop-ahead.ahead.now c.entry-item.result c.loop-ahead.tree c.in-len1-up.len_at_least c.entry-item.is (subst AreOnce (sym c.loop-ahead.invariant.rows) c.requires.once));
}
