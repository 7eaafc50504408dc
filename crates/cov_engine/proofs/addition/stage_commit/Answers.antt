use Rattle.std.proofs.Common.{map, take, sym, subst}
use Rattle.cov_edit.specs.Touched.{AreRising}
use Rattle.cov_visible.specs.Parts.{part_node}
use Rattle.cov_visible.proofs.CallerLemmas.{rising-front, same-rising}
use Rattle.cov_engine.proofs.addition.stage_commit.Goals as goal

pub unstage-requires : goal.unstage-requires
unstage-requires c = record {
  rising = subst (λ n. AreRising (map part_node (take n c.stage.new.visible.files))) (sym c.len-files.ensures)
      (same-rising c.args.visible.now.files _ c.stage.ensures.front_files (rising-front (map part_node c.args.visible.now.files) _ c.requires.rising));
}
