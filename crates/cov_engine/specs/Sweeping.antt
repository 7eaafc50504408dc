-- A state that has other nodes in the places of those that it kept.
use Rattle.std.specs.Prelude.{◌≡◌, length, map}
use Rattle.cov_rules.specs.Renumbered.{nodes_of as rule_nodes, without_nodes, HoldRenumbered}
use Rattle.cov_tree.specs.Renumbered.{visibilities, without_visibilities, KeepsRows}
use Rattle.cov_visible.specs.Renumbered.{ArePartsRenumbered}
use Rattle.cov_overtaking.specs.Marks.{without_nodes as without_mark_nodes}
use Rattle.cov_engine.specs.States.{table_of}
use Rattle.cov_engine.specs.declared.state.EngineState.{EngineState}

-- all else is as it was: where the nodes have the same options and values under their new numbers, the rules hold, and the rows and
-- the lines are visible on the same choices
pub record IsRenumberedState (old new : EngineState) : Type 0 where
  pub commands : new.commands ≡ old.commands
  pub options : new.options ≡ old.options
  pub positions : new.option_positions ≡ old.option_positions
  pub counts : new.counts ≡ old.counts
  pub upgraded : new.upgraded ≡ old.upgraded
  pub table : table_of new ≡ table_of old
  pub rule_count : length (rule_nodes new.rules.standing) ≡ length (rule_nodes old.rules.standing)
  pub rules : without_nodes new.rules.standing ≡ without_nodes old.rules.standing
  pub holds : HoldRenumbered old.rules.standing new.rules.standing
  pub entry_count : length (visibilities new.visible.entries) ≡ length (visibilities old.visible.entries)
  pub entries : without_visibilities new.visible.entries ≡ without_visibilities old.visible.entries
  pub rows : KeepsRows old.visible.entries new.visible.entries
  pub files : ArePartsRenumbered old.visible.files new.visible.files
  pub file_of_line : new.index.file_of_line.items ≡ old.index.file_of_line.items
  pub commits : map without_mark_nodes new.index.commits.items ≡ map without_mark_nodes old.index.commits.items
