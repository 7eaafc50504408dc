use Rattle.std.proofs.Common.{◌≡◌, ◌<◌, ◌+◌, ◌^◌, ◌++◌, true, length}
use Rattle.std.specs.List.{list_all}
use Rattle.cov_base.specs.Spelling.{is_line_text}
use Rattle.cov_cond.specs.Committing.{anchor_behind}
use Rattle.cov_cond.specs.Importing.{chained, meant_for_all}
use Rattle.cov_cond.proofs.importing.inserting.insert_texts.Given as goal

abbrev pub invariant-loop-ahead : goal.invariant-loop-ahead
invariant-loop-ahead l = record {
  inserted : l.edits ++ meant_for_all (chained l.file (anchor_behind l.first l.inserted) l.inserted l.ahead)
      ≡ l.fn.edits ++ meant_for_all (chained l.file (anchor_behind l.first l.before) l.before l.texts);
  spelt : list_all is_line_text l.ahead ≡ true;
  few : l.inserted + length l.ahead < 2 ^ 32;
}

abbrev pub decreases-loop-ahead : goal.decreases-loop-ahead
decreases-loop-ahead l = length l.ahead
