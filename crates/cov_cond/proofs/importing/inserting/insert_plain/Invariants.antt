use Rattle.std.proofs.Common.{◌≡◌, ◌<◌, ◌+◌, ◌^◌, ◌++◌, length}
use Rattle.cov_cond.specs.Committing.{anchor_behind, text_count}
use Rattle.cov_cond.specs.Importing.{chained, meant_for_all, plain_texts}
use Rattle.cov_cond.proofs.importing.inserting.insert_plain.Given as goal

abbrev pub invariant-loop-ahead : goal.invariant-loop-ahead
invariant-loop-ahead l = record {
  inserted : l.edits ++ meant_for_all (chained l.file (anchor_behind l.first l.inserted) l.inserted (plain_texts l.ahead)) ≡ l.fn.edits ++ meant_for_all (chained l.file l.first 0 (plain_texts l.runs));
  few : l.inserted + text_count l.ahead < 2 ^ 32;
}

abbrev pub decreases-loop-ahead : goal.decreases-loop-ahead
decreases-loop-ahead l = length l.ahead
