use Rattle.std.proofs.Common.{◌≡◌, ◌+◌, ◌*◌, ◌≤◌, true, length}
use Rattle.std.specs.List.{fold, list_all}
use Rattle.cov_base.specs.declared.limits.TheConstants.{LIMITS, MOST_TEXT_BYTES}
use Rattle.cov_edit.specs.EditFits.{fits_edit}
use Rattle.cov_edit.specs.History.{edit_bytes, text_bytes}
use Rattle.cov_edit.specs.Numbering.{nodes_made, anchors_of}
use Rattle.cov_engine.proofs.sizes.measure.Given as goal

abbrev pub invariant-loop-ahead : goal.invariant-loop-ahead
invariant-loop-ahead l = record {
  lines : l.sizes.lines + length (anchors_of 0 l.ahead) ≡ length (anchors_of 0 l.edits);
  nodes : l.sizes.nodes + nodes_made l.ahead ≡ nodes_made l.edits;
  bytes : fold (λ sum e. sum + edit_bytes e) l.sizes.bytes l.ahead ≡ text_bytes l.edits;
  few_lines : l.sizes.lines + length l.ahead ≤ LIMITS.edits;
  few_nodes : l.sizes.nodes + length l.ahead ≤ LIMITS.edits;
  few_bytes : l.sizes.bytes + length l.ahead * MOST_TEXT_BYTES ≤ LIMITS.edits * MOST_TEXT_BYTES;
  fits : list_all fits_edit l.ahead ≡ true;
}

abbrev pub decreases-loop-ahead : goal.decreases-loop-ahead
decreases-loop-ahead l = length l.ahead
