use Rattle.std.proofs.Common.{◌≡◌, ◌++◌, true, length}
use Rattle.std.specs.List.{list_all, AllByRecursion}
use Rattle.cov_edit.specs.EditFits.{fits_edit}
use Rattle.cov_record.specs.FitsRecord.{FitsReferences}
use Rattle.cov_record.specs.Payload.{all_edit_spelling}
use Rattle.cov_record.proofs.encoding.append_all.Given as goal

abbrev pub invariant-edits : goal.invariant-edits
invariant-edits l = record {
  whole : l.text ++ all_edit_spelling l.ahead ≡ l.fn.text ++ all_edit_spelling l.fn.edits;
  references : AllByRecursion FitsReferences l.ahead → AllByRecursion FitsReferences l.fn.edits;
  fits : list_all fits_edit l.ahead ≡ true;
}

abbrev pub decreases-edits : goal.decreases-edits
decreases-edits l = length l.ahead
