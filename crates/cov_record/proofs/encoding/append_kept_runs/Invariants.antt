use Rattle.std.proofs.Common.{◌≡◌, ◌<◌, ◌^◌, ◌++◌, true, length}
use Rattle.std.specs.List.{list_all, AllByRecursion}
use Rattle.cov_edit.specs.EditFits.{fits_edit}
use Rattle.cov_edit.specs.Runs.{RunsRise}
use Rattle.cov_record.specs.FitsRecord.{FitsWritten}
use Rattle.cov_record.specs.KeptRuns.{kept_runs, AreWithin}
use Rattle.cov_record.specs.Payload.{run_of, run_spelling}
use Rattle.cov_record.proofs.encoding.append_kept_runs.Given as goal

abbrev pub invariant-runs : goal.invariant-runs
invariant-runs l = record {
  whole : l.text ++ run_of run_spelling (kept_runs l.ahead l.left) ≡ l.fn.text ++ run_of run_spelling (kept_runs l.fn.runs l.fn.edits);
  fit : AllByRecursion FitsWritten (kept_runs l.ahead l.left) → AllByRecursion FitsWritten (kept_runs l.fn.runs l.fn.edits);
  few : length l.left < 2 ^ 32;
  fits : list_all fits_edit l.left ≡ true;
  rise : RunsRise l.ahead;
  within : AreWithin l.ahead (length l.left);
}

abbrev pub decreases-runs : goal.decreases-runs
decreases-runs l = length l.ahead
