use Rattle.std.proofs.Common.{◌≡◌, take}
use Rattle.cov_edit.proofs.run_list.copied_runs.Given as goal

abbrev pub invariant-runs : goal.invariant-runs
invariant-runs l = l.copies.items ≡ take l.run-index l.runs
