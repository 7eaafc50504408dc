use Rattle.std.proofs.Common.{◌≡◌, ◌-◌}
use Rattle.cov_record.specs.Reading.{front_runs, laid}
use Rattle.cov_record.specs.SideRuns.{side_before}
use Rattle.cov_record.proofs.by_runs.fill_runs.Given as goal

abbrev pub invariant-loop-run : goal.invariant-loop-run
invariant-loop-run l =
    laid l.fn.edits (front_runs (side_before l.fn.edits) l.fn.count l.fn.ahead) ≡ laid l.edits (front_runs (side_before l.edits) (l.fn.count - l.run) l.ahead)
