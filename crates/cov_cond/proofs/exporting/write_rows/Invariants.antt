use Rattle.std.proofs.Common.{◌≡◌, false, None, length, map}
use Rattle.std.specs.List.{AllByRecursion}
use Rattle.cov_edit.specs.History.{options_of}
use Rattle.cov_engine.specs.Visibility.{is_no_line}
use Rattle.cov_cond.specs.Writing.{present_row, writing, written, IsGoing}
use Rattle.cov_cond.proofs.exporting.write_rows.Given as goal

abbrev pub invariant-loop-ahead : goal.invariant-loop-ahead
invariant-loop-ahead l =
    (written (options_of l.engine.history) (writing l.engine.history l.lines l.run) (map (present_row l.engine.history) l.ahead)
    ≡ written (options_of l.engine.history) (writing l.engine.history l.fn.lines None) (map (present_row l.engine.history) l.rows))
    × IsGoing l.engine.history l.engine.table l.run
    × AllByRecursion (λ r. is_no_line l.engine.history r.line ≡ false) l.ahead

abbrev pub decreases-loop-ahead : goal.decreases-loop-ahead
decreases-loop-ahead l = length l.ahead
