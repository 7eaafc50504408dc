use Rattle.std.proofs.Common.{◌≡◌, ◌-◌}
use Rattle.cov_view.specs.Seen.{lies_within}
use Rattle.cov_view.proofs.rows.Rows.lies_within.Given as goal

abbrev pub invariant-steps : goal.invariant-steps
invariant-steps l = lies_within l.self (l.end - l.counter) l.top l.at ≡ lies_within l.self l.end l.top l.node
