use Rattle.std.proofs.Common.{◌≡◌, ◌≤◌, ◌+◌}
use Rattle.cov_base.specs.declared.limits.TheConstants.{MOST_PARTS}
use Rattle.cov_record.specs.Reading.{front_forest, onto}
use Rattle.cov_record.proofs.expression.take_signs.Given as goal

abbrev pub invariant-signs : goal.invariant-signs
invariant-signs l = record {
  whole : front_forest MOST_PARTS 1 l.fn.ahead ≡ onto l.signs.items (front_forest l.room l.need l.ahead);
  few : l.need + l.room ≤ MOST_PARTS + 1;
}

abbrev pub decreases-signs : goal.decreases-signs
decreases-signs l = l.room
