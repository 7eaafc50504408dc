use Rattle.std.proofs.Common.{◌≡◌, ◌-◌, [], length, take, drop}
use Rattle.cov_replica.specs.Reading.{IsReadTo}
use Rattle.cov_replica.specs.Taken.{counted}
use Rattle.cov_replica.proofs.reading.Reading.read_records.Given as goal

abbrev pub invariant-records : goal.invariant-records
invariant-records l = record {
  bytes : l.self.bytes ≡ l.fn.self.bytes;
  read : IsReadTo l.self.bytes.items l.self.at l.self.digest l.self.engine.history;
  rest : counted (drop l.self.at (take l.fn.before l.self.bytes.items)) ≡ [];
}

abbrev pub decreases-records : goal.decreases-records
decreases-records l = length l.self.bytes.items - l.self.at
