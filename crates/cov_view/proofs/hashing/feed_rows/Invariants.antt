use Rattle.std.proofs.Common.{◌≡◌, ℕ, List, ◌++◌, length}
use Rattle.std.specs.List.{flat_map}
use Rattle.sha2.specs.Hashers.{Holds256}
use Rattle.cov_view.specs.Tree.{row_bytes}
use Rattle.cov_view.proofs.hashing.feed_rows.Given as goal

abbrev pub invariant-loop-ahead : goal.invariant-loop-ahead
invariant-loop-ahead l = record {
  fed : (done : List ℕ) × (done ++ flat_map row_bytes l.ahead ≡ flat_map row_bytes l.rows) × ((m : List ℕ) → Holds256 l.initial.hasher m → Holds256 l.hasher (m ++ done));
}

abbrev pub decreases-loop-ahead : goal.decreases-loop-ahead
decreases-loop-ahead l = length l.ahead
