use Rattle.std.proofs.Common.{◌≤◌, ℕ, length}
use Rattle.std.specs.List.{AllByRecursion}
use Rattle.cov_overtaking.specs.Overtakers.{noted}
use Rattle.cov_overtaking.proofs.commits.note_all.Given as goal

abbrev pub invariant-loop-ahead : goal.invariant-loop-ahead
invariant-loop-ahead l = record {
  later : (x : ℕ) → noted l.fn.notes x ≤ noted l.notes x;
  rest : (newest : ℕ → ℕ) → ((x : ℕ) → noted l.notes x ≤ newest x) → AllByRecursion (λ x. l.position ≤ newest x) l.ahead → AllByRecursion (λ x. l.position ≤ newest x) l.nodes;
}

abbrev pub decreases-loop-ahead : goal.decreases-loop-ahead
decreases-loop-ahead l = length l.ahead
