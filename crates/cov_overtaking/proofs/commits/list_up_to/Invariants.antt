use Rattle.std.proofs.Common.{◌≡◌, ℕ, ◌+◌, ◌-◌, length}
use Rattle.cov_overtaking.specs.Overtakers.{noted}
use Rattle.cov_overtaking.proofs.commits.list_up_to.Given as goal

abbrev pub invariant-loop-most : goal.invariant-loop-most
invariant-loop-most l = record {
  same : (x : ℕ) → noted l.notes x ≡ noted l.fn.notes x;
}

abbrev pub decreases-loop-most : goal.decreases-loop-most
decreases-loop-most l = l.most + 1 - length l.notes.listed.items
