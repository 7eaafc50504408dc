use Rattle.std.proofs.Common.{◌-◌, ℕ, Bool, length}
use Rattle.cov_values.specs.Sights.{AreRight, IsChanged}
use Rattle.cov_values.proofs.Keeping.{AreUntil}
use Rattle.cov_values.proofs.sights.Sights.change.Given as goal

abbrev pub invariant-loop-index : goal.invariant-loop-index
invariant-loop-index g l = record {
  sights : (before after : (ℕ → Bool) → g.row.T.Denot) → IsChanged (g.C.ShownChange.brings l.change) before after → AreRight before l.initial.self-inside.kept.items → AreUntil before after l.index l.self-inside.kept.items;
}

abbrev pub decreases-loop-index : goal.decreases-loop-index
decreases-loop-index g l = length l.self-inside.kept.items - l.index
