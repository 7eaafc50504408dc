use Rattle.std.proofs.Common.{◌-◌, ℕ, Bool, length}
use Rattle.cov_values.specs.Sights.{AreRight}
use Rattle.cov_values.proofs.Keeping.{AreUntil}
use Rattle.cov_values.proofs.sights.Sights.note.Given as goal

abbrev pub invariant-loop-index : goal.invariant-loop-index
invariant-loop-index g l = record {
  sights : (shows : (ℕ → Bool) → g.row.T.Denot) → AreRight shows l.initial.self-inside.kept.items → AreUntil shows shows l.index l.self-inside.kept.items;
}

abbrev pub decreases-loop-index : goal.decreases-loop-index
decreases-loop-index g l = length l.self-inside.kept.items - l.index
