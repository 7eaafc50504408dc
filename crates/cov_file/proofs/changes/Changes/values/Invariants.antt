use Rattle.std.proofs.Common.{◌≡◌, ℕ, Bool, length}
use Rattle.std.specs.List.{AllByRecursion}
use Rattle.cov_file.specs.Dated.{newest_vis}
use Rattle.cov_values.specs.Values.{on_choice, Agrees, IsKnown}
use Rattle.cov_file.proofs.changes.Changes.values.Given as goal

abbrev pub invariant-loop-ahead : goal.invariant-loop-ahead
invariant-loop-ahead l = record {
  known : (f : ℕ → Bool) → Agrees f l.values → AllByRecursion (λ x. f x.node ≡ on_choice l.table l.choice x.node) l.ahead
      → AllByRecursion (λ cs. f (newest_vis cs) ≡ on_choice l.table l.choice (newest_vis cs)) l.self.lists;
  agree : Agrees (on_choice l.table l.choice) l.values;
  last : IsKnown l.values l.last (on_choice l.table l.choice l.last);
}

abbrev pub decreases-loop-ahead : goal.decreases-loop-ahead
decreases-loop-ahead l = length l.ahead
