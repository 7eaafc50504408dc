-- Which options the changes of what is held name.
use Rattle.std.specs.Prelude.{ℕ, ◌≤◌, List, length, take}
use Rattle.std.specs.List.{AllByRecursion}
use Rattle.cov_expr.specs.Formula.{Formula, reach}
use Rattle.cov_edit.specs.declared.command.Command.{Command}
use Rattle.cov_edit.specs.History.{option_count}
use Rattle.cov_history.specs.Kept.{Kept, Holding}

-- a change isn't beyond a history, and its expression has only options that are declared at its position
abbrev pub IsReached : List Command → (ℕ × Formula ℕ) → Type 0
IsReached history change = (change.0 ≤ length history) × (reach change.1 ≤ option_count (take change.0 history))

-- so is each change of an item
abbrev pub AreReached : {X : Type 0} → List Command → Kept X → Type 0
AreReached history k = AllByRecursion (IsReached history) k.changes

-- so is each change of what is held
pub record IsHeldInReach (history : List Command) (held : Holding) : Type 0 where
  pub of_rows : AllByRecursion (AreReached history) held.rows
  pub of_lines : AllByRecursion (AreReached history) held.lines
