-- Laws of the past.
use Rattle.std.specs.Prelude.{◌≡◌, ◌⊎◌, ℕ, ◌<◌, ◌≤◌, Bool, true, nat_lt, List, ◌++◌, length, take, Err}
use Rattle.std.specs.List.{list_all}
use Rattle.cov_edit.specs.declared.command.Command.{Command}
use Rattle.cov_edit.specs.History.{option_count}
use Rattle.cov_edit.specs.Numbering.{line_count}
use Rattle.cov_edit.specs.Replay.{replay}
use Rattle.cov_hist.specs.Origins.{origin}
use Rattle.cov_hist.specs.Past.{choice_at}
use Rattle.cov_hist.specs.declared.fault.PastFault.TheVariants as faults

-- whatever follows a history, at each of its positions the same bindings are the same choice, or refused for the same cause, and each
-- choice has the same variant
abbrev pub PastStays : Type 0
PastStays = (history later : List Command) (at : ℕ) → at ≤ length history
    → ((partial : List (ℕ × Bool)) → choice_at (history ++ later) partial at ≡ choice_at history partial at)
    × ((c : List Bool) → replay c (take at (history ++ later)) ≡ replay c (take at history))

-- whatever follows a history, the lines that it has come from the same commits
abbrev pub OriginsStay : Type 0
OriginsStay = (history later : List Command) (line : ℕ) → line ≤ line_count history → origin (history ++ later) line ≡ origin history line

-- where bindings bind declared options alone, so is each option for which they are refused
abbrev pub RefusedOptionsAreDeclared : Type 0
RefusedOptionsAreDeclared = (history : List Command) (partial : List (ℕ × Bool)) (at option : ℕ)
    → list_all (λ b. nat_lt b.0 (option_count history)) partial ≡ true
    → (choice_at history partial at ≡ Err (faults.LateOption option)) ⊎ (choice_at history partial at ≡ Err (faults.Incomplete option))
    → option < option_count history
