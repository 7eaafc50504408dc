-- The choices on which a commit would leave an unsound variant.
use Rattle.std.specs.Prelude.{ℕ, Bool, ◌&&◌, List, [], ◌∷◌, ◌++◌, Option, Some, None, is_some, option_map}
use Rattle.std.specs.List.{find}
use Rattle.cov_base.specs.Choices.{all_choices}
use Rattle.cov_base.specs.Faults.{Fault, Clash, Orphan, Loop, fault_of}
use Rattle.cov_base.specs.Rows.{Row}
use Rattle.cov_expr.specs.Formula.{Formula, value}
use Rattle.cov_edit.specs.declared.command.Command.{Command}
use Rattle.cov_edit.specs.History.{option_count, is_valid_in}
use Rattle.cov_edit.specs.Replay.{replay}
use Rattle.cov_history.specs.declared.refusal.Refusal.{Refusal}
use Rattle.cov_history.specs.declared.refusal.Refusal.TheVariants as refusals

-- the fault that a variant has on a choice after one command more
abbrev pub fault_after : List Command → Command → List Bool → Option Fault
fault_after history k c = fault_of (replay c (history ++ k ∷ [])).rows

-- whether a choice is valid, within an ambition, and has a fault after one command more
abbrev pub is_bad : List Command → Formula ℕ → Command → List Bool → Bool
is_bad history ambition k c = is_valid_in history c && (value ambition c && is_some (fault_after history k c))

-- the first choice on which a commit within an ambition would leave a fault
abbrev pub bad_choice : List Command → Formula ℕ → Command → Option (List Bool)
bad_choice history ambition k = find (is_bad history ambition k) (all_choices (option_count history))

-- the refusal for a fault on a choice
abbrev pub fault_refusal : List Bool → Fault → Refusal
fault_refusal c (Clash low high) = refusals.Clash low high c
fault_refusal c (Orphan node) = refusals.Orphan node c
fault_refusal c (Loop node) = refusals.Loop node c

-- the refusal for the fault on a choice that was found
abbrev pub as_unsound : (List Bool → Option Fault) → Option (List Bool) → Option Refusal
as_unsound fault None = None
as_unsound fault (Some c) = option_map (fault_refusal c) (fault c)

-- the refusal of a commit that would leave a fault within its ambition: the fault on the first such choice
abbrev pub unsound_refusal : List Command → Formula ℕ → Command → Option Refusal
unsound_refusal history ambition k = as_unsound (fault_after history k) (bad_choice history ambition k)

-- whether a choice is within, and rows have a fault on it
abbrev pub is_faulty : (List Bool → List Row) → (List Bool → Bool) → List Bool → Bool
is_faulty rows within c = within c && is_some (fault_of (rows c))

-- the refusal for the fault on the first of all choices of so many options that is within and on which rows have one
abbrev pub refusal_by_rows : (List Bool → List Row) → (List Bool → Bool) → ℕ → Option Refusal
refusal_by_rows rows within count = as_unsound (λ c. fault_of (rows c)) (find (is_faulty rows within) (all_choices count))
