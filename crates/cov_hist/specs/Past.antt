-- The choice that bindings are at a position of a history.
use Rattle.std.specs.Prelude.{ℕ, Bool, false, nat_le, nat_lt, List, length, map, take, Option, Some, None, is_none, Result, Ok, Err, if◌then◌else◌}
use Rattle.std.specs.Option.{option_map, option_map_or}
use Rattle.std.specs.List.{find, range_with_len}
use Rattle.cov_expr.specs.Partials.{bound_value}
use Rattle.cov_edit.specs.declared.command.Command.{Command}
use Rattle.cov_edit.specs.History.{option_count, first_false_in}
use Rattle.cov_hist.specs.declared.fault.PastFault.{PastFault}
use Rattle.cov_hist.specs.declared.fault.PastFault.TheVariants as faults

-- the least option that is bound and isn't among the first so many, the bindings being in order of options
abbrev pub first_late : ℕ → List (ℕ × Bool) → Option ℕ
first_late count partial = option_map (λ b. b.0) (find (λ b. nat_le count b.0) partial)

-- the least of the first so many options that isn't bound
abbrev pub first_open : ℕ → List (ℕ × Bool) → Option ℕ
first_open count partial = find (λ option. is_none (bound_value partial option)) (range_with_len 0 count)

-- whether an option is bound as on
abbrev pub is_bound_on : List (ℕ × Bool) → ℕ → Bool
is_bound_on partial option = option_map_or (λ on. on) (bound_value partial option) false

-- the values of the first so many options as they are bound
abbrev pub values_of : ℕ → List (ℕ × Bool) → List Bool
values_of count partial = map (is_bound_on partial) (range_with_len 0 count)

-- what comes next, unless an option is bound that was declared later
abbrev pub unless_late : Option ℕ → Result (List Bool) PastFault → Result (List Bool) PastFault
unless_late None next = next
unless_late (Some option) next = Err (faults.LateOption option)

-- what comes next, unless an option isn't bound
abbrev pub unless_open : Option ℕ → Result (List Bool) PastFault → Result (List Bool) PastFault
unless_open None next = next
unless_open (Some option) next = Err (faults.Incomplete option)

-- a choice, unless a constraint is false on it
abbrev pub unless_invalid : Option ℕ → List Bool → Result (List Bool) PastFault
unless_invalid None choice = Ok choice
unless_invalid (Some rule) choice = Err (faults.Invalid rule)

-- a choice, unless a constraint of a history is false on it
abbrev pub valid_choice : List Command → List Bool → Result (List Bool) PastFault
valid_choice history choice = unless_invalid (first_false_in history choice) choice

-- the choice of a history's options that bindings are, unless they leave one open
abbrev pub whole_choice : List Command → List (ℕ × Bool) → Result (List Bool) PastFault
whole_choice history partial = unless_open (first_open (option_count history) partial) (valid_choice history (values_of (option_count history) partial))

-- the choice that bindings are after a history: they bind exactly its options, and each of its constraints is true. Refused where
-- they bind a later option, then where they leave one open, then where a constraint is false
abbrev pub choice_after : List Command → List (ℕ × Bool) → Result (List Bool) PastFault
choice_after history partial = unless_late (first_late (option_count history) partial) (whole_choice history partial)

-- the same at a position, which is refused first where the history has fewer commands
abbrev pub choice_at : List Command → List (ℕ × Bool) → ℕ → Result (List Bool) PastFault
choice_at history partial at = if nat_lt (length history) at then Err faults.NoSuchPosition else choice_after (take at history) partial
