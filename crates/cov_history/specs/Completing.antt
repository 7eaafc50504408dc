-- The completion of a choice by the rules of a history.
use Rattle.std.specs.Prelude.{ℕ, Bool, List}
use Rattle.cov_edit.specs.declared.command.Command.{Command}
use Rattle.cov_edit.specs.History.{option_count, constraints_of, preferences_of, defaults_of}
use Rattle.cov_rules.specs.Completion.{Completion, completed_by, literals}

-- the completion of a partial choice by the constraints, preferences and defaults of a history
abbrev pub completed_in : List Command → List (ℕ × Bool) → Completion
completed_in history partial =
    completed_by (option_count history) (constraints_of history) (preferences_of history) (literals (defaults_of history)) partial
