-- The first valid choice on which an expression is true.
use Rattle.std.specs.Prelude.{ℕ, ◌&&◌, Bool, List, Option}
use Rattle.std.specs.List.{find}
use Rattle.cov_base.specs.Choices.{all_choices}
use Rattle.cov_expr.specs.Formula.{Formula, value}
use Rattle.cov_edit.specs.declared.command.Command.{Command}
use Rattle.cov_edit.specs.History.{option_count, is_valid_in}

-- the first choice of the declared options that is valid and on which an expression is true, if there is one
abbrev pub least_valid : List Command → Formula ℕ → Option (List Bool)
least_valid history e = find (λ c. is_valid_in history c && value e c) (all_choices (option_count history))
