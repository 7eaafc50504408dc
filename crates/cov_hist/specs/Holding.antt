-- Which commits hold on a choice.
use Rattle.std.specs.Prelude.{ℕ, ◌+◌, Bool, List, [], ◌∷◌, ◌++◌, length, if◌then◌else◌}
use Rattle.std.specs.List.{filter}
use Rattle.cov_expr.specs.Formula.{Formula, value}
use Rattle.cov_edit.specs.declared.command.Command.{Command}
use Rattle.cov_edit.specs.declared.command.Command.TheVariants as commands
use Rattle.cov_edit.specs.declared.sided.Sided.{Sided}
use Rattle.cov_hist.specs.declared.rows.LogRow.{LogRow}

-- whether the side of an edit is true on a choice
abbrev pub is_on_side : List Bool → Sided → Bool
is_on_side c s = value s.side c

-- how many edits have a side that is true on a choice
abbrev pub edits_on : List Bool → List Sided → ℕ
edits_on c ss = length (filter (is_on_side c) ss)

-- a commit by its position, with the number of its edits whose side is true on a choice
abbrev pub log_row : ℕ → List Sided → List Bool → LogRow
log_row p ss c = record { position = p; edits = edits_on c ss }

-- the commit at a position, if its ambition is true on a choice
abbrev pub held : ℕ → Formula ℕ → List Sided → List Bool → List LogRow
held p ambition ss c = if value ambition c then log_row p ss c ∷ [] else []

-- those of more commands, so many coming before them
abbrev pub holding_from : ℕ → List Command → List Bool → List LogRow
holding_from p [] c = []
holding_from p (commands.Option name ∷ later) c = holding_from (p + 1) later c
holding_from p (commands.Constraint expr ∷ later) c = holding_from (p + 1) later c
holding_from p (commands.Prefer expr ∷ later) c = holding_from (p + 1) later c
holding_from p (commands.Default option on ∷ later) c = holding_from (p + 1) later c
holding_from p (commands.Commit base choice ambition ss ∷ later) c = held (p + 1) ambition ss c ++ holding_from (p + 1) later c
holding_from p (commands.Upgrade ∷ later) c = holding_from (p + 1) later c

-- the commits of a history whose ambition is true on a choice, in order, each with the number of its edits whose side is true there
abbrev pub holding : List Command → List Bool → List LogRow
holding history c = holding_from 0 history c
