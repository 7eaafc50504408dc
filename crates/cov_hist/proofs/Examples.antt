-- Worked histories.
use Rattle.std.proofs.Common.{◌≡◌, ℕ, Bool, true, false, List, [], ◌∷◌, ◌++◌, Some, None, Ok, Err, refl}
use Rattle.std.specs.Prelude.{codes}
use Rattle.cov_base.specs.declared.number.NodeRef.TheVariants as nodes
use Rattle.cov_base.specs.declared.number.LineRef.TheVariants as lines
use Rattle.cov_expr.specs.Formula.{True, On, Not}
use Rattle.cov_edit.specs.declared.edit.Edit.TheVariants as edits
use Rattle.cov_edit.specs.declared.command.Command.{Command}
use Rattle.cov_edit.specs.declared.command.Command.TheVariants as commands
use Rattle.cov_edit.specs.Sides.{sided}
use Rattle.cov_edit.proofs.CallerLemmas.{absent_anchor as history}
use Rattle.cov_hist.specs.Holding.{holding}
use Rattle.cov_hist.specs.Origins.{blame, origin}
use Rattle.cov_hist.specs.Past.{choice_at}
use Rattle.cov_hist.specs.declared.fault.PastFault.TheVariants as faults
use Rattle.cov_hist.specs.declared.rows.BlameRow.{BlameRow}
use Rattle.cov_hist.specs.declared.rows.LogRow.{LogRow}

abbrev held : ℕ → ℕ → LogRow
held position edits = record { position = position; edits = edits }

abbrev from : ℕ → ℕ → List ℕ → BlameRow
from position line text = record { position = position; line = line; text = text }

abbrev on : List (ℕ × Bool)
on = (0, true) ∷ []

-- option d is command 1, and four commits follow: the file with A, B where d is on, C behind B, and X behind A
bound_then : choice_at history on 3 ≡ Ok (true ∷ [])
bound_then = refl

above_the_history : choice_at history on 6 ≡ Err faults.NoSuchPosition
above_the_history = refl

before_the_option : choice_at history on 0 ≡ Err (faults.LateOption 0)
before_the_option = refl

before_all : choice_at history [] 0 ≡ Ok []
before_all = refl

left_open : choice_at history [] 3 ≡ Err (faults.Incomplete 0)
left_open = refl

-- the position is looked at before the options, the least late option is named, and the late ones come before those left open
abbrev wide : List Command
wide = commands.Option (codes "a") ∷ commands.Option (codes "b") ∷ commands.Option (codes "c") ∷ commands.Constraint (Not (On 1)) ∷ commands.Constraint (On 0) ∷ []

position_first : choice_at wide ((2, true) ∷ []) 6 ≡ Err faults.NoSuchPosition
position_first = refl

least_late : choice_at wide ((1, true) ∷ (2, true) ∷ []) 1 ≡ Err (faults.LateOption 1)
least_late = refl

least_open : choice_at wide ((1, false) ∷ []) 5 ≡ Err (faults.Incomplete 0)
least_open = refl

-- a choice that was valid and isn't any more, and one that breaks a rule of then, the first being named
valid_then : choice_at wide ((0, false) ∷ (1, true) ∷ (2, true) ∷ []) 3 ≡ Ok (false ∷ true ∷ true ∷ [])
valid_then = refl

invalid_later : choice_at wide ((0, false) ∷ (1, true) ∷ (2, true) ∷ []) 4 ≡ Err (faults.Invalid 1)
invalid_later = refl

first_broken : choice_at wide ((0, false) ∷ (1, false) ∷ (2, true) ∷ []) 5 ≡ Err (faults.Invalid 2)
first_broken = refl

-- which commits hold
held_off : holding history (false ∷ []) ≡ held 2 2 ∷ held 4 1 ∷ held 5 1 ∷ []
held_off = refl

held_on : holding history (true ∷ []) ≡ held 2 2 ∷ held 3 1 ∷ held 4 1 ∷ held 5 1 ∷ []
held_on = refl

-- a commit is listed with none of its edits, too
abbrev sides : List Command
sides =
    history
    ++ commands.Commit 5 (true ∷ []) True (sided (On 0) (edits.Insert (nodes.Old 1) (lines.Old 1) (codes "Y")) ∷ sided True (edits.Insert (nodes.Old 1) (lines.Old 1) (codes "Z")) ∷ sided (On 0) (edits.Insert (nodes.Old 1) (lines.Old 1) (codes "W")) ∷ [])
    ∷ commands.Commit 6 (true ∷ []) True (sided (On 0) (edits.Delete (nodes.Old 1) (lines.Old 1)) ∷ [])
    ∷ []

sides_on : holding sides (true ∷ []) ≡ held 2 2 ∷ held 3 1 ∷ held 4 1 ∷ held 5 1 ∷ held 6 3 ∷ held 7 1 ∷ []
sides_on = refl

sides_off : holding sides (false ∷ []) ≡ held 2 2 ∷ held 4 1 ∷ held 5 1 ∷ held 6 1 ∷ held 7 0 ∷ []
sides_off = refl

-- where lines come from, those that are deleted too
first_line : origin history 1 ≡ Some 2
first_line = refl

last_line : origin history 4 ≡ Some 5
last_line = refl

no_line : origin history 0 ≡ None
no_line = refl

line_beyond : origin history 5 ≡ None
line_beyond = refl

line_amid : origin sides 6 ≡ Some 6
line_amid = refl

-- the lines stand as in the file
blamed_on : blame history (true ∷ []) 1 ≡ from 2 1 (codes "A") ∷ from 5 4 (codes "X") ∷ from 3 2 (codes "B") ∷ from 4 3 (codes "C") ∷ []
blamed_on = refl

no_file : blame history (true ∷ []) 2 ≡ []
no_file = refl
