-- Worked histories.
use Rattle.std.proofs.Common.{◌≡◌, ℕ, true, false, List, [], ◌∷◌, ◌++◌, Ok, Err, refl}
use Rattle.std.specs.Prelude.{codes}
use Rattle.cov_base.specs.declared.number.NodeRef.TheVariants as nodes
use Rattle.cov_base.specs.declared.number.LineRef.TheVariants as lines
use Rattle.cov_expr.specs.Formula.{True, On, Not}
use Rattle.cov_edit.specs.declared.edit.Edit.TheVariants as edits
use Rattle.cov_edit.specs.declared.command.Command.{Command}
use Rattle.cov_edit.specs.declared.command.Command.TheVariants as commands
use Rattle.cov_edit.specs.Sides.{sided}
use Rattle.cov_edit.proofs.CallerLemmas.{absent_anchor as history, commit}
use Rattle.cov_alt.specs.Sides.{sides_at}
use Rattle.cov_alt.specs.declared.fault.AltFault.TheVariants as faults
use Rattle.cov_alt.specs.declared.line.AltLine.{AltLine}
use Rattle.cov_alt.specs.declared.line.Mark.{Mark}
use Rattle.cov_alt.specs.declared.line.Mark.TheVariants.{Both, OnOnly, OffOnly}

abbrev a_line : Mark → ℕ → List ℕ → AltLine
a_line mark line text = record { mark = mark; line = line; text = text }

abbrev at_m : List (List ℕ)
at_m = codes "m" ∷ []

-- B is there where d is on alone, and X stands before it, as it was inserted after A later
b_on_one_side : sides_at history (true ∷ []) 0 at_m ≡ Ok (a_line Both 1 (codes "A") ∷ a_line Both 4 (codes "X") ∷ a_line OnOnly 2 (codes "B") ∷ a_line Both 3 (codes "C") ∷ [])
b_on_one_side = refl

-- the side of the choice itself doesn't matter
from_the_other_side : sides_at history (false ∷ []) 0 at_m ≡ sides_at history (true ∷ []) 0 at_m
from_the_other_side = refl

-- B is taken out on both sides
abbrev deleted : List Command
deleted = history ++ commit 5 (true ∷ []) True (edits.Delete (nodes.Old 1) (lines.Old 2) ∷ []) ∷ []

b_on_no_side : sides_at deleted (true ∷ []) 0 at_m ≡ Ok (a_line Both 1 (codes "A") ∷ a_line Both 4 (codes "X") ∷ a_line Both 3 (codes "C") ∷ [])
b_on_no_side = refl

-- and X where d is on
abbrev deleted_twice : List Command
deleted_twice = deleted ++ commit 6 (true ∷ []) (On 0) (edits.Delete (nodes.Old 1) (lines.Old 4) ∷ []) ∷ []

x_on_one_side : sides_at deleted_twice (true ∷ []) 0 at_m ≡ Ok (a_line Both 1 (codes "A") ∷ a_line OffOnly 4 (codes "X") ∷ a_line Both 3 (codes "C") ∷ [])
x_on_one_side = refl

-- Y is put in where d is on, by a commit for all choices
abbrev inserted_on_one_side : List Command
inserted_on_one_side = history ++ commands.Commit 5 (true ∷ []) True (sided (On 0) (edits.Insert (nodes.Old 1) (lines.Old 1) (codes "Y")) ∷ []) ∷ []

y_on_one_side : sides_at inserted_on_one_side (true ∷ []) 0 at_m
    ≡ Ok (a_line Both 1 (codes "A") ∷ a_line OnOnly 5 (codes "Y") ∷ a_line Both 4 (codes "X") ∷ a_line OnOnly 2 (codes "B") ∷ a_line Both 3 (codes "C") ∷ [])
y_on_one_side = refl

-- a side that a constraint forbids
abbrev bound : List Command
bound = history ++ commands.Constraint (On 0) ∷ []

invalid_off : sides_at bound (true ∷ []) 0 at_m ≡ Err (faults.SideInvalid false 1)
invalid_off = refl

invalid_on : sides_at (history ++ commands.Constraint (Not (On 0)) ∷ []) (false ∷ []) 0 at_m ≡ Err (faults.SideInvalid true 1)
invalid_on = refl

-- the side is looked at before the path
invalid_first : sides_at bound (true ∷ []) 0 (codes "n" ∷ []) ≡ Err (faults.SideInvalid false 1)
invalid_first = refl

no_such_path : sides_at history (true ∷ []) 0 (codes "n" ∷ []) ≡ Err faults.NoSuchPath
no_such_path = refl

root_is_no_file : sides_at history (true ∷ []) 0 [] ≡ Err faults.NotFile
root_is_no_file = refl

-- the file is renamed and taken out where d is on: the path is that of the given choice, and the side without the file has no lines
abbrev file_on_one_side : List Command
file_on_one_side =
    history
    ++ commit 5 (false ∷ []) True (edits.Rename (nodes.Old 1) (codes "k") ∷ [])
    ∷ commit 6 (true ∷ []) (On 0) (edits.Remove (nodes.Old 1) ∷ [])
    ∷ []

no_lines_on : sides_at file_on_one_side (false ∷ []) 0 (codes "k" ∷ []) ≡ Ok (a_line OffOnly 1 (codes "A") ∷ a_line OffOnly 4 (codes "X") ∷ a_line OffOnly 3 (codes "C") ∷ [])
no_lines_on = refl

no_file_on : sides_at file_on_one_side (true ∷ []) 0 (codes "k" ∷ []) ≡ Err faults.NoSuchPath
no_file_on = refl
