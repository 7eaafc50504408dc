-- A history of a file with lines for all variants, lines for those with an option, and lines that are taken out.
use Rattle.std.specs.Prelude.{ℕ, true, false, List, [], ◌∷◌, ◌++◌, Some, None, codes}
use Rattle.cov_base.specs.declared.number.Kind.TheVariants as kinds
use Rattle.cov_base.specs.declared.number.NodeRef.{NodeRef}
use Rattle.cov_base.specs.declared.number.NodeRef.TheVariants as nodes
use Rattle.cov_base.specs.declared.number.LineRef.TheVariants as lines
use Rattle.cov_expr.specs.Formula.{On}
use Rattle.cov_edit.specs.declared.edit.Edit.{Edit}
use Rattle.cov_edit.specs.declared.edit.Edit.TheVariants as edits
use Rattle.cov_edit.specs.declared.command.Command.{Command}
use Rattle.cov_edit.specs.declared.command.Command.TheVariants as commands
use Rattle.cov_edit.specs.declared.sided.Sided.{Sided}
use Rattle.cov_engine_tests.specs.Trees.{commit_in, everywhere}

-- the option d
abbrev pub of_d : Command
of_d = commands.Option (codes "d")

-- the file m
abbrev pub file_m : Edit
file_m = edits.New kinds.File (nodes.Old 0) (codes "m")

-- a line more of a file, after another
abbrev pub line_in : NodeRef → ℕ → List ℕ → Edit
line_in file after text = edits.Insert file (lines.Old after) text

-- the file m with a line
abbrev pub file_with : List ℕ → List Sided
file_with text = everywhere (file_m ∷ line_in (nodes.New 0) 0 text ∷ [])

-- a line more of that file
abbrev pub line_after : ℕ → List ℕ → List Sided
line_after after text = everywhere (line_in (nodes.Old 1) after text ∷ [])

-- a line less
abbrev pub without : ℕ → List Sided
without line = everywhere (edits.Delete (nodes.Old 1) (lines.Old line) ∷ [])

-- the file m with A, for all variants
abbrev pub with_A : List Command
with_A = of_d ∷ commit_in 1 (true ∷ []) None (file_with (codes "A")) ∷ []

-- B after A, for those with d
abbrev pub with_B : List Command
with_B = with_A ++ commit_in 2 (true ∷ []) (Some 0) (line_after 1 (codes "B")) ∷ []

-- C after B, for all
abbrev pub with_C : List Command
with_C = with_B ++ commit_in 3 (true ∷ []) None (line_after 2 (codes "C")) ∷ []

-- X after A, for all, from the variant without d
abbrev pub with_X : List Command
with_X = with_C ++ commit_in 4 (false ∷ []) None (line_after 1 (codes "X")) ∷ []

-- the file n
abbrev pub file_n : Edit
file_n = edits.New kinds.File (nodes.Old 0) (codes "n")

-- the file n, and Y after A, both on the base before them
abbrev pub with_Y : List Command
with_Y = with_X ++ commit_in 5 (false ∷ []) None (everywhere (file_n ∷ [])) ∷ commit_in 5 (false ∷ []) None (line_after 1 (codes "Y")) ∷ []

-- B is taken out of all
abbrev pub without_B : List Command
without_B = with_X ++ commit_in 5 (true ∷ []) None (without 2) ∷ []

-- X is taken out of those with d
abbrev pub without_X : List Command
without_X = without_B ++ commit_in 6 (true ∷ []) (Some 0) (without 4) ∷ []

-- each choice has d
abbrev pub bound_to_d : List Command
bound_to_d = with_X ++ commands.Constraint (On 0) ∷ []
