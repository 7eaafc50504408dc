-- Worked refusals and faults.
use Rattle.std.proofs.Common.{◌≡◌, ℕ, List, [], ◌∷◌, Option, Some, None, refl}
use Rattle.std.specs.Prelude.{codes}
use Rattle.cov_base.specs.declared.number.Kind.TheVariants as kinds
use Rattle.cov_base.specs.declared.number.NodeRef.{NodeRef}
use Rattle.cov_base.specs.declared.number.NodeRef.TheVariants as nodes
use Rattle.cov_base.specs.declared.number.LineRef.TheVariants as lines
use Rattle.cov_base.specs.Rows.{Row}
use Rattle.cov_expr.specs.Formula.{True}
use Rattle.cov_edit.specs.declared.edit.Edit.{Edit}
use Rattle.cov_edit.specs.declared.edit.Edit.TheVariants as edits
use Rattle.cov_edit.specs.declared.command.Command.{Command}
use Rattle.cov_edit.proofs.CallerLemmas.{commit}
use Rattle.cov_edit.specs.Numbering.{numbers_of}
use Rattle.cov_edit.specs.Replay.{replay}
use Rattle.cov_view.specs.Refusals.{first_refused}
use Rattle.cov_view.specs.Soundness.{fault_in}
use Rattle.cov_view.specs.declared.fault.Fault.TheVariants as unsound
use Rattle.cov_view.specs.declared.fault.EditFault.{EditFault}
use Rattle.cov_view.specs.declared.fault.EditFault.TheVariants as faults

-- the file 1 with the lines 1 and 2, and the directory 2
abbrev two_lines : List Command
two_lines =
    commit 0 [] True (
    edits.New kinds.File (nodes.Old 0) (codes "m")
    ∷ edits.New kinds.Dir (nodes.Old 0) (codes "d")
    ∷ edits.Insert (nodes.New 0) (lines.Old 0) (codes "one")
    ∷ edits.Insert (nodes.New 0) (lines.New 0) (codes "two")
    ∷ []) ∷ []

-- the first of these edits that is refused there
abbrev refused : List Edit → Option (ℕ × EditFault)
refused es = first_refused (numbers_of two_lines) (replay [] two_lines) es

abbrev insert_x : Edit
insert_x = edits.Insert (nodes.Old 1) (lines.Old 1) (codes "x")

deleted : refused (edits.Delete (nodes.Old 1) (lines.Old 1) ∷ []) ≡ None
deleted = refl

deleted_twice : refused (edits.Delete (nodes.Old 1) (lines.Old 1) ∷ edits.Delete (nodes.Old 1) (lines.Old 1) ∷ []) ≡ Some (1, faults.NoSuchLine)
deleted_twice = refl

-- the head is no line, and a deleted line no anchor
head_deleted : refused (edits.Delete (nodes.Old 1) (lines.Old 0) ∷ []) ≡ Some (0, faults.NoSuchLine)
head_deleted = refl

deleted_anchor : refused (edits.Delete (nodes.Old 1) (lines.Old 1) ∷ insert_x ∷ []) ≡ Some (1, faults.NoSuchLine)
deleted_anchor = refl

-- the order of the refusals
no_node : refused (edits.Delete (nodes.Old 3) (lines.Old 9) ∷ []) ≡ Some (0, faults.NoSuchNode)
no_node = refl

no_file : refused (edits.Delete (nodes.Old 2) (lines.Old 9) ∷ []) ≡ Some (0, faults.NotFile)
no_file = refl

in_root : refused (edits.Delete (nodes.Old 0) (lines.Old 1) ∷ []) ≡ Some (0, faults.NotFile)
in_root = refl

other_file : refused (edits.New kinds.File (nodes.Old 0) (codes "n") ∷ edits.Delete (nodes.New 0) (lines.Old 1) ∷ []) ≡ Some (1, faults.NoSuchLine)
other_file = refl

-- a line of the same edits is named as theirs, and never by the number that it would get
own_number : refused (insert_x ∷ edits.Delete (nodes.Old 1) (lines.Old 3) ∷ []) ≡ Some (1, faults.NoSuchLine)
own_number = refl

own_line : refused (insert_x ∷ edits.Delete (nodes.Old 1) (lines.New 0) ∷ []) ≡ None
own_line = refl

own_line_twice : refused (insert_x ∷ edits.Delete (nodes.Old 1) (lines.New 0) ∷ edits.Delete (nodes.Old 1) (lines.New 0) ∷ []) ≡ Some (2, faults.NoSuchLine)
own_line_twice = refl

-- the file and the directory, each below the root
abbrev m : NodeRef
m = nodes.Old 1

abbrev d : NodeRef
d = nodes.Old 2

abbrev root : NodeRef
root = nodes.Old 0

-- another name is refused where a node of the directory has it, the node itself too
renamed : refused (edits.Rename m (codes "x") ∷ []) ≡ None
renamed = refl

renamed_as_other : refused (edits.Rename m (codes "d") ∷ []) ≡ Some (0, faults.NameTaken)
renamed_as_other = refl

renamed_as_itself : refused (edits.Rename m (codes "m") ∷ []) ≡ Some (0, faults.NameTaken)
renamed_as_itself = refl

renamed_root : refused (edits.Rename root (codes "d") ∷ []) ≡ Some (0, faults.IsRoot)
renamed_root = refl

renamed_nothing : refused (edits.Rename (nodes.Old 3) (codes "d") ∷ []) ≡ Some (0, faults.NoSuchNode)
renamed_nothing = refl

-- the old name is free then
name_left : refused (edits.Rename m (codes "x") ∷ edits.New kinds.File root (codes "m") ∷ []) ≡ None
name_left = refl

-- a move, and the order of its refusals
moved : refused (edits.Move m d ∷ []) ≡ None
moved = refl

moved_root : refused (edits.Move root (nodes.Old 9) ∷ []) ≡ Some (0, faults.IsRoot)
moved_root = refl

moved_nothing : refused (edits.Move (nodes.Old 9) (nodes.Old 8) ∷ []) ≡ Some (0, faults.NoSuchNode)
moved_nothing = refl

moved_nowhere : refused (edits.Move m (nodes.New 0) ∷ []) ≡ Some (0, faults.NoSuchNode)
moved_nowhere = refl

moved_into_file : refused (edits.Move m m ∷ []) ≡ Some (0, faults.NotDirectory)
moved_into_file = refl

moved_into_itself : refused (edits.Move d d ∷ []) ≡ Some (0, faults.IntoItself)
moved_into_itself = refl

moved_below_itself : refused (edits.New kinds.Dir d (codes "e") ∷ edits.New kinds.Dir (nodes.New 0) (codes "f") ∷ edits.Move d (nodes.New 1) ∷ []) ≡ Some (2, faults.IntoItself)
moved_below_itself = refl

moved_to_its_place : refused (edits.Move m root ∷ []) ≡ Some (0, faults.NameTaken)
moved_to_its_place = refl

moved_to_its_name : refused (edits.New kinds.Dir d (codes "m") ∷ edits.Move m d ∷ []) ≡ Some (1, faults.NameTaken)
moved_to_its_name = refl

-- a removal, and the order of its refusals
removed : refused (edits.Remove m ∷ edits.Remove d ∷ []) ≡ None
removed = refl

removed_root : refused (edits.Remove root ∷ []) ≡ Some (0, faults.IsRoot)
removed_root = refl

removed_twice : refused (edits.Remove d ∷ edits.Remove d ∷ []) ≡ Some (1, faults.NoSuchNode)
removed_twice = refl

removed_with_a_node : refused (edits.Move m d ∷ edits.Remove d ∷ []) ≡ Some (1, faults.NotEmpty)
removed_with_a_node = refl

-- what is removed isn't there any more, and its name is free
removed_file : refused (edits.Remove m ∷ insert_x ∷ []) ≡ Some (1, faults.NoSuchNode)
removed_file = refl

removed_name : refused (edits.Remove m ∷ edits.Rename d (codes "m") ∷ []) ≡ None
removed_name = refl

-- a file with a name in a directory
abbrev row : ℕ → ℕ → List ℕ → Row
row node parent name = record { node = node; kind = kinds.File; parent = parent; name = name }

-- a clash comes before orphans and loops, and the least of them first, whatever the order of the rows
clash_first : fault_in (row 7 9 (codes "x") ∷ row 5 0 (codes "a") ∷ row 3 4 (codes "b") ∷ row 4 3 (codes "b") ∷ row 2 0 (codes "a") ∷ row 1 0 (codes "c") ∷ row 6 0 (codes "c") ∷ []) ≡ Some (unsound.Clash 1 6)
clash_first = refl

-- an orphan comes before a loop
orphan_first : fault_in (row 2 3 (codes "a") ∷ row 3 2 (codes "a") ∷ row 8 9 (codes "x") ∷ row 6 9 (codes "y") ∷ []) ≡ Some (unsound.Orphan 6)
orphan_first = refl

-- what lies below a loop doesn't reach the root either
loop_last : fault_in (row 5 0 (codes "a") ∷ row 3 4 (codes "b") ∷ row 4 3 (codes "b") ∷ row 2 3 (codes "c") ∷ []) ≡ Some (unsound.Loop 2)
loop_last = refl

sound : fault_in (row 2 1 (codes "a") ∷ row 1 0 (codes "a") ∷ []) ≡ None
sound = refl
