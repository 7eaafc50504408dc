-- Worked histories.
use Rattle.std.proofs.Common.{◌≡◌, ℕ, Bool, true, false, List, [], ◌∷◌, ◌++◌, map, refl}
use Rattle.std.specs.Prelude.{codes}
use Rattle.std.specs.List.{fold}
use Rattle.cov_base.specs.Addresses.{line_of}
use Rattle.cov_base.specs.Rows.{Row}
use Rattle.cov_base.specs.declared.number.Kind.TheVariants as kinds
use Rattle.cov_base.specs.declared.number.NodeRef.TheVariants as nodes
use Rattle.cov_base.specs.declared.number.LineRef.TheVariants as lines
use Rattle.cov_expr.specs.Formula.{Formula, True, On, Not, value}
use Rattle.cov_edit.specs.declared.edit.Edit.{Edit}
use Rattle.cov_edit.specs.declared.edit.Edit.TheVariants as edits
use Rattle.cov_edit.specs.declared.command.Command.{Command}
use Rattle.cov_edit.specs.declared.command.Command.TheVariants as commands
use Rattle.cov_edit.specs.declared.edits.Run.{Run}
use Rattle.cov_edit.specs.History.{text_bytes}
use Rattle.cov_edit.specs.Runs.{sided_by}
use Rattle.cov_edit.specs.Sides.{sided}
use Rattle.cov_edit.specs.Variant.{bare, lines_of}
use Rattle.cov_edit.specs.Replay.{changes_within, applied, replay}
use Rattle.cov_edit.specs.Touched.{touched}
use Rattle.cov_edit.specs.Numbering.{no_numbers, numbered, node_count}

-- a commit all of whose edits have the side True
abbrev pub commit : ℕ → List Bool → Formula ℕ → List Edit → Command
commit base choice ambition es = commands.Commit base choice ambition (map (sided True) es)

-- the number and the text of each line of file 1 in the variant of a choice
abbrev read : List Bool → List Command → List (ℕ × List ℕ)
read c history = map (λ l. (line_of l.address, l.text)) (lines_of (replay c history) 1)

abbrev pub make_m : Edit
make_m = edits.New kinds.File (nodes.Old 0) (codes "m")

-- a file with a line, and a second line after the first
abbrev two_lines : List Command
two_lines =
    commit 0 [] True (make_m ∷ edits.Insert (nodes.New 0) (lines.Old 0) (codes "one") ∷ [])
    ∷ commit 1 [] True (edits.Insert (nodes.Old 1) (lines.Old 1) (codes "two") ∷ [])
    ∷ []

plain_use : read [] two_lines ≡ (1, codes "one") ∷ (2, codes "two") ∷ []
plain_use = refl

-- an ambition that is false on the choice
outside_ambition : value (On 0) (false ∷ []) ≡ false
outside_ambition = refl

-- B is inserted after A where d is on, C after B everywhere, and X after A from a variant that doesn't show B
abbrev pub absent_anchor : List Command
absent_anchor =
    commands.Option (codes "d")
    ∷ commit 1 (true ∷ []) True (make_m ∷ edits.Insert (nodes.New 0) (lines.Old 0) (codes "A") ∷ [])
    ∷ commit 2 (true ∷ []) (On 0) (edits.Insert (nodes.Old 1) (lines.Old 1) (codes "B") ∷ [])
    ∷ commit 3 (true ∷ []) True (edits.Insert (nodes.Old 1) (lines.Old 2) (codes "C") ∷ [])
    ∷ commit 4 (false ∷ []) True (edits.Insert (nodes.Old 1) (lines.Old 1) (codes "X") ∷ [])
    ∷ []

with_anchor : read (true ∷ []) absent_anchor ≡ (1, codes "A") ∷ (4, codes "X") ∷ (2, codes "B") ∷ (3, codes "C") ∷ []
with_anchor = refl

without_anchor : read (false ∷ []) absent_anchor ≡ (1, codes "A") ∷ (4, codes "X") ∷ (3, codes "C") ∷ []
without_anchor = refl

-- B is taken out everywhere, from a variant that shows it
abbrev without_B : List Command
without_B = absent_anchor ++ commit 5 (true ∷ []) True (edits.Delete (nodes.Old 1) (lines.Old 2) ∷ []) ∷ []

deleted : read (true ∷ []) without_B ≡ (1, codes "A") ∷ (4, codes "X") ∷ (3, codes "C") ∷ []
deleted = refl

deleted_where_absent : read (false ∷ []) without_B ≡ (1, codes "A") ∷ (4, codes "X") ∷ (3, codes "C") ∷ []
deleted_where_absent = refl

-- then X where d is on
abbrev without_X : List Command
without_X = without_B ++ commit 6 (true ∷ []) (On 0) (edits.Delete (nodes.Old 1) (lines.Old 4) ∷ []) ∷ []

deleted_within : read (true ∷ []) without_X ≡ (1, codes "A") ∷ (3, codes "C") ∷ []
deleted_within = refl

kept_outside : read (false ∷ []) without_X ≡ (1, codes "A") ∷ (4, codes "X") ∷ (3, codes "C") ∷ []
kept_outside = refl

-- a line that the same edits insert, which is named as the first of them
abbrev insert_and_delete : List Edit
insert_and_delete = edits.Insert (nodes.Old 1) (lines.Old 1) (codes "x") ∷ edits.Delete (nodes.Old 1) (lines.New 0) ∷ []

own_line_deleted : read [] (two_lines ++ commit 2 [] True insert_and_delete ∷ []) ≡ (1, codes "one") ∷ (2, codes "two") ∷ []
own_line_deleted = refl

deleted_text_counts : text_bytes insert_and_delete ≡ 1
deleted_text_counts = refl

-- the lines of file 1 after edits, each of which applies within the expression at its place
abbrev read_within : List Bool → List (Formula ℕ) → List Edit → List (ℕ × List ℕ)
read_within c within es = map (λ l. (line_of l.address, l.text)) (lines_of (fold (applied c) bare (changes_within within (numbered no_numbers es))) 1)

-- a file with two lines, and then the first of them taken out
abbrev two_and_delete : List Edit
two_and_delete =
    make_m ∷ edits.Insert (nodes.New 0) (lines.Old 0) (codes "one") ∷ edits.Insert (nodes.New 0) (lines.New 0) (codes "two") ∷ edits.Delete (nodes.New 0) (lines.New 0) ∷ []

each_where_on : read_within (true ∷ []) (True ∷ True ∷ On 0 ∷ Not (On 0) ∷ []) two_and_delete ≡ (1, codes "one") ∷ (2, codes "two") ∷ []
each_where_on = refl

each_where_off : read_within (false ∷ []) (True ∷ True ∷ On 0 ∷ Not (On 0) ∷ []) two_and_delete ≡ []
each_where_off = refl

-- edits of which no expression is given apply nowhere
nowhere : read_within (true ∷ []) (True ∷ True ∷ []) two_and_delete ≡ (1, codes "one") ∷ []
nowhere = refl

-- a line is taken out of the file that is named alone
other_file : read [] (two_lines ++ commit 2 [] True (edits.Delete (nodes.Old 2) (lines.Old 1) ∷ []) ∷ []) ≡ (1, codes "one") ∷ (2, codes "two") ∷ []
other_file = refl

deletes_touch : touched (edits.Delete (nodes.Old 1) (lines.New 0) ∷ edits.Delete (nodes.New 0) (lines.Old 1) ∷ []) ≡ 1 ∷ []
deletes_touch = refl

-- a directory with a file and a second directory, then changes of the rows where d is on
abbrev two_directories : List Command
two_directories =
    commands.Option (codes "d")
    ∷ commit 1 (true ∷ []) True
    (edits.New kinds.Dir (nodes.Old 0) (codes "src") ∷ edits.New kinds.File (nodes.New 0) (codes "a.c") ∷ edits.New kinds.Dir (nodes.Old 0) (codes "doc")
    ∷ edits.Insert (nodes.New 1) (lines.Old 0) (codes "one") ∷ [])
    ∷ []

abbrev with_changes : List Edit → List Command
with_changes es = two_directories ++ commit 2 (true ∷ []) (On 0) es ∷ []

abbrev rows_at : List Bool → List Command → List Row
rows_at c history = (replay c history).rows

abbrev src : Row
src = record { node = 1; kind = kinds.Dir; parent = 0; name = codes "src" }

abbrev a_c : Row
a_c = record { node = 2; kind = kinds.File; parent = 1; name = codes "a.c" }

abbrev doc : Row
doc = record { node = 3; kind = kinds.Dir; parent = 0; name = codes "doc" }

directories : rows_at (false ∷ []) (with_changes (edits.Rename (nodes.Old 1) (codes "lib") ∷ [])) ≡ src ∷ a_c ∷ doc ∷ []
directories = refl

renamed_within : rows_at (true ∷ []) (with_changes (edits.Rename (nodes.Old 1) (codes "lib") ∷ []))
    ≡ record { node = 1; kind = kinds.Dir; parent = 0; name = codes "lib" } ∷ a_c ∷ doc ∷ []
renamed_within = refl

moved_within : rows_at (true ∷ []) (with_changes (edits.Move (nodes.Old 2) (nodes.Old 3) ∷ []))
    ≡ src ∷ record { node = 2; kind = kinds.File; parent = 3; name = codes "a.c" } ∷ doc ∷ []
moved_within = refl

removed_within : rows_at (true ∷ []) (with_changes (edits.Remove (nodes.Old 2) ∷ [])) ≡ src ∷ doc ∷ []
removed_within = refl

-- an absent file keeps its line, and what comes later for it changes no row
removed_stays : rows_at (true ∷ []) (with_changes (edits.Remove (nodes.Old 2) ∷ edits.Rename (nodes.Old 2) (codes "b.c") ∷ edits.Move (nodes.Old 2) (nodes.Old 0) ∷ []))
    ≡ src ∷ doc ∷ []
removed_stays = refl

removed_keeps_lines : map (λ l. l.text) (lines_of (replay (true ∷ []) (with_changes (edits.Remove (nodes.Old 2) ∷ []))) 2) ≡ codes "one" ∷ []
removed_keeps_lines = refl

-- a node that the same edits made, moved into another that they made
own_moved : rows_at (true ∷ []) (with_changes (edits.New kinds.Dir (nodes.Old 3) (codes "x") ∷ edits.New kinds.Dir (nodes.Old 1) (codes "y") ∷ edits.Move (nodes.New 0) (nodes.New 1) ∷ []))
    ≡ src ∷ a_c ∷ doc ∷ record { node = 4; kind = kinds.Dir; parent = 5; name = codes "x" } ∷ record { node = 5; kind = kinds.Dir; parent = 1; name = codes "y" } ∷ []
own_moved = refl

changes_make_no_node : node_count (with_changes (edits.Rename (nodes.Old 1) (codes "lib") ∷ edits.Move (nodes.Old 2) (nodes.Old 3) ∷ edits.Remove (nodes.Old 2) ∷ [])) ≡ 4
changes_make_no_node = refl

-- a rename, a move and a removal touch their node, and a move not the directory into which it goes
changes_touch : touched (edits.Rename (nodes.Old 5) (codes "x") ∷ edits.Move (nodes.Old 3) (nodes.Old 1) ∷ edits.Remove (nodes.Old 4) ∷ edits.Remove (nodes.New 0) ∷ []) ≡ 3 ∷ 4 ∷ 5 ∷ []
changes_touch = refl

-- edits as they are kept: the second has the side d, and those after it True again
abbrev run_at : ℕ → Formula ℕ → Run
run_at first side = record { side = side; first = first }

sides_by_runs : sided_by (run_at 1 (On 0) ∷ run_at 2 True ∷ []) (make_m ∷ make_m ∷ make_m ∷ make_m ∷ [])
    ≡ sided True make_m ∷ sided (On 0) make_m ∷ sided True make_m ∷ sided True make_m ∷ []
sides_by_runs = refl

-- a file with a line, and a second line on the side d alone, in one commit; then the second is taken out on the side !d
abbrev on_a_side : List Command
on_a_side =
    commands.Option (codes "d")
    ∷ commands.Commit 1 (true ∷ []) True
    (sided True make_m ∷ sided True (edits.Insert (nodes.New 0) (lines.Old 0) (codes "one")) ∷ sided (On 0) (edits.Insert (nodes.New 0) (lines.New 0) (codes "two")) ∷ [])
    ∷ []

shown_on_its_side : read (true ∷ []) on_a_side ≡ (1, codes "one") ∷ (2, codes "two") ∷ []
shown_on_its_side = refl

not_shown_elsewhere : read (false ∷ []) on_a_side ≡ (1, codes "one") ∷ []
not_shown_elsewhere = refl

-- an edit keeps the number that it has among all edits, and applies where ambition and side are true
abbrev two_sides : List Command
two_sides =
    on_a_side
    ++ commands.Commit 2 (true ∷ []) True
    (sided (Not (On 0)) (edits.Insert (nodes.Old 1) (lines.Old 1) (codes "off")) ∷ sided (On 0) (edits.Insert (nodes.Old 1) (lines.New 0) (codes "on")) ∷ sided (On 0) (edits.Delete (nodes.Old 1) (lines.Old 2)) ∷ [])
    ∷ []

one_side : read (true ∷ []) two_sides ≡ (1, codes "one") ∷ (4, codes "on") ∷ []
one_side = refl

other_side : read (false ∷ []) two_sides ≡ (1, codes "one") ∷ (3, codes "off") ∷ []
other_side = refl

-- a line that the same commit inserts everywhere and takes out on the side d stays where d is off
abbrev own_line_on_a_side : List Command
own_line_on_a_side =
    commands.Option (codes "d")
    ∷ commands.Commit 1 (true ∷ []) True
    (sided True make_m ∷ sided True (edits.Insert (nodes.New 0) (lines.Old 0) (codes "one")) ∷ sided (On 0) (edits.Delete (nodes.New 0) (lines.New 0)) ∷ [])
    ∷ []

own_line_gone : read (true ∷ []) own_line_on_a_side ≡ []
own_line_gone = refl

own_line_kept : read (false ∷ []) own_line_on_a_side ≡ (1, codes "one") ∷ []
own_line_kept = refl
