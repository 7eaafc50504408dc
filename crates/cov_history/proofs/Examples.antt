-- Worked histories.
use Rattle.std.proofs.Common.{◌≡◌, ℕ, Bool, true, false, List, [], ◌∷◌, ◌++◌, map, replicate, Option, Some, None, refl, ap}
use Rattle.std.specs.Prelude.{codes}
use Rattle.cov_base.specs.Addresses.{line_of}
use Rattle.cov_base.specs.Rows.{Row, Renamed, Removed}
use Rattle.cov_base.specs.declared.number.Kind.TheVariants as kinds
use Rattle.cov_base.specs.declared.number.NodeRef.TheVariants as nodes
use Rattle.cov_base.specs.declared.number.LineRef.TheVariants as lines
use Rattle.cov_expr.specs.Formula.{Formula, True, On, Not, And}
use Rattle.cov_edit.specs.declared.edit.Edit.{Edit}
use Rattle.cov_edit.specs.declared.edit.Edit.TheVariants as edits
use Rattle.cov_edit.specs.declared.command.Command.{Command}
use Rattle.cov_edit.specs.declared.command.Command.TheVariants as commands
use Rattle.cov_edit.specs.Limits.{limits_of}
use Rattle.cov_edit.specs.Numbering.{OnRows, Deleted}
use Rattle.cov_edit.specs.Replay.{replay}
use Rattle.cov_edit.specs.Sides.{sided}
use Rattle.cov_edit.specs.Variant.{lines_of}
use Rattle.cov_edit.proofs.CallerLemmas.{commit, make_m, absent_anchor as history}
use Rattle.cov_view.specs.Refusals.{first_of}
use Rattle.cov_history.specs.Verdict.{IsLegal, verdict, when_full, refusals_of, refusals_by_size}
use Rattle.cov_history.specs.declared.refusal.Refusal.{Refusal}
use Rattle.cov_history.specs.declared.refusal.Refusal.TheVariants as refusals
use Rattle.cov_history.specs.FileNodes.{files_made, files_of}
use Rattle.cov_history.specs.FileOfLine.{file_of_line_in}
use Rattle.cov_history.specs.InsertedTexts.{texts_in}
use Rattle.cov_history.specs.Insertions.{held_amid}
use Rattle.cov_history.specs.Kept.{kept_number, kept_of, entries_of, kept_after, entries_after, lines_seen, rows_seen}

-- the file of each line by its number
file_of_line : file_of_line_in history ≡ 1 ∷ 1 ∷ 1 ∷ 1 ∷ []
file_of_line = refl

-- the text of each line by its number
texts : texts_in history ≡ codes "A" ∷ codes "B" ∷ codes "C" ∷ codes "X" ∷ []
texts = refl

-- the numbers of the lines in order
all_kept : map kept_number (kept_of history) ≡ 1 ∷ 4 ∷ 2 ∷ 3 ∷ []
all_kept = refl

abbrev read : List Bool → ℕ → List (ℕ × List ℕ)
read c p = map (λ l. (line_of l.address, l.text)) (lines_seen c p (kept_of history))

with_d : read (true ∷ []) 5 ≡ (1, codes "A") ∷ (4, codes "X") ∷ (2, codes "B") ∷ (3, codes "C") ∷ []
with_d = refl

without_d : read (false ∷ []) 5 ≡ (1, codes "A") ∷ (4, codes "X") ∷ (3, codes "C") ∷ []
without_d = refl

-- a commit is seen from its own position on
before_commit : read (true ∷ []) 2 ≡ (1, codes "A") ∷ []
before_commit = refl

at_commit : read (true ∷ []) 3 ≡ (1, codes "A") ∷ (2, codes "B") ∷ []
at_commit = refl

abbrev row_m : List ℕ → Row
row_m name = record { node = 1; kind = kinds.File; parent = 0; name = name }

no_row_yet : rows_seen (false ∷ []) 1 (entries_of history) ≡ []
no_row_yet = refl

row_is_there : rows_seen (false ∷ []) 2 (entries_of history) ≡ row_m (codes "m") ∷ []
row_is_there = refl

-- a line that is hidden where d is on stays everywhere else
hidden_line : map (λ l. l.text) (lines_seen (true ∷ []) 6 (kept_after 6 (On 0) (kept_of history) (Deleted 1 (1 ∷ [])))) ≡ codes "X" ∷ codes "B" ∷ codes "C" ∷ []
hidden_line = refl

line_elsewhere : map (λ l. l.text) (lines_seen (false ∷ []) 6 (kept_after 6 (On 0) (kept_of history) (Deleted 1 (1 ∷ [])))) ≡ codes "A" ∷ codes "X" ∷ codes "C" ∷ []
line_elsewhere = refl

-- a row has another name where d is on
renamed_row : rows_seen (true ∷ []) 6 (entries_after 6 (On 0) (entries_of history) (OnRows (Renamed 1 (codes "n")))) ≡ row_m (codes "n") ∷ []
renamed_row = refl

row_elsewhere : rows_seen (false ∷ []) 6 (entries_after 6 (On 0) (entries_of history) (OnRows (Renamed 1 (codes "n")))) ≡ row_m (codes "m") ∷ []
row_elsewhere = refl

removed_row : rows_seen (false ∷ []) 6 (entries_after 6 (Not (On 0)) (entries_of history) (OnRows (Removed 1))) ≡ []
removed_row = refl

-- two sessions with one base insert after line 1: the second is overtaken, and not once its base is the end
abbrev insert_1 : List ℕ → Edit
insert_1 text = edits.Insert (nodes.Old 1) (lines.Old 1) text

abbrev made_m : Command
made_m = commit 0 [] True (make_m ∷ edits.Insert (nodes.New 0) (lines.Old 0) (codes "one") ∷ [])

abbrev two : Command
two = commit 1 [] True (insert_1 (codes "two") ∷ [])

is_overtaken : verdict (made_m ∷ two ∷ []) (commit 1 [] True (insert_1 (codes "three") ∷ [])) ≡ Some (refusals.Overtaken 2)
is_overtaken = refl

is_refreshed : verdict (made_m ∷ two ∷ []) (commit 2 [] True (insert_1 (codes "three") ∷ [])) ≡ None
is_refreshed = refl

-- so of two that delete the line
is_gone : verdict (made_m ∷ commit 1 [] True (edits.Delete (nodes.Old 1) (lines.Old 1) ∷ []) ∷ []) (commit 1 [] True (edits.Delete (nodes.Old 1) (lines.Old 1) ∷ [])) ≡ Some (refusals.Overtaken 2)
is_gone = refl

-- a new file in the root overtakes nobody
is_beside : verdict (made_m ∷ commit 1 [] True (edits.New kinds.File (nodes.Old 0) (codes "n") ∷ []) ∷ []) two ≡ None
is_beside = refl

-- where the ambitions share no choice, or none that is valid now, nobody is overtaken
abbrev with_two_options : List Command
with_two_options =
    commands.Option (codes "d") ∷ commands.Option (codes "e")
    ∷ commit 2 (true ∷ true ∷ []) True (make_m ∷ edits.Insert (nodes.New 0) (lines.Old 0) (codes "one") ∷ [])
    ∷ commit 3 (true ∷ false ∷ []) (On 0) (insert_1 (codes "yes") ∷ [])
    ∷ []

no_choice : verdict with_two_options (commit 3 (false ∷ false ∷ []) (Not (On 0)) (insert_1 (codes "no") ∷ [])) ≡ None
no_choice = refl

one_choice : verdict with_two_options (commit 3 (false ∷ true ∷ []) (On 1) (insert_1 (codes "no") ∷ [])) ≡ Some (refusals.Overtaken 4)
one_choice = refl

no_valid_choice : verdict (with_two_options ++ commands.Constraint (Not (And (On 0) (On 1))) ∷ []) (commit 3 (false ∷ true ∷ []) (On 1) (insert_1 (codes "no") ∷ [])) ≡ None
no_valid_choice = refl

-- a rename, a move and a removal of a node are overtaken by another edit of it, and a new node in it isn't
abbrev make_dir : List ℕ → Edit
make_dir name = edits.New kinds.Dir (nodes.Old 0) name

abbrev renamed_twice : List Command
renamed_twice =
    commit 0 [] True (make_dir (codes "a") ∷ make_dir (codes "b") ∷ [])
    ∷ commit 1 [] True (edits.Rename (nodes.Old 1) (codes "c") ∷ [])
    ∷ []

late_rename : verdict renamed_twice (commit 1 [] True (edits.Rename (nodes.Old 1) (codes "d") ∷ [])) ≡ Some (refusals.Overtaken 2)
late_rename = refl

late_move : verdict renamed_twice (commit 1 [] True (edits.Move (nodes.Old 1) (nodes.Old 2) ∷ [])) ≡ Some (refusals.Overtaken 2)
late_move = refl

late_removal : verdict renamed_twice (commit 1 [] True (edits.Remove (nodes.Old 1) ∷ [])) ≡ Some (refusals.Overtaken 2)
late_removal = refl

late_target : verdict renamed_twice (commit 1 [] True (edits.Move (nodes.Old 2) (nodes.Old 1) ∷ [])) ≡ None
late_target = refl

taken_name : verdict renamed_twice (commit 2 [] True (make_dir (codes "d") ∷ edits.Rename (nodes.Old 1) (codes "b") ∷ [])) ≡ Some (refusals.BadRecord 1)
taken_name = refl

into_itself : verdict renamed_twice (commit 2 [] True (edits.Move (nodes.Old 1) (nodes.Old 2) ∷ edits.Move (nodes.Old 2) (nodes.Old 1) ∷ [])) ≡ Some (refusals.BadRecord 1)
into_itself = refl

not_empty : verdict renamed_twice (commit 2 [] True (edits.Move (nodes.Old 1) (nodes.Old 2) ∷ edits.Remove (nodes.Old 2) ∷ [])) ≡ Some (refusals.BadRecord 1)
not_empty = refl

emptied : verdict renamed_twice (commit 2 [] True (edits.Remove (nodes.Old 1) ∷ edits.Remove (nodes.Old 2) ∷ [])) ≡ None
emptied = refl

-- a file that is there where d is on has its name taken by another that would be there everywhere
abbrev make_x : Edit
make_x = edits.New kinds.File (nodes.Old 0) (codes "x")

abbrev with_x : List Command
with_x = commands.Option (codes "d") ∷ commit 1 (true ∷ []) (On 0) (make_x ∷ []) ∷ []

is_clash : verdict with_x (commit 2 (false ∷ []) True (make_x ∷ [])) ≡ Some (refusals.Clash 1 2 (true ∷ []))
is_clash = refl

-- not so where they meet on no choice, or on none that is valid
is_apart : verdict with_x (commit 2 (false ∷ []) (Not (On 0)) (make_x ∷ [])) ≡ None
is_apart = refl

is_invalid : verdict (with_x ++ commands.Constraint (Not (On 0)) ∷ []) (commit 3 (false ∷ []) True (make_x ∷ [])) ≡ None
is_invalid = refl

-- of several choices the first is named
first_choice : verdict (with_x ++ commands.Option (codes "e") ∷ []) (commit 3 (false ∷ true ∷ []) True (make_x ∷ [])) ≡ Some (refusals.Clash 1 2 (true ∷ false ∷ []))
first_choice = refl

-- a commit that is overtaken too is refused as such, and for its fault once its base is the end
abbrev with_z : List Command
with_z =
    commands.Option (codes "d")
    ∷ commit 1 (false ∷ []) (Not (On 0)) (edits.New kinds.File (nodes.Old 0) (codes "z") ∷ [])
    ∷ commit 1 (true ∷ []) (On 0) (make_x ∷ [])
    ∷ commit 3 (true ∷ []) (On 0) (edits.Rename (nodes.Old 2) (codes "y") ∷ [])
    ∷ []

abbrev another_z : ℕ → Command
another_z base = commit base (true ∷ []) True (edits.Rename (nodes.Old 2) (codes "w") ∷ edits.New kinds.File (nodes.Old 0) (codes "z") ∷ [])

late_clash : verdict with_z (another_z 3) ≡ Some (refusals.Overtaken 4)
late_clash = refl

then_clash : verdict with_z (another_z 4) ≡ Some (refusals.Clash 1 3 (false ∷ []))
then_clash = refl

-- a directory is taken out where it has no file, and would be so too where it has one
abbrev with_child : List Command
with_child =
    commands.Option (codes "d")
    ∷ commit 1 (true ∷ []) True (make_dir (codes "a") ∷ [])
    ∷ commit 2 (true ∷ []) (On 0) (edits.New kinds.File (nodes.Old 1) (codes "x") ∷ [])
    ∷ []

is_orphan : verdict with_child (commit 3 (false ∷ []) True (edits.Remove (nodes.Old 1) ∷ [])) ≡ Some (refusals.Orphan 2 (true ∷ []))
is_orphan = refl

not_there : verdict with_child (commit 3 (false ∷ []) (Not (On 0)) (edits.Remove (nodes.Old 1) ∷ [])) ≡ None
not_there = refl

-- two directories, each moved into the other, and a file in a directory that is gone where p is on
abbrev with_move : List Command
with_move =
    commands.Option (codes "p")
    ∷ commit 1 (true ∷ []) True (make_dir (codes "a") ∷ make_dir (codes "b") ∷ make_dir (codes "c") ∷ [])
    ∷ commit 2 (true ∷ []) (On 0) (edits.Move (nodes.Old 1) (nodes.Old 2) ∷ edits.Remove (nodes.Old 3) ∷ [])
    ∷ []

is_loop : verdict with_move (commit 3 (false ∷ []) True (edits.Move (nodes.Old 2) (nodes.Old 1) ∷ [])) ≡ Some (refusals.Loop 1 (true ∷ []))
is_loop = refl

new_orphan : verdict with_move (commit 3 (false ∷ []) True (edits.New kinds.File (nodes.Old 3) (codes "x") ∷ [])) ≡ Some (refusals.Orphan 4 (true ∷ []))
new_orphan = refl

-- of two directories with a file each, the nodes 2 and 4 are files, whatever happens to them later
abbrev in_dirs : List Edit
in_dirs = make_dir (codes "a") ∷ edits.New kinds.File (nodes.New 0) (codes "x") ∷ make_dir (codes "b") ∷ edits.New kinds.File (nodes.New 2) (codes "y") ∷ []

abbrev with_files : List Command
with_files =
    commands.Option (codes "d")
    ∷ commit 1 (true ∷ []) (On 0) in_dirs
    ∷ commit 2 (true ∷ []) True (edits.Rename (nodes.Old 4) (codes "z") ∷ edits.Move (nodes.Old 2) (nodes.Old 3) ∷ edits.Remove (nodes.Old 1) ∷ [])
    ∷ commit 2 (false ∷ []) (Not (On 0)) (make_m ∷ edits.Insert (nodes.New 0) (lines.Old 0) (codes "A") ∷ [])
    ∷ []

files_of_edits : files_made 7 in_dirs ≡ 9 ∷ 11 ∷ []
files_of_edits = refl

files_of_history : files_of with_files ≡ 2 ∷ 4 ∷ 5 ∷ []
files_of_history = refl

file_of_line_A : file_of_line_in with_files ≡ 5 ∷ []
file_of_line_A = refl

-- a line that a commit inserts everywhere and takes out where d is on stays where d is off
abbrev own_line : List Edit
own_line = make_m ∷ edits.Insert (nodes.New 0) (lines.Old 0) (codes "one") ∷ edits.Delete (nodes.New 0) (lines.New 0) ∷ []

abbrev own_line_seen : List Bool → List (ℕ × List ℕ)
own_line_seen c = map (λ l. (line_of l.address, l.text)) (lines_seen c 1 (held_amid [] (True ∷ True ∷ On 0 ∷ []) own_line own_line).lines)

own_line_gone : own_line_seen (true ∷ []) ≡ []
own_line_gone = refl

own_line_kept : own_line_seen (false ∷ []) ≡ (1, codes "one") ∷ []
own_line_kept = refl

-- one commit makes a file and inserts a first line on all choices, and on the side d a second line
abbrev both_lines : Command
both_lines =
    commands.Commit 1 (true ∷ []) True
    (sided True make_m
    ∷ sided True (edits.Insert (nodes.New 0) (lines.Old 0) (codes "one"))
    ∷ sided (On 0) (edits.Insert (nodes.New 0) (lines.New 0) (codes "two"))
    ∷ [])

abbrev with_both_lines : List Command
with_both_lines = commands.Option (codes "d") ∷ commands.Option (codes "e") ∷ both_lines ∷ commands.Default 1 false ∷ []

is_accepted : verdict (commands.Option (codes "d") ∷ commands.Option (codes "e") ∷ []) both_lines ≡ None
is_accepted = refl

abbrev both_replayed : List Bool → List (ℕ × List ℕ)
both_replayed c = map (λ l. (line_of l.address, l.text)) (lines_of (replay c with_both_lines) 1)

on_side : both_replayed (true ∷ false ∷ []) ≡ (1, codes "one") ∷ (2, codes "two") ∷ []
on_side = refl

off_side : both_replayed (false ∷ false ∷ []) ≡ (1, codes "one") ∷ []
off_side = refl

-- each line is kept with the position of the commit, and with the ambition and its own side
both_kept : map {B = ℕ × List (ℕ × Formula ℕ)} (λ k. (kept_number k, k.changes)) (kept_of with_both_lines) ≡ (1, (3, And True True) ∷ []) ∷ (2, (3, And True (On 0)) ∷ []) ∷ []
both_kept = refl

-- two files, then an edit of the first on the side d and one of the second on the side e
abbrev into : ℕ → Edit
into file = edits.Insert (nodes.Old file) (lines.Old 0) (codes "x")

abbrev with_sides : List Command
with_sides =
    commands.Option (codes "d") ∷ commands.Option (codes "e")
    ∷ commit 2 (true ∷ true ∷ []) True (make_m ∷ edits.New kinds.File (nodes.Old 0) (codes "n") ∷ [])
    ∷ commands.Commit 3 (true ∷ true ∷ []) True (sided (On 0) (into 1) ∷ sided (On 1) (into 2) ∷ [])
    ∷ []

-- edits on the other sides are overtaken by neither, though the commits share choices
apart_by_sides : verdict with_sides (commands.Commit 3 (false ∷ false ∷ []) True (sided (Not (On 0)) (into 1) ∷ sided (Not (On 1)) (into 2) ∷ [])) ≡ None
apart_by_sides = refl

-- one of them with a wider side is overtaken
met_on_a_side : verdict with_sides (commands.Commit 3 (false ∷ false ∷ []) True (sided (Not (On 0)) (into 1) ∷ sided True (into 2) ∷ [])) ≡ Some (refusals.Overtaken 4)
met_on_a_side = refl

-- but not where the sides share no choice within the ambition that is valid now
no_valid_side : verdict (with_sides ++ commands.Constraint (Not (And (On 1) (Not (On 0)))) ∷ []) (commands.Commit 3 (false ∷ false ∷ []) (Not (On 0)) (sided (Not (On 0)) (into 1) ∷ sided True (into 2) ∷ [])) ≡ None
no_valid_side = refl

-- each side is true on the choice, and has only options of the base
outside_a_side : verdict with_sides (commands.Commit 4 (true ∷ false ∷ []) True (sided True (into 1) ∷ sided (On 1) (into 2) ∷ [])) ≡ Some (refusals.OutsideSide 1)
outside_a_side = refl

side_beyond_base : verdict with_sides (commands.Commit 4 (true ∷ false ∷ []) True (sided (On 2) (into 1) ∷ [])) ≡ Some refusals.BadOption
side_beyond_base = refl

-- the ambition is tested before the sides, and an edit that the variant refuses after them
outside_ambition_first : verdict with_sides (commands.Commit 4 (true ∷ false ∷ []) (On 1) (sided (On 1) (into 1) ∷ [])) ≡ Some refusals.OutsideAmbition
outside_ambition_first = refl

outside_side_first : verdict with_sides (commands.Commit 4 (true ∷ false ∷ []) True (sided (On 0) (into 3) ∷ sided (On 1) (into 1) ∷ [])) ≡ Some (refusals.OutsideSide 1)
outside_side_first = refl

-- a history is upgraded once, and a full one is refused as such before that is asked
upgraded_once : map (λ before. verdict before commands.Upgrade) ([] ∷ (commands.Upgrade ∷ []) ∷ (commands.Upgrade ∷ commands.Option (codes "a") ∷ []) ∷ (commands.Option (codes "a") ∷ commands.Upgrade ∷ []) ∷ [])
    ≡ None ∷ Some refusals.Upgraded ∷ Some refusals.Upgraded ∷ Some refusals.Upgraded ∷ []
upgraded_once = refl

-- so a history with an upgrade is legal as one without is, and one with two is not
legal_with_upgrade : IsLegal (commands.Option (codes "a") ∷ commands.Upgrade ∷ commands.Option (codes "b") ∷ [])
legal_with_upgrade = (refl, refl, (refl, refl, (refl, refl, tt)))

not_legal_with_two : IsLegal (commands.Upgrade ∷ commands.Upgrade ∷ []) → ⊥
not_legal_with_two h = let refused : Some refusals.Upgraded ≡ None = h.2.1 in absurd (cc)

full_before_upgraded : (before : List Command) → when_full before ≡ Some refusals.Full → verdict before commands.Upgrade ≡ Some refusals.Full
full_before_upgraded before is = ap (λ first. first_of (first ∷ refusals_of before commands.Upgrade)) is

-- the verdict on one command more of a kind, where so many of it stand behind others
abbrev one_more : List Command → ℕ → Command → Option Refusal
one_more before n k = verdict (before ++ replicate n k) k

-- 64 options, and 128 with an upgrade; the options that stand have one name here, as another name is asked for
abbrev another_option : List Command → ℕ → Option Refusal
another_option before n = verdict (before ++ replicate n (commands.Option (codes "a"))) (commands.Option (codes "b"))

most_options : map (another_option []) (63 ∷ 64 ∷ []) ≡ None ∷ Some refusals.Full ∷ []
most_options = refl

most_options_upgraded : map (another_option (commands.Upgrade ∷ [])) (64 ∷ 127 ∷ 128 ∷ []) ≡ None ∷ None ∷ Some refusals.Full ∷ []
most_options_upgraded = refl

-- 256 rules of each kind, and 1,024 with an upgrade
abbrev a_rule_of_each_kind : List Command
a_rule_of_each_kind = commands.Constraint (On 0) ∷ commands.Prefer (On 0) ∷ commands.Default 0 true ∷ []

abbrev with_a : List Command
with_a = commands.Option (codes "a") ∷ []

rule_256 : map (one_more with_a 255) a_rule_of_each_kind ≡ None ∷ None ∷ None ∷ []
rule_256 = refl

rule_257 : map (one_more with_a 256) a_rule_of_each_kind ≡ Some refusals.Full ∷ Some refusals.Full ∷ Some refusals.Full ∷ []
rule_257 = refl

rule_257_upgraded : map (one_more (commands.Upgrade ∷ with_a) 256) a_rule_of_each_kind ≡ None ∷ None ∷ None ∷ []
rule_257_upgraded = refl

rule_1024_upgraded : map (one_more (commands.Upgrade ∷ with_a) 1023) a_rule_of_each_kind ≡ None ∷ None ∷ None ∷ []
rule_1024_upgraded = refl

rule_1025_upgraded : map (one_more (commands.Upgrade ∷ with_a) 1024) a_rule_of_each_kind ≡ Some refusals.Full ∷ Some refusals.Full ∷ Some refusals.Full ∷ []
rule_1025_upgraded = refl

-- 2^20 lines, and 2^24 with an upgrade; 65,536 nodes, and 2^20 with one. So many lines and nodes stand already, the root among these
abbrev beside : List Command → ℕ → ℕ → Edit → Option Refusal
beside before l n e = first_of (refusals_by_size (limits_of before) l n 0 (e ∷ []))

most_lines : map (λ n. beside [] n 2 (insert_1 (codes "x"))) (1048575 ∷ 1048576 ∷ []) ≡ None ∷ Some refusals.TooManyLines ∷ []
most_lines = refl

most_lines_upgraded : map (λ n. beside (commands.Upgrade ∷ []) n 2 (insert_1 (codes "x"))) (1048576 ∷ 16777215 ∷ 16777216 ∷ []) ≡ None ∷ None ∷ Some refusals.TooManyLines ∷ []
most_lines_upgraded = refl

most_nodes : map (λ n. beside [] 0 n make_m) (65535 ∷ 65536 ∷ []) ≡ None ∷ Some refusals.TooManyNodes ∷ []
most_nodes = refl

most_nodes_upgraded : map (λ n. beside (commands.Upgrade ∷ []) 0 n make_m) (65536 ∷ 1048575 ∷ 1048576 ∷ []) ≡ None ∷ None ∷ Some refusals.TooManyNodes ∷ []
most_nodes_upgraded = refl
