-- Worked records.
use Rattle.std.proofs.Common.{◌≡◌, ℕ, true, false, List, [], ◌∷◌, ◌++◌, Some, None, refl}
use Rattle.cov_base.specs.declared.number.Kind.TheVariants.{File, Dir}
use Rattle.cov_base.specs.declared.number.NodeRef.TheVariants as nodes
use Rattle.cov_base.specs.declared.number.LineRef.TheVariants as lines
use Rattle.cov_expr.specs.Formula.{False, True, On, Not, And, Or}
use Rattle.cov_edit.specs.Sides.{sided}
use Rattle.cov_edit.specs.declared.edit.Edit.{Edit}
use Rattle.cov_edit.specs.declared.edit.Edit.TheVariants as edits
use Rattle.cov_edit.specs.declared.sided.Sided.{Sided}
use Rattle.cov_edit.specs.declared.command.Command.{Command}
use Rattle.cov_edit.specs.declared.command.Command.TheVariants as commands
use Rattle.std.specs.Prelude.{is_some, replicate}
use Rattle.std.specs.Str.{is_utf8, chars}
use lib.Utf8.{encode}
use Rattle.cov_record.specs.Laws.{IsNoRecord}
use Rattle.cov_record.specs.Payload.{payload}
use Rattle.cov_record.specs.Reading.{alone, front_command}
use Rattle.cov_record.specs.SideRuns.{side_run, under, side_runs, has_sides}
use Rattle.cov_record.proofs.Records.{no_record}

-- option a
option_a : payload (commands.Option (97 ∷ [])) ≡ 1 ∷ 1 ∷ 97 ∷ []
option_a = refl

-- prefer !true | o0 & false, and default o3 off
prefer_or : payload (commands.Prefer (Or (Not True) (And (On 0) False))) ≡ 3 ∷ 5 ∷ 3 ∷ 1 ∷ 4 ∷ 2 ∷ 0 ∷ 0 ∷ []
prefer_or = refl

default_off : payload (commands.Default 3 false) ≡ 4 ∷ 3 ∷ 0 ∷ []
default_off = refl

-- an upgrade is one byte, and nothing may follow it
upgrade_spelt : payload commands.Upgrade ≡ 7 ∷ []
upgrade_spelt = refl

upgrade_read : alone (front_command (7 ∷ [])) ≡ Some commands.Upgrade
upgrade_read = refl

upgrade_and_more : alone (front_command (7 ∷ 7 ∷ [])) ≡ None
upgrade_and_more = refl

-- a directory made, a line taken out, and a node renamed, moved into the directory and taken out, where false is true
each_other_edit : payload (commands.Commit 0 [] False (under True (
    edits.New Dir (nodes.Old 0) (115 ∷ []) ∷ edits.Delete (nodes.Old 1) (lines.Old 2) ∷ edits.Rename (nodes.Old 1) (121 ∷ [])
    ∷ edits.Move (nodes.Old 1) (nodes.New 0) ∷ edits.Remove (nodes.Old 1) ∷ [])))
    ≡ 5 ∷ 0 ∷ 0 ∷ 0 ∷ 0 ∷ 0 ∷ 0 ∷ 0 ∷ 0 ∷ 0 ∷ 5
    ∷ 1 ∷ 1 ∷ 0 ∷ 0 ∷ 0 ∷ 0 ∷ 0 ∷ 1 ∷ 115
    ∷ 3 ∷ 0 ∷ 0 ∷ 0 ∷ 0 ∷ 1 ∷ 0 ∷ 0 ∷ 0 ∷ 0 ∷ 2
    ∷ 4 ∷ 0 ∷ 0 ∷ 0 ∷ 0 ∷ 1 ∷ 1 ∷ 121
    ∷ 5 ∷ 0 ∷ 0 ∷ 0 ∷ 0 ∷ 1 ∷ 1 ∷ 0 ∷ 0 ∷ 0 ∷ 0
    ∷ 6 ∷ 0 ∷ 0 ∷ 0 ∷ 0 ∷ 1 ∷ []
each_other_edit = refl

-- base 1, choice d=on, ambition d, a new file x in the root, and A after that file's head
abbrev commit : Command
commit = commands.Commit 1 (true ∷ []) (On 0) (under True (edits.New File (nodes.Old 0) (120 ∷ []) ∷ edits.Insert (nodes.New 0) (lines.Old 0) (65 ∷ []) ∷ []))

abbrev commit_bytes : List ℕ
commit_bytes =
    5 ∷ 0 ∷ 0 ∷ 0 ∷ 1 ∷ 1 ∷ 1 ∷ 2 ∷ 0 ∷ 0 ∷ 0 ∷ 0 ∷ 2 ∷ 1 ∷ 0 ∷ 0 ∷ 0 ∷ 0 ∷ 0 ∷ 0 ∷ 1 ∷ 120
    ∷ 2 ∷ 1 ∷ 0 ∷ 0 ∷ 0 ∷ 0 ∷ 0 ∷ 0 ∷ 0 ∷ 0 ∷ 0 ∷ 0 ∷ 1 ∷ 65 ∷ []

commit_spelt : payload commit ≡ commit_bytes
commit_spelt = refl

no_bytes : alone (front_command []) ≡ None
no_bytes = refl

commit_read : alone (front_command commit_bytes) ≡ Some commit
unfolding is_utf8 chars encode
commit_read = refl

commit_and_more : alone (front_command (commit_bytes ++ 0 ∷ [])) ≡ None
unfolding is_utf8 chars encode
commit_and_more = refl

-- 256 parts and 257
parts_256 : is_some (alone (front_command (2 ∷ (replicate 255 3 ++ 1 ∷ [])))) ≡ true
parts_256 = refl

parts_257 : alone (front_command (2 ∷ (replicate 256 3 ++ 1 ∷ []))) ≡ None
parts_257 = refl

-- a command with an option that the history doesn't have is a record, and one of number 128 is none
option_2 : alone (front_command (2 ∷ 2 ∷ 2 ∷ [])) ≡ Some (commands.Constraint (On 2))
option_2 = refl

option_128 : alone (front_command (4 ∷ 128 ∷ 1 ∷ [])) ≡ None
option_128 = refl

-- base 1, choice d=on, ambition true, and a new file x in the root where d is true
abbrev make_x : Edit
make_x = edits.New File (nodes.Old 0) (120 ∷ [])

abbrev one_sided : Command
one_sided = commands.Commit 1 (true ∷ []) True (sided (On 0) make_x ∷ [])

abbrev one_sided_bytes : List ℕ
one_sided_bytes = 6 ∷ 0 ∷ 0 ∷ 0 ∷ 1 ∷ 1 ∷ 1 ∷ 1 ∷ 0 ∷ 0 ∷ 0 ∷ 1 ∷ 2 ∷ 0 ∷ 0 ∷ 0 ∷ 0 ∷ 1 ∷ 1 ∷ 0 ∷ 0 ∷ 0 ∷ 0 ∷ 0 ∷ 0 ∷ 1 ∷ 120 ∷ []

one_sided_spelt : payload one_sided ≡ one_sided_bytes
one_sided_spelt = refl

one_sided_read : alone (front_command one_sided_bytes) ≡ Some one_sided
unfolding is_utf8 chars encode
one_sided_read = refl

-- the same with the side true is no record: its record tells no sides
abbrev true_alone_bytes : List ℕ
true_alone_bytes = 6 ∷ 0 ∷ 0 ∷ 0 ∷ 1 ∷ 1 ∷ 1 ∷ 1 ∷ 0 ∷ 0 ∷ 0 ∷ 1 ∷ 1 ∷ 0 ∷ 0 ∷ 0 ∷ 1 ∷ 1 ∷ 0 ∷ 0 ∷ 0 ∷ 0 ∷ 0 ∷ 0 ∷ 1 ∷ 120 ∷ []

true_alone : IsNoRecord true_alone_bytes
unfolding is_utf8 chars encode
true_alone = no_record true_alone_bytes refl

unsided_spelt : payload (commands.Commit 1 (true ∷ []) True (sided True make_x ∷ []))
    ≡ 5 ∷ 0 ∷ 0 ∷ 0 ∷ 1 ∷ 1 ∷ 1 ∷ 1 ∷ 0 ∷ 0 ∷ 0 ∷ 1 ∷ 1 ∷ 0 ∷ 0 ∷ 0 ∷ 0 ∷ 0 ∷ 0 ∷ 1 ∷ 120 ∷ []
unsided_spelt = refl

-- removals of node 1 under sides, where the ambition is true and no option was declared
abbrev remove : Edit
remove = edits.Remove (nodes.Old 1)

abbrev removes : List Sided → Command
removes ss = commands.Commit 0 [] True ss

-- one under true, two under a, one under true, and one under a again: four runs
abbrev four_runs : List Sided
four_runs = sided True remove ∷ sided (On 0) remove ∷ sided (On 0) remove ∷ sided True remove ∷ sided (On 0) remove ∷ []

four_runs_are : side_runs four_runs
    ≡ side_run True (remove ∷ []) ∷ side_run (On 0) (remove ∷ remove ∷ []) ∷ side_run True (remove ∷ []) ∷ side_run (On 0) (remove ∷ []) ∷ []
four_runs_are = refl

abbrev four_runs_bytes : List ℕ
four_runs_bytes =
    6 ∷ 0 ∷ 0 ∷ 0 ∷ 0 ∷ 0 ∷ 1 ∷ 0 ∷ 0 ∷ 0 ∷ 4
    ∷ 1 ∷ 0 ∷ 0 ∷ 0 ∷ 1 ∷ 6 ∷ 0 ∷ 0 ∷ 0 ∷ 0 ∷ 1
    ∷ 2 ∷ 0 ∷ 0 ∷ 0 ∷ 0 ∷ 2 ∷ 6 ∷ 0 ∷ 0 ∷ 0 ∷ 0 ∷ 1 ∷ 6 ∷ 0 ∷ 0 ∷ 0 ∷ 0 ∷ 1
    ∷ 1 ∷ 0 ∷ 0 ∷ 0 ∷ 1 ∷ 6 ∷ 0 ∷ 0 ∷ 0 ∷ 0 ∷ 1
    ∷ 2 ∷ 0 ∷ 0 ∷ 0 ∷ 0 ∷ 1 ∷ 6 ∷ 0 ∷ 0 ∷ 0 ∷ 0 ∷ 1 ∷ []

four_runs_spelt : payload (removes four_runs) ≡ four_runs_bytes
four_runs_spelt = refl

four_runs_read : alone (front_command four_runs_bytes) ≡ Some (removes four_runs)
four_runs_read = refl

-- sides are told apart as they are written: a | !a isn't true, and a & a isn't a
always_sided : has_sides (sided (Or (On 0) (Not (On 0))) remove ∷ []) ≡ true
always_sided = refl

twice_is_another : side_runs (sided (On 0) remove ∷ sided (And (On 0) (On 0)) remove ∷ [])
    ≡ side_run (On 0) (remove ∷ []) ∷ side_run (And (On 0) (On 0)) (remove ∷ []) ∷ []
twice_is_another = refl

-- no run, a run without edits, a run behind one of its side, more runs than there are, and more edits
no_run : IsNoRecord (6 ∷ 0 ∷ 0 ∷ 0 ∷ 0 ∷ 0 ∷ 1 ∷ 0 ∷ 0 ∷ 0 ∷ 0 ∷ [])
no_run = no_record _ refl

no_edits : IsNoRecord (6 ∷ 0 ∷ 0 ∷ 0 ∷ 0 ∷ 0 ∷ 1 ∷ 0 ∷ 0 ∷ 0 ∷ 1 ∷ 2 ∷ 0 ∷ 0 ∷ 0 ∷ 0 ∷ 0 ∷ [])
no_edits = no_record _ refl

neighbours : IsNoRecord (
    6 ∷ 0 ∷ 0 ∷ 0 ∷ 0 ∷ 0 ∷ 1 ∷ 0 ∷ 0 ∷ 0 ∷ 2
    ∷ 2 ∷ 0 ∷ 0 ∷ 0 ∷ 0 ∷ 1 ∷ 6 ∷ 0 ∷ 0 ∷ 0 ∷ 0 ∷ 1
    ∷ 2 ∷ 0 ∷ 0 ∷ 0 ∷ 0 ∷ 1 ∷ 6 ∷ 0 ∷ 0 ∷ 0 ∷ 0 ∷ 1 ∷ [])
neighbours = no_record _ refl

too_many_runs : IsNoRecord (6 ∷ 0 ∷ 0 ∷ 0 ∷ 0 ∷ 0 ∷ 1 ∷ 0 ∷ 0 ∷ 0 ∷ 2 ∷ 2 ∷ 0 ∷ 0 ∷ 0 ∷ 0 ∷ 1 ∷ 6 ∷ 0 ∷ 0 ∷ 0 ∷ 0 ∷ 1 ∷ [])
too_many_runs = no_record _ refl

too_many_edits : IsNoRecord (6 ∷ 0 ∷ 0 ∷ 0 ∷ 0 ∷ 0 ∷ 1 ∷ 0 ∷ 0 ∷ 0 ∷ 1 ∷ 2 ∷ 0 ∷ 0 ∷ 0 ∷ 0 ∷ 2 ∷ 6 ∷ 0 ∷ 0 ∷ 0 ∷ 0 ∷ 1 ∷ [])
too_many_edits = no_record _ refl

-- a side of 256 parts and one of 257
side_256 : is_some (alone (front_command (6 ∷ 0 ∷ 0 ∷ 0 ∷ 0 ∷ 0 ∷ 1 ∷ 0 ∷ 0 ∷ 0 ∷ 1 ∷ (replicate 255 3 ++ 1 ∷ 0 ∷ 0 ∷ 0 ∷ 1 ∷ 6 ∷ 0 ∷ 0 ∷ 0 ∷ 0 ∷ 1 ∷ [])))) ≡ true
side_256 = refl

side_257 : IsNoRecord (6 ∷ 0 ∷ 0 ∷ 0 ∷ 0 ∷ 0 ∷ 1 ∷ 0 ∷ 0 ∷ 0 ∷ 1 ∷ (replicate 256 3 ++ 1 ∷ 0 ∷ 0 ∷ 0 ∷ 1 ∷ 6 ∷ 0 ∷ 0 ∷ 0 ∷ 0 ∷ 1 ∷ []))
side_257 = no_record _ refl
