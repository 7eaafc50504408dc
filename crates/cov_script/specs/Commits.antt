-- The commits of the generated script.
use Rattle.std.specs.Prelude.{ℕ, zero, suc, ◌+◌, ◌*◌, ◌%◌, ◌&&◌, List, [], ◌++◌, codes, get_or, slice_set, replicate, if◌then◌else◌, nat_eq, nat_le}
use Rattle.std.specs.Fmt.{decimal}
use Rattle.cov_script.specs.Draws.{state_after, draw}
use Rattle.cov_script.specs.declared.commits.Commits.{Commits}
use Rattle.cov_script.specs.declared.line.LineField.{LineField}
use Rattle.cov_script.specs.declared.line.LineField.TheVariants as fields
use Rattle.cov_script.specs.declared.plan.Ambition.{Ambition}
use Rattle.cov_script.specs.declared.plan.Ambition.TheVariants as ambitions
use Rattle.cov_script.specs.declared.plan.Plan.{Plan}

-- the texts of the numbers below a count, one behind the other
unfoldable pub each_below : ℕ → (ℕ → List ℕ) → List ℕ
each_below zero text = []
each_below (suc count) text = each_below count text ++ text count

-- where a file is
abbrev pub file_path : ℕ → List ℕ
file_path file = codes "/d" ++ decimal (file % 8) ++ codes "/f" ++ decimal file

-- the ambition that a number below 4 stands for, where two options are drawn
abbrev pub ambition_of : ℕ → Ambition
ambition_of number =
    if nat_eq number 0 then ambitions.Always
    else if nat_eq number 1 then ambitions.On
    else if nat_eq number 2 then ambitions.Either
    else ambitions.Without

-- the number of a commit's ambition: where both options are one, none that names both
abbrev pub kind_of : ℕ → ℕ → ℕ → ℕ
kind_of on other number = if nat_eq on other && nat_le 2 number then 1 else number

-- what four numbers from a state on give
abbrev pub plan_of : ℕ → Plan
plan_of x =
    record {
      on = 6 + draw x 1 58;
      other = 6 + draw x 2 58;
      ambition = ambition_of (kind_of (6 + draw x 1 58) (6 + draw x 2 58) (draw x 3 4));
      file = draw x 4 64;
    }

-- the line that opens a commit's session, with an option on
abbrev pub opening_line : ℕ → ℕ → Ambition → List ℕ
opening_line on other ambitions.Always = codes "open s o" ++ decimal on ++ codes "=on for true\n"
opening_line on other ambitions.On = codes "open s o" ++ decimal on ++ codes "=on for o" ++ decimal on ++ codes "\n"
opening_line on other ambitions.Either = codes "open s o" ++ decimal on ++ codes "=on for o" ++ decimal on ++ codes " | o" ++ decimal other ++ codes "\n"
opening_line on other ambitions.Without = codes "open s o" ++ decimal on ++ codes "=on,o" ++ decimal other ++ codes "=off for o" ++ decimal on ++ codes " & !o" ++ decimal other ++ codes "\n"

-- the line behind which another is inserted
abbrev pub anchor_text : LineField → List ℕ
anchor_text (fields.Number number) = decimal number
anchor_text (fields.Own index) = codes "+" ++ decimal index

-- the line that inserts a line, whose text has the numbers of its commit and its own
abbrev pub insert_line : ℕ → ℕ → LineField → ℕ → List ℕ
insert_line file commit anchor index =
    codes "insert s " ++ file_path file ++ codes " " ++ anchor_text anchor ++ codes " line " ++ decimal commit ++ codes " " ++ decimal index ++ codes "\n"

-- the line that inserts the one with a number, from 1, behind one of those before it, drawn as the so-manieth from a state on
abbrev pub drawn_line : ℕ → ℕ → ℕ → ℕ → List ℕ
drawn_line file commit x index = insert_line file commit (fields.Own (draw x index index)) index

-- what a commit inserts
abbrev pub insert_lines : ℕ → ℕ → ℕ → List ℕ
insert_lines file commit x =
    insert_line file commit (fields.Number 0) 0 ++ each_below 99 (λ i. drawn_line file commit x (suc i))

-- the line that deletes a file's marked line, if there is one
abbrev pub delete_line : ℕ → ℕ → List ℕ
delete_line file mark =
    if nat_eq mark 0 then [] else codes "delete s " ++ file_path file ++ codes " " ++ decimal mark ++ codes "\n"

-- the lines of a commit with a number, from 1, of which so much was drawn and whose file has a mark
abbrev pub planned_lines : ℕ → Plan → ℕ → ℕ → List ℕ
planned_lines commit plan x mark =
    opening_line plan.on plan.other plan.ambition
    ++ insert_lines plan.file commit x
    ++ delete_line plan.file mark
    ++ codes "commit s\n"

-- the lines of the commit with a number, from 1, behind what is there before it
abbrev pub commit_lines : ℕ → Commits → List ℕ
commit_lines commit before =
    planned_lines commit (plan_of before.draws) (state_after 4 before.draws) (get_or before.marks (plan_of before.draws).file 0)

-- a file's mark after a commit in it behind so many others: the first line of one that is for every variant, or none
abbrev pub mark_after : Ambition → ℕ → ℕ
mark_after ambitions.Always index = 100 * index + 1
mark_after ambitions.On index = 0
mark_after ambitions.Either index = 0
mark_after ambitions.Without index = 0

-- what is there after a commit behind so many others
abbrev pub after_commit : ℕ → Commits → Commits
after_commit index before =
    record {
      draws = state_after 99 (state_after 4 before.draws);
      marks = slice_set before.marks (plan_of before.draws).file (mark_after (plan_of before.draws).ambition index);
    }

-- what is there after so many commits, where the numbers start at one
unfoldable pub after_commits : ℕ → ℕ → Commits
after_commits zero n = record { draws = n; marks = replicate 64 0 }
after_commits (suc count) n = after_commit count (after_commits count n)
