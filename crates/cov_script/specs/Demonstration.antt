-- The script that a number stands for.
use Rattle.std.specs.Prelude.{ℕ, suc, ◌+◌, ◌*◌, List, ◌++◌, codes, if◌then◌else◌, nat_eq}
use Rattle.std.specs.Fmt.{decimal}
use Rattle.cov_script.specs.Commits.{each_below, file_path, commit_lines, after_commits}
use Rattle.cov_script.specs.declared.demonstration.Row.{Row}
use Rattle.cov_script.specs.declared.demonstration.Row.TheVariants as rows

-- an option
abbrev pub option_line : ℕ → List ℕ
option_line option = codes "option o" ++ decimal option ++ codes "\n"

-- the constraints and the preference
abbrev pub rule_lines : List ℕ
rule_lines = codes "constraint !(o0 & o1)\nconstraint !o2 | o3\nprefer o4 | o5\n"

-- an option's default
abbrev pub default_line : ℕ → List ℕ
default_line option = codes "default o" ++ decimal option ++ codes " off\n"

-- a directory
abbrev pub dir_line : ℕ → List ℕ
dir_line dir = codes "mkdir s /d" ++ decimal dir ++ codes "\n"

-- a file
abbrev pub file_line : ℕ → List ℕ
file_line file = codes "mkfile s " ++ file_path file ++ codes "\n"

-- a tree: the first of what is completed from nothing, each other one with an option on
abbrev pub checkout_line : ℕ → List ℕ
checkout_line tree =
    if nat_eq tree 0 then codes "checkout t0 -\n"
    else codes "checkout t" ++ decimal tree ++ codes " o" ++ decimal (6 + 7 * tree) ++ codes "=on\n"

-- the line of a kind for a number
abbrev pub row_line : Row → ℕ → List ℕ
row_line rows.Option = option_line
row_line rows.Default = default_line
row_line rows.Dir = dir_line
row_line rows.File = file_line
row_line rows.Checkout = checkout_line

-- the commit that makes the directories and the files
abbrev pub first_commit_lines : List ℕ
first_commit_lines =
    codes "open s - for true\n" ++ each_below 8 dir_line ++ each_below 64 file_line ++ codes "commit s\n"

-- the commits of lines
abbrev pub each_commit : ℕ → List ℕ
each_commit n = each_below 400 (λ index. commit_lines (suc index) (after_commits index n))

-- what comes before the checkouts
abbrev pub made_lines : ℕ → List ℕ
made_lines n =
    each_below 64 option_line
    ++ rule_lines
    ++ each_below 64 default_line
    ++ first_commit_lines
    ++ each_commit n

-- the checkouts
abbrev pub checkout_lines : List ℕ
checkout_lines = each_below 8 checkout_line

-- the script that a number stands for
unfoldable pub demo_text : ℕ → List ℕ
demo_text n = made_lines n ++ checkout_lines
