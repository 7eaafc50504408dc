-- Worked lines of the generated script.
use Rattle.std.proofs.Common.{◌≡◌, ℕ, suc, ◌∷◌, ◌++◌, [], List, map, length, get_or, refl}
use Rattle.std.specs.Prelude.{codes}
use Rattle.std.specs.Fmt.{digits}
use Rattle.cov_script.specs.Commits.{each_below, plan_of, opening_line, drawn_line, insert_line, delete_line, commit_lines, after_commits}
use Rattle.cov_script.specs.Demonstration.{option_line, default_line, dir_line, file_line, checkout_line}
use Rattle.cov_script.specs.Draws.{state_after, drawn}
use Rattle.cov_script.specs.declared.line.LineField.TheVariants as fields

-- the first numbers from 0, from 7 and from the greatest number on
numbers : map (λ n. map (λ count. drawn (state_after count n)) (1 ∷ 2 ∷ 3 ∷ 4 ∷ [])) (0 ∷ 7 ∷ 18446744073709551615 ∷ [])
    ≡ (167951807 ∷ 218396424 ∷ 1299921937 ∷ 861605236 ∷ []) ∷ (1059165278 ∷ 2052263231 ∷ 1946856753 ∷ 585718673 ∷ []) ∷ (1574552488 ∷ 1490332343 ∷ 1207502677 ∷ 901017602 ∷ []) ∷ []
unfolding state_after
numbers = refl

-- the session of the first commit from a number on
abbrev first_opening : ℕ → List ℕ
first_opening n = opening_line (plan_of n).on (plan_of n).other (plan_of n).ambition

-- each ambition; from 43 on both options are one, and the third number, 2, gives none that names both
openings : map first_opening (1 ∷ 7 ∷ 4 ∷ 3 ∷ 43 ∷ [])
    ≡ codes "open s o10=on for true\n" ∷ codes "open s o24=on for o24\n" ∷ codes "open s o46=on for o46 | o32\n" ∷ codes "open s o31=on,o61=off for o31 & !o61\n" ∷ codes "open s o49=on for o49\n" ∷ []
unfolding state_after digits
openings = refl

-- the first lines that the first commit from 7 on inserts
inserts : insert_line (plan_of 7).file 1 (fields.Number 0) 0 ++ each_below 5 (λ i. drawn_line (plan_of 7).file 1 (state_after 4 7) (suc i))
    ≡ codes "insert s /d1/f17 0 line 1 0\ninsert s /d1/f17 +0 line 1 1\ninsert s /d1/f17 +1 line 1 2\ninsert s /d1/f17 +1 line 1 3\ninsert s /d1/f17 +0 line 1 4\ninsert s /d1/f17 +4 line 1 5\n"
unfolding each_below state_after digits
inserts = refl

-- the whole of this commit, and the session of the next one
whole_commit : length (commit_lines 1 (after_commits 0 7)) ≡ 3089
unfolding each_below state_after after_commits digits
whole_commit = refl

next_opening : first_opening (after_commits 1 7).draws ≡ codes "open s o40=on,o39=off for o40 & !o39\n"
unfolding state_after after_commits digits
next_opening = refl

-- the first commit from 1 on is for every variant and marks its first line, which the next commit in its file deletes
marks : map (λ file. get_or (after_commits 1 1).marks file 0) (37 ∷ 38 ∷ [])
    ≡ 0 ∷ 1 ∷ []
unfolding state_after after_commits
marks = refl

deletes : map (delete_line 38) (0 ∷ 1 ∷ 39901 ∷ [])
    ≡ [] ∷ codes "delete s /d6/f38 1\n" ∷ codes "delete s /d6/f38 39901\n" ∷ []
unfolding digits
deletes = refl

-- what comes before the commits of lines
beginnings : each_below 2 option_line ++ each_below 2 default_line ++ each_below 2 dir_line ++ each_below 10 file_line
    ≡ codes "option o0\noption o1\ndefault o0 off\ndefault o1 off\nmkdir s /d0\nmkdir s /d1\nmkfile s /d0/f0\nmkfile s /d1/f1\nmkfile s /d2/f2\nmkfile s /d3/f3\nmkfile s /d4/f4\nmkfile s /d5/f5\nmkfile s /d6/f6\nmkfile s /d7/f7\nmkfile s /d0/f8\nmkfile s /d1/f9\n"
unfolding each_below digits
beginnings = refl

checkouts : each_below 8 checkout_line
    ≡ codes "checkout t0 -\ncheckout t1 o13=on\ncheckout t2 o20=on\ncheckout t3 o27=on\ncheckout t4 o34=on\ncheckout t5 o41=on\ncheckout t6 o48=on\ncheckout t7 o55=on\n"
unfolding each_below digits
checkouts = refl
