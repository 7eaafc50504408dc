-- Worked scripts that tell the past, or write it.
use Rattle.std.proofs.Common.{◌≡◌, refl, List, ℕ, [], ◌∷◌, ◌++◌}
use Rattle.std.specs.Prelude.{codes}
use Rattle.std.specs.Str.{is_utf8, chars}
use Rattle.std.specs.Fmt.{digits}
use lib.Utf8.{encode}
use Rattle.cov_out.specs.Rows.{dir_row, file_row}
use Rattle.cov_lines.specs.Step.{model, step, acted, blamed, checked_out, file_told, logged, past_told, past_written, served, served_declaration, served_session, served_edit, served_past, served_tree, declared, constrained, opened, made_in, inserted, committed, node_at}
use Rattle.cov_lines.specs.Written.{tree_reply}
use Rattle.cov_lines.proofs.Examples.{text}

-- a file with a line that is there with an option on alone
abbrev pub made : List (List ℕ)
made =
    codes "option d" ∷ codes "open s d=on for true" ∷ codes "mkfile s /m" ∷ codes "insert s /m 0 A" ∷ codes "commit s" ∷ codes "open s d=on for d" ∷ codes "insert s /m 1 B" ∷ codes "commit s"
    ∷ codes "open s d=on for true" ∷ codes "insert s /m 2 C" ∷ codes "commit s" ∷ codes "open s d=off for true" ∷ codes "insert s /m 1 X" ∷ codes "commit s" ∷ []

abbrev pub replies : List (List ℕ)
replies =
    codes "ok option 0" ∷ codes "ok open 1 d=on" ∷ codes "ok" ∷ codes "ok +0" ∷ codes "ok commit 2" ∷ codes "ok open 2 d=on" ∷ codes "ok +0" ∷ codes "ok commit 3"
    ∷ codes "ok open 3 d=on" ∷ codes "ok +0" ∷ codes "ok commit 4" ∷ codes "ok open 4 d=off" ∷ codes "ok +0" ∷ codes "ok commit 5" ∷ []

-- the commits that reach a choice, and where the lines of a file come from
told_by_commits : (model [] (text (made ++ codes "log d=off" ∷ codes "log -" ∷ codes "log e=on" ∷ codes "blame d=on /m" ∷ codes "blame d=off /n" ∷ codes "blame d=off /" ∷ codes "blame - /m" ∷ []))).reply
    ≡ text (replies ++ codes "ok 3" ∷ codes "2 2" ∷ codes "4 1" ∷ codes "5 1" ∷ codes "refused incomplete d" ∷ codes "refused unknown-option e" ∷ codes "ok 4" ∷ codes "2 1 A" ∷ codes "5 4 X" ∷ codes "3 2 B" ∷ codes "4 3 C" ∷ codes "refused no-such-path" ∷ codes "refused not-file" ∷ codes "refused incomplete d" ∷ [])
unfolding is_utf8 chars encode digits step acted served served_declaration served_session served_edit served_past declared opened made_in inserted committed logged blamed node_at
told_by_commits = refl

-- what a file was, and what is asked for in the order of the refusals
told_then : (model [] (text (made ++ codes "past 3 d=on /m" ∷ codes "past 9 d=on /m" ∷ codes "past 0 d=on /m" ∷ codes "past 0 - /m" ∷ codes "past 3 - /m" ∷ codes "past 9 e=on /m" ∷ codes "past 9 d=on,d=on /m" ∷ codes "past 3 d=on /" ∷ []))).reply
    ≡ text (replies ++ codes "ok 2" ∷ codes "1 A" ∷ codes "2 B" ∷ codes "refused no-such-position" ∷ codes "refused late-option d" ∷ codes "refused no-such-path" ∷ codes "refused incomplete d" ∷ codes "refused unknown-option e" ∷ codes "refused repeated d" ∷ codes "refused not-file" ∷ [])
unfolding is_utf8 chars encode digits step acted served served_declaration served_session served_edit served_past declared opened made_in inserted committed past_told file_told node_at
told_then = refl

-- the rules of then, and not those of now
rules_then : (model [] (text (codes "option a" ∷ codes "constraint a" ∷ codes "option b" ∷ codes "constraint b" ∷ codes "past 2 a=off /m" ∷ codes "past 2 a=on,b=off /m" ∷ codes "past 3 a=on,b=off /m" ∷ codes "past 4 a=on,b=off /m" ∷ codes "past 1 a=off /m" ∷ []))).reply
    ≡ text (codes "ok option 0" ∷ codes "ok constraint 1" ∷ codes "ok option 1" ∷ codes "ok constraint 2" ∷ codes "refused invalid 1" ∷ codes "refused late-option b" ∷ codes "refused no-such-path" ∷ codes "refused invalid 2" ∷ codes "refused no-such-path" ∷ [])
unfolding is_utf8 chars encode digits step acted served served_declaration served_past declared constrained past_told file_told
rules_then = refl

-- the tree of then, whose name is used up for trees of now and of then
written_then : (model [] (text (made ++ codes "pastout t 3 d=off" ∷ codes "pastout t 9 -" ∷ codes "checkout t d=on" ∷ []))).rows ≡ dir_row (codes "t") ∷ file_row (codes "t/m") (codes "A\n") ∷ []
unfolding is_utf8 chars encode digits step acted served served_declaration served_session served_edit served_past served_tree declared opened made_in inserted committed checked_out past_written node_at
written_then = refl

-- a name that is used is told before a position that isn't there, whether a tree of now or of then used it
name_first : (model [] (text (codes "pastout t 0 -" ∷ codes "pastout t 9 -" ∷ codes "pastout s 9 -" ∷ codes "checkout t -" ∷ []))).reply
    ≡ tree_reply (codes "t") [] ++ text (codes "refused tree-taken" ∷ codes "refused no-such-position" ∷ codes "refused tree-taken" ∷ [])
unfolding is_utf8 chars encode digits step acted served served_tree checked_out past_written
name_first = refl

name_of_now : (model [] (text (codes "checkout t -" ∷ codes "pastout t 9 -" ∷ []))).reply ≡ tree_reply (codes "t") [] ++ text (codes "refused tree-taken" ∷ [])
unfolding is_utf8 chars encode digits step acted served served_tree checked_out past_written
name_of_now = refl
