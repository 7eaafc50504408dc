-- Worked scripts that write trees, compare sides, tell conditional text and where a line is, and edit for a side.
use Rattle.std.proofs.Common.{◌≡◌, refl, [], ◌∷◌, ◌++◌}
use Rattle.std.specs.Prelude.{codes}
use Rattle.std.specs.Str.{is_utf8, chars}
use Rattle.std.specs.Fmt.{digits}
use lib.Utf8.{encode}
use Rattle.cov_cond.specs.Exporting.{exported}
use Rattle.cov_out.specs.Rows.{dir_row, file_row}
use Rattle.cov_lines.specs.Step.{model, step, acted, checked_out, served, served_tree, served_declaration, served_session, served_edit, served_question, declared, constrained, defaulted, opened, side_changed, made_in, inserted, deleted, committed, told, file_told, compared, conditions_told, file_exported, presence_told, node_at}
use Rattle.cov_lines.specs.Written.{tree_reply}
use Rattle.cov_lines.proofs.Examples.{text}

-- an empty tree, whose name is used then
empty_tree : (model [] (text (codes "checkout t -" ∷ codes "checkout t -" ∷ []))).reply ≡ tree_reply (codes "t") [] ++ text (codes "refused tree-taken" ∷ [])
unfolding is_utf8 chars encode digits step acted checked_out served served_tree
empty_tree = refl

-- a name is free after a checkout that the rules refuse
free_name : (model [] (text (codes "option a" ∷ codes "checkout t -" ∷ codes "checkout t a=on" ∷ codes "checkout t a=off" ∷ []))).rows ≡ dir_row (codes "t") ∷ []
unfolding is_utf8 chars encode digits step acted checked_out served served_tree served_declaration declared
free_name = refl

-- a tree of one file, behind its directory
one_file : (model [] (text (codes "open s - for true" ∷ codes "mkfile s /m" ∷ codes "insert s /m 0 one" ∷ codes "insert s /m +0 two" ∷ codes "commit s" ∷ codes "checkout t -" ∷ []))).rows
    ≡ dir_row (codes "t") ∷ file_row (codes "t/m") (codes "one\ntwo\n") ∷ []
unfolding is_utf8 chars encode digits step acted checked_out served served_tree served_declaration served_session served_edit served_question opened made_in inserted committed node_at
one_file = refl

-- a line that is there for one option alone, told by its listing and with its mark, and then deleted everywhere
one_side : (model [] (text (codes "option d" ∷ codes "open s d=on for true" ∷ codes "mkfile s /m" ∷ codes "insert s /m 0 A" ∷ codes "commit s" ∷ codes "open s d=on for d" ∷ codes "insert s /m 1 B" ∷ codes "commit s" ∷ codes "open s d=on for true" ∷ codes "insert s /m 2 C" ∷ codes "commit s" ∷ codes "open s d=off for true" ∷ codes "insert s /m 1 X" ∷ codes "commit s" ∷ codes "where 2" ∷ codes "alt d=on d /m" ∷ codes "open s d=on for true" ∷ codes "delete s /m 2" ∷ codes "commit s" ∷ codes "where 2" ∷ codes "where 5" ∷ codes "where 0" ∷ []))).reply
    ≡ text (codes "ok option 0" ∷ codes "ok open 1 d=on" ∷ codes "ok" ∷ codes "ok +0" ∷ codes "ok commit 2" ∷ codes "ok open 2 d=on" ∷ codes "ok +0" ∷ codes "ok commit 3" ∷ codes "ok open 3 d=on" ∷ codes "ok +0" ∷ codes "ok commit 4" ∷ codes "ok open 4 d=off" ∷ codes "ok +0" ∷ codes "ok commit 5" ∷ codes "ok 1 0" ∷ codes "0 d F T" ∷ codes "ok 4" ∷ codes "= 1 A" ∷ codes "= 4 X" ∷ codes "+ 2 B" ∷ codes "= 3 C" ∷ codes "ok open 5 d=on" ∷ codes "ok" ∷ codes "ok commit 6" ∷ codes "ok 0 F" ∷ codes "refused no-such-line" ∷ codes "refused no-such-line" ∷ [])
unfolding is_utf8 chars encode digits step acted served served_declaration served_session served_edit served_question declared opened made_in inserted deleted committed compared presence_told node_at
one_side = refl

-- a file with all its variants, whatever choice has it there; what is asked for in the order of the refusals
conditions : (model [] (text (codes "option d" ∷ codes "open s d=on for true" ∷ codes "mkfile s /m" ∷ codes "insert s /m 0 A" ∷ codes "commit s" ∷ codes "open s d=on for d" ∷ codes "insert s /m 1 B" ∷ codes "commit s" ∷ codes "open s d=on for true" ∷ codes "insert s /m 2 C" ∷ codes "commit s" ∷ codes "open s d=off for true" ∷ codes "insert s /m 1 X" ∷ codes "commit s" ∷ codes "cond d=on /m" ∷ codes "cond e=on /m" ∷ codes "cond d=on,d=on /m" ∷ codes "cond - /m" ∷ codes "cond d=off /n" ∷ codes "cond d=off /" ∷ []))).reply
    ≡ text (codes "ok option 0" ∷ codes "ok open 1 d=on" ∷ codes "ok" ∷ codes "ok +0" ∷ codes "ok commit 2" ∷ codes "ok open 2 d=on" ∷ codes "ok +0" ∷ codes "ok commit 3" ∷ codes "ok open 3 d=on" ∷ codes "ok +0" ∷ codes "ok commit 4" ∷ codes "ok open 4 d=off" ∷ codes "ok +0" ∷ codes "ok commit 5" ∷ codes "ok 6" ∷ codes "A" ∷ codes "X" ∷ codes "#if d" ∷ codes "B" ∷ codes "#endif" ∷ codes "C" ∷ codes "refused unknown-option e" ∷ codes "refused repeated d" ∷ codes "refused incomplete d" ∷ codes "refused no-such-path" ∷ codes "refused not-file" ∷ [])
unfolding is_utf8 chars encode digits step acted served served_declaration served_session served_edit served_question declared opened made_in inserted committed conditions_told file_exported exported node_at
conditions = refl

-- a constraint that is false on the other side
side_invalid : (model [] (text (codes "option d" ∷ codes "constraint d" ∷ codes "alt d=on d /m" ∷ codes "alt d=on e /m" ∷ []))).reply
    ≡ text (codes "ok option 0" ∷ codes "ok constraint 1" ∷ codes "refused side-invalid off 1" ∷ codes "refused unknown-option e" ∷ [])
unfolding is_utf8 chars encode digits step acted served served_declaration served_question declared constrained compared
side_invalid = refl

-- a line for all and one for a side; no side has an option that was declared after the base, or is false on the session's choice
for_a_side : (model [] (text (codes "option d" ∷ codes "open s d=on for true" ∷ codes "mkfile s /m" ∷ codes "insert s /m 0 one" ∷ codes "side s d" ∷ codes "insert s /m +0 two" ∷ codes "option e" ∷ codes "side s e" ∷ codes "side s !d" ∷ codes "commit s" ∷ codes "default e off" ∷ codes "cat d=on /m" ∷ codes "cat d=off /m" ∷ codes "where 2" ∷ []))).reply
    ≡ text (codes "ok option 0" ∷ codes "ok open 1 d=on" ∷ codes "ok" ∷ codes "ok +0" ∷ codes "ok" ∷ codes "ok +1" ∷ codes "ok option 1" ∷ codes "refused late-option e" ∷ codes "refused outside-side" ∷ codes "ok commit 3" ∷ codes "ok default 1" ∷ codes "ok 2" ∷ codes "1 one" ∷ codes "2 two" ∷ codes "ok 1" ∷ codes "1 one" ∷ codes "ok 1 0" ∷ codes "0 d F T" ∷ [])
unfolding is_utf8 chars encode digits step acted served served_declaration served_session served_edit served_question declared defaulted opened side_changed made_in inserted committed told file_told presence_told node_at
for_a_side = refl

-- a line that is inserted on one side and deleted on another stays where it isn't deleted
own_line_kept : (model [] (text (codes "option d" ∷ codes "option e" ∷ codes "open s d=on,e=on for true" ∷ codes "mkfile s /m" ∷ codes "side s d" ∷ codes "insert s /m 0 x" ∷ codes "side s e" ∷ codes "delete s /m +0" ∷ codes "commit s" ∷ codes "where 1" ∷ []))).reply
    ≡ text (codes "ok option 0" ∷ codes "ok option 1" ∷ codes "ok open 2 d=on,e=on" ∷ codes "ok" ∷ codes "ok" ∷ codes "ok +0" ∷ codes "ok" ∷ codes "ok" ∷ codes "ok commit 3" ∷ codes "ok 2 0" ∷ codes "0 d F 1" ∷ codes "1 e T F" ∷ [])
unfolding is_utf8 chars encode digits step acted served served_declaration served_session served_edit served_question declared opened side_changed made_in inserted deleted committed presence_told node_at
own_line_kept = refl
