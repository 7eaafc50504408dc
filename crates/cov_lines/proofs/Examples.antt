-- Worked scripts and their replies.
use Rattle.std.proofs.Common.{◌≡◌, refl, ℕ, List, [], ◌∷◌, ◌++◌}
use Rattle.std.specs.Prelude.{codes}
use Rattle.std.specs.Str.{is_utf8, chars}
use Rattle.std.specs.Fmt.{digits}
use Rattle.std.specs.List.{flat_map}
use lib.Utf8.{encode}
use Rattle.cov_edit.specs.declared.command.Command.TheVariants as commands
use Rattle.cov_lines.specs.Step.{model, step, acted, served, served_declaration, served_session, served_edit, served_question, declared, constrained, preferred, defaulted, upgraded, completed, opened, refreshed, made_in, renamed, moved, removed, inserted, deleted, replaced, shown, listed_at, committed, dropped, told, file_told, node_at}

abbrev pub text : List (List ℕ) → List ℕ
text ls = flat_map (λ l. l ++ 10 ∷ []) ls

-- each line is for the session that it names: one of a name is open at a time, and a commit ends it alone
pub sessions_by_name : (model [] (text (codes "open s - for true" ∷ codes "commit s" ∷ codes "insert s /m 0 x" ∷ codes "mkfile s /m" ∷ codes "open t - for true" ∷ codes "mkfile s /m" ∷ codes "open s - for true" ∷ codes "mkfile t /m" ∷ codes "list t /" ∷ codes "commit s" ∷ codes "drop s" ∷ codes "mkfile t /n" ∷ codes "commit t" ∷ codes "refresh t" ∷ codes "rename t /m k" ∷ codes "refresh t" ∷ codes "list t /" ∷ codes "commit t" ∷ codes "drop t" ∷ codes "commit t" ∷ codes "refresh t" ∷ []))).reply
    ≡ text (codes "ok open 0 -" ∷ codes "refused empty" ∷ codes "refused no-such-path" ∷ codes "ok" ∷ codes "ok open 0 -" ∷ codes "refused name-taken" ∷ codes "refused session-exists" ∷ codes "ok" ∷ codes "ok 1" ∷ codes "f m" ∷ codes "ok commit 1" ∷ codes "refused no-session" ∷ codes "ok" ∷ codes "refused clash 1 2 in -" ∷ codes "refused edit-lost 0" ∷ codes "ok" ∷ codes "refused edit-lost 0" ∷ codes "ok 2" ∷ codes "f k" ∷ codes "f n" ∷ codes "ok commit 2" ∷ codes "refused no-session" ∷ codes "refused no-session" ∷ codes "refused no-session" ∷ [])
unfolding is_utf8 chars encode digits step acted served served_declaration served_session served_edit served_question declared constrained preferred defaulted completed opened refreshed made_in renamed moved removed inserted deleted replaced shown listed_at committed dropped told file_told node_at
sessions_by_name = refl

-- two commits to one file, of disjoint variants and of one, which is overtaken, and refreshed
overtaken_then_refreshed : (model [] (text (codes "option a" ∷ codes "open base - for true" ∷ codes "open base a=on for true" ∷ codes "mkfile base /m" ∷ codes "insert base /m 0 one" ∷ codes "commit base" ∷ codes "open p a=on for a" ∷ codes "open q a=on for true" ∷ codes "open r a=off for !a" ∷ codes "insert p /m 1 two" ∷ codes "insert q /m +0 x" ∷ codes "insert q /m 1 three" ∷ codes "delete r /m 1" ∷ codes "commit p" ∷ codes "commit r" ∷ codes "commit q" ∷ codes "show q /m" ∷ codes "refresh q" ∷ codes "show q /m" ∷ codes "commit q" ∷ codes "cat a=on /m" ∷ codes "cat a=off /m" ∷ []))).reply
    ≡ text (codes "ok option 0" ∷ codes "refused incomplete a" ∷ codes "ok open 1 a=on" ∷ codes "ok" ∷ codes "ok +0" ∷ codes "ok commit 2" ∷ codes "ok open 2 a=on" ∷ codes "ok open 2 a=on" ∷ codes "ok open 2 a=off" ∷ codes "ok +0" ∷ codes "refused no-such-line" ∷ codes "ok +0" ∷ codes "ok" ∷ codes "ok commit 3" ∷ codes "ok commit 4" ∷ codes "refused overtaken 3" ∷ codes "ok 2" ∷ codes "1 one" ∷ codes "+0 three" ∷ codes "ok refresh 4 a=on" ∷ codes "ok 3" ∷ codes "1 one" ∷ codes "+0 three" ∷ codes "2 two" ∷ codes "ok commit 5" ∷ codes "ok 3" ∷ codes "1 one" ∷ codes "3 three" ∷ codes "2 two" ∷ codes "ok 1" ∷ codes "3 three" ∷ [])
unfolding is_utf8 chars encode digits step acted served served_declaration served_session served_edit served_question declared constrained preferred defaulted completed opened refreshed made_in renamed moved removed inserted deleted replaced shown listed_at committed dropped told file_told node_at
overtaken_then_refreshed = refl

-- a line that another session deletes under this one's deletion
edit_lost : (model [] (text (codes "open s - for true" ∷ codes "mkfile s /m" ∷ codes "insert s /m 0 one" ∷ codes "commit s" ∷ codes "open s - for true" ∷ codes "open t - for true" ∷ codes "insert s /m 1 two" ∷ codes "delete s /m 1" ∷ codes "delete t /m 1" ∷ codes "commit t" ∷ codes "commit s" ∷ codes "refresh s" ∷ codes "show s /m" ∷ codes "commit s" ∷ codes "drop s" ∷ []))).reply
    ≡ text (codes "ok open 0 -" ∷ codes "ok" ∷ codes "ok +0" ∷ codes "ok commit 1" ∷ codes "ok open 1 -" ∷ codes "ok open 1 -" ∷ codes "ok +0" ∷ codes "ok" ∷ codes "ok" ∷ codes "ok commit 2" ∷ codes "refused overtaken 2" ∷ codes "refused edit-lost 0" ∷ codes "ok 1" ∷ codes "+0 two" ∷ codes "refused overtaken 2" ∷ codes "ok" ∷ [])
unfolding is_utf8 chars encode digits step acted served served_declaration served_session served_edit served_question declared constrained preferred defaulted completed opened refreshed made_in renamed moved removed inserted deleted replaced shown listed_at committed dropped told file_told node_at
edit_lost = refl

-- an option and a constraint under a session that is refreshed
refreshed_by_rules : (model [] (text (codes "option a" ∷ codes "open s a=on for a" ∷ codes "mkfile s /m" ∷ codes "option b" ∷ codes "refresh s" ∷ codes "default b off" ∷ codes "refresh s" ∷ codes "show s /m" ∷ codes "constraint !a" ∷ codes "refresh s" ∷ codes "commit s" ∷ codes "refresh s" ∷ []))).reply
    ≡ text (codes "ok option 0" ∷ codes "ok open 1 a=on" ∷ codes "ok" ∷ codes "ok option 1" ∷ codes "refused incomplete b" ∷ codes "ok default 1" ∷ codes "ok refresh 3 a=on,b=off" ∷ codes "ok 0" ∷ codes "ok constraint 1" ∷ codes "refused invalid 1" ∷ codes "ok commit 5" ∷ codes "refused no-session" ∷ [])
unfolding is_utf8 chars encode digits step acted served served_declaration served_session served_edit served_question declared constrained preferred defaulted completed opened refreshed made_in renamed moved removed inserted deleted replaced shown listed_at committed dropped told file_told node_at
refreshed_by_rules = refl

plain_use : (model [] (text (codes "open s - for true" ∷ codes "mkfile s /m" ∷ codes "insert s /m 0 one" ∷ codes "commit s" ∷ codes "open s - for true" ∷ codes "insert s /m 1 two" ∷ codes "show s /m" ∷ codes "commit s" ∷ codes "cat - /m" ∷ []))).reply
    ≡ text (codes "ok open 0 -" ∷ codes "ok" ∷ codes "ok +0" ∷ codes "ok commit 1" ∷ codes "ok open 1 -" ∷ codes "ok +0" ∷ codes "ok 2" ∷ codes "1 one" ∷ codes "+0 two" ∷ codes "ok commit 2" ∷ codes "ok 2" ∷ codes "1 one" ∷ codes "2 two" ∷ [])
unfolding is_utf8 chars encode digits step acted served served_declaration served_session served_edit served_question declared constrained preferred defaulted completed opened made_in renamed moved removed inserted deleted replaced shown listed_at committed dropped told file_told node_at
plain_use = refl

outside_ambition : (model [] (text (codes "option a" ∷ codes "open s a=off for a" ∷ []))).reply
    ≡ text (codes "ok option 0" ∷ codes "refused outside-ambition" ∷ [])
unfolding is_utf8 chars encode digits step acted served served_declaration served_session served_edit served_question declared constrained preferred defaulted completed opened made_in renamed moved removed inserted deleted replaced shown listed_at committed dropped told file_told node_at
outside_ambition = refl

-- an anchor that is absent from a variant, and the newest first
absent_anchor : (model [] (text (codes "option d" ∷ codes "open s d=on for true" ∷ codes "mkfile s /m" ∷ codes "insert s /m 0 A" ∷ codes "commit s" ∷ codes "open s d=on for d" ∷ codes "insert s /m 1 B" ∷ codes "commit s" ∷ codes "open s d=on for true" ∷ codes "insert s /m 2 C" ∷ codes "commit s" ∷ codes "open s d=off for true" ∷ codes "show s /m" ∷ codes "insert s /m 1 X" ∷ codes "commit s" ∷ codes "cat d=on /m" ∷ codes "cat d=off /m" ∷ []))).reply
    ≡ text (codes "ok option 0" ∷ codes "ok open 1 d=on" ∷ codes "ok" ∷ codes "ok +0" ∷ codes "ok commit 2" ∷ codes "ok open 2 d=on" ∷ codes "ok +0" ∷ codes "ok commit 3" ∷ codes "ok open 3 d=on" ∷ codes "ok +0" ∷ codes "ok commit 4" ∷ codes "ok open 4 d=off" ∷ codes "ok 2" ∷ codes "1 A" ∷ codes "3 C" ∷ codes "ok +0" ∷ codes "ok commit 5" ∷ codes "ok 4" ∷ codes "1 A" ∷ codes "4 X" ∷ codes "2 B" ∷ codes "3 C" ∷ codes "ok 3" ∷ codes "1 A" ∷ codes "4 X" ∷ codes "3 C" ∷ [])
unfolding is_utf8 chars encode digits step acted served served_declaration served_session served_edit served_question declared constrained preferred defaulted completed opened made_in renamed moved removed inserted deleted replaced shown listed_at committed dropped told file_told node_at
absent_anchor = refl

-- an option and a constraint under an open session, whose commit is judged at its base
judged_at_base : (model [] (text (codes "option a" ∷ codes "open s a=on for a" ∷ codes "mkfile s /f" ∷ codes "option b" ∷ codes "constraint !a" ∷ codes "insert s /f 0 x" ∷ codes "insert s /f +1 y" ∷ codes "insert s /f +0 z" ∷ codes "commit s" ∷ codes "cat a=on,b=on /f" ∷ codes "cat a=off,b=on /f" ∷ []))).reply
    ≡ text (codes "ok option 0" ∷ codes "ok open 1 a=on" ∷ codes "ok" ∷ codes "ok option 1" ∷ codes "ok constraint 1" ∷ codes "ok +0" ∷ codes "refused no-such-line" ∷ codes "ok +1" ∷ codes "ok commit 4" ∷ codes "refused invalid 1" ∷ codes "refused no-such-path" ∷ [])
unfolding is_utf8 chars encode digits step acted served served_declaration served_session served_edit served_question declared constrained preferred defaulted completed opened made_in renamed moved removed inserted deleted replaced shown listed_at committed dropped told file_told node_at
judged_at_base = refl

-- a line is deleted from all variants, and then another from those of an ambition alone
deleted_within : (model [] (text (codes "option d" ∷ codes "open s d=on for true" ∷ codes "mkfile s /m" ∷ codes "insert s /m 0 A" ∷ codes "commit s" ∷ codes "open s d=on for d" ∷ codes "insert s /m 1 B" ∷ codes "commit s" ∷ codes "open s d=on for true" ∷ codes "insert s /m 2 C" ∷ codes "commit s" ∷ codes "open s d=off for true" ∷ codes "show s /m" ∷ codes "insert s /m 1 X" ∷ codes "commit s" ∷ codes "cat d=on /m" ∷ codes "cat d=off /m" ∷ codes "open s d=on for true" ∷ codes "delete s /m 2" ∷ codes "commit s" ∷ codes "cat d=on /m" ∷ codes "cat d=off /m" ∷ codes "open s d=on for d" ∷ codes "delete s /m 4" ∷ codes "commit s" ∷ codes "cat d=on /m" ∷ codes "cat d=off /m" ∷ []))).reply
    ≡ text (codes "ok option 0" ∷ codes "ok open 1 d=on" ∷ codes "ok" ∷ codes "ok +0" ∷ codes "ok commit 2" ∷ codes "ok open 2 d=on" ∷ codes "ok +0" ∷ codes "ok commit 3" ∷ codes "ok open 3 d=on" ∷ codes "ok +0" ∷ codes "ok commit 4" ∷ codes "ok open 4 d=off" ∷ codes "ok 2" ∷ codes "1 A" ∷ codes "3 C" ∷ codes "ok +0" ∷ codes "ok commit 5" ∷ codes "ok 4" ∷ codes "1 A" ∷ codes "4 X" ∷ codes "2 B" ∷ codes "3 C" ∷ codes "ok 3" ∷ codes "1 A" ∷ codes "4 X" ∷ codes "3 C" ∷ codes "ok open 5 d=on" ∷ codes "ok" ∷ codes "ok commit 6" ∷ codes "ok 3" ∷ codes "1 A" ∷ codes "4 X" ∷ codes "3 C" ∷ codes "ok 3" ∷ codes "1 A" ∷ codes "4 X" ∷ codes "3 C" ∷ codes "ok open 6 d=on" ∷ codes "ok" ∷ codes "ok commit 7" ∷ codes "ok 2" ∷ codes "1 A" ∷ codes "3 C" ∷ codes "ok 3" ∷ codes "1 A" ∷ codes "4 X" ∷ codes "3 C" ∷ [])
unfolding is_utf8 chars encode digits step acted served served_declaration served_session served_edit served_question declared constrained preferred defaulted completed opened made_in renamed moved removed inserted deleted replaced shown listed_at committed dropped told file_told node_at
deleted_within = refl

-- a plain number never names a line of the session itself, even the number that it would get
own_lines : (model [] (text (codes "open s - for true" ∷ codes "mkfile s /m" ∷ codes "insert s /m 0 one" ∷ codes "commit s" ∷ codes "open s - for true" ∷ codes "insert s /m 1 two" ∷ codes "commit s" ∷ codes "open s - for true" ∷ codes "insert s /m 1 x" ∷ codes "delete s /m 3" ∷ codes "insert s /m 3 y" ∷ codes "delete s /m +0" ∷ codes "delete s /m +0" ∷ codes "show s /m" ∷ []))).reply
    ≡ text (codes "ok open 0 -" ∷ codes "ok" ∷ codes "ok +0" ∷ codes "ok commit 1" ∷ codes "ok open 1 -" ∷ codes "ok +0" ∷ codes "ok commit 2" ∷ codes "ok open 2 -" ∷ codes "ok +0" ∷ codes "refused no-such-line" ∷ codes "refused no-such-line" ∷ codes "ok" ∷ codes "refused no-such-line" ∷ codes "ok 2" ∷ codes "1 one" ∷ codes "2 two" ∷ [])
unfolding is_utf8 chars encode digits step acted served served_declaration served_session served_edit served_question declared constrained preferred defaulted completed opened made_in renamed moved removed inserted deleted replaced shown listed_at committed dropped told file_told node_at
own_lines = refl

-- a line is replaced by one directly after it; the head isn't a line
line_replaced : (model [] (text (codes "open s - for true" ∷ codes "mkfile s /m" ∷ codes "insert s /m 0 one" ∷ codes "insert s /m +0 two" ∷ codes "commit s" ∷ codes "open s - for true" ∷ codes "delete s /m 0" ∷ codes "replace s /m 0 zero" ∷ codes "replace s /m 3 zero" ∷ codes "replace s /m 1 uno" ∷ codes "show s /m" ∷ codes "replace s /m 1 uno" ∷ codes "replace s /m +0 eins" ∷ codes "insert s /m +1 und" ∷ codes "show s /m" ∷ codes "commit s" ∷ codes "cat - /m" ∷ []))).reply
    ≡ text (codes "ok open 0 -" ∷ codes "ok" ∷ codes "ok +0" ∷ codes "ok +1" ∷ codes "ok commit 1" ∷ codes "ok open 1 -" ∷ codes "refused no-such-line" ∷ codes "refused no-such-line" ∷ codes "refused no-such-line" ∷ codes "ok +0" ∷ codes "ok 2" ∷ codes "+0 uno" ∷ codes "2 two" ∷ codes "refused no-such-line" ∷ codes "ok +1" ∷ codes "ok +2" ∷ codes "ok 3" ∷ codes "+1 eins" ∷ codes "+2 und" ∷ codes "2 two" ∷ codes "ok commit 2" ∷ codes "ok 3" ∷ codes "4 eins" ∷ codes "5 und" ∷ codes "2 two" ∷ [])
unfolding is_utf8 chars encode digits step acted served served_declaration served_session served_edit served_question declared constrained preferred defaulted completed opened made_in renamed moved removed inserted deleted replaced shown listed_at committed dropped told file_told node_at
line_replaced = refl

-- what isn't there is refused by its name
nothing_there : (model [] (text (codes "open s - for true" ∷ codes "mkfile s /m" ∷ codes "delete s /n 1" ∷ codes "replace s /n 1 x" ∷ codes "show s /n" ∷ codes "delete t /m 1" ∷ codes "replace t /m 1 x" ∷ codes "show t /m" ∷ codes "delete s /m/n 1" ∷ codes "replace s / 1 x" ∷ codes "show s /m/n" ∷ []))).reply
    ≡ text (codes "ok open 0 -" ∷ codes "ok" ∷ codes "refused no-such-path" ∷ codes "refused no-such-path" ∷ codes "refused no-such-path" ∷ codes "refused no-session" ∷ codes "refused no-session" ∷ codes "refused no-session" ∷ codes "refused no-such-path" ∷ codes "refused not-file" ∷ codes "refused no-such-path" ∷ [])
unfolding is_utf8 chars encode digits step acted served served_declaration served_session served_edit served_question declared constrained preferred defaulted completed opened made_in renamed moved removed inserted deleted replaced shown listed_at committed dropped told file_told node_at
nothing_there = refl

-- a choice that the rules leave open
incomplete : (model [] (text (codes "option a" ∷ codes "complete -" ∷ []))).reply
    ≡ text (codes "ok option 0" ∷ codes "refused incomplete a" ∷ [])
unfolding is_utf8 chars encode digits step acted served served_declaration served_session served_edit served_question declared constrained preferred defaulted completed opened made_in renamed moved removed inserted deleted replaced shown listed_at committed dropped told file_told node_at
incomplete = refl

-- a constraint that would leave no variant
no_variant_left : (model [] (text (codes "option a" ∷ codes "constraint a" ∷ codes "constraint !a" ∷ codes "complete -" ∷ []))).reply
    ≡ text (codes "ok option 0" ∷ codes "ok constraint 1" ∷ codes "refused no-variant-left" ∷ codes "ok a=on" ∷ [])
unfolding is_utf8 chars encode digits step acted served served_declaration served_session served_edit served_question declared constrained preferred defaulted completed opened made_in renamed moved removed inserted deleted replaced shown listed_at committed dropped told file_told node_at
no_variant_left = refl

-- a preference comes before a default
preference_first : (model [] (text (codes "option a" ∷ codes "prefer a" ∷ codes "default a off" ∷ codes "complete -" ∷ []))).reply
    ≡ text (codes "ok option 0" ∷ codes "ok prefer 1" ∷ codes "ok default 1" ∷ codes "ok a=on" ∷ [])
unfolding is_utf8 chars encode digits step acted served served_declaration served_session served_edit served_question declared constrained preferred defaulted completed opened made_in renamed moved removed inserted deleted replaced shown listed_at committed dropped told file_told node_at
preference_first = refl

-- lines that have no form, or name what isn't there
faulty_lines : (model [] (text (codes "option a" ∷ codes "" ∷ codes "# note" ∷ codes "optoin a" ∷ codes "option" ∷ codes "option a b" ∷ codes "option 9x" ∷ codes "option a" ∷ codes "constraint a &" ∷ codes "constraint a $" ∷ codes "constraint b" ∷ codes "complete a=yes" ∷ codes "complete a=on,a=off" ∷ codes "mkfile s m" ∷ codes "mkfile s /m" ∷ codes "insert s /m 4294967296 one" ∷ []))).reply
    ≡ text (codes "ok option 0" ∷ codes "refused syntax 0" ∷ codes "refused syntax 6" ∷ codes "refused syntax 8" ∷ codes "refused bad-name" ∷ codes "refused exists" ∷ codes "refused syntax 14" ∷ codes "refused syntax 13" ∷ codes "refused unknown-option b" ∷ codes "refused syntax 9" ∷ codes "refused repeated a" ∷ codes "refused syntax 9" ∷ codes "refused no-session" ∷ codes "refused syntax 12" ∷ [])
unfolding is_utf8 chars encode digits step acted served served_declaration served_session served_edit served_question declared constrained preferred defaulted completed opened made_in renamed moved removed inserted deleted replaced shown listed_at committed dropped told file_told node_at
faulty_lines = refl

-- a commit that is fine in its own variant and leaves another with two nodes of one name
other_variant_clashes : (model [] (text (codes "option d" ∷ codes "open s d=on for d" ∷ codes "mkfile s /x" ∷ codes "commit s" ∷ codes "open t d=off for true" ∷ codes "mkfile t /x" ∷ codes "commit t" ∷ codes "drop t" ∷ []))).reply
    ≡ text (codes "ok option 0" ∷ codes "ok open 1 d=on" ∷ codes "ok" ∷ codes "ok commit 2" ∷ codes "ok open 2 d=off" ∷ codes "ok" ∷ codes "refused clash 1 2 in d=on" ∷ codes "ok" ∷ [])
unfolding is_utf8 chars encode digits step acted served served_declaration served_session served_edit served_question declared constrained preferred defaulted completed opened made_in renamed moved removed inserted deleted replaced shown listed_at committed dropped told file_told node_at
other_variant_clashes = refl

-- a loop, then an orphan, both in a variant that the session doesn't show
loop_then_orphan : (model [] (text (codes "option p" ∷ codes "open s p=on for true" ∷ codes "mkdir s /a" ∷ codes "mkdir s /b" ∷ codes "mkdir s /c" ∷ codes "commit s" ∷ codes "open s p=on for p" ∷ codes "move s /a /b" ∷ codes "remove s /c" ∷ codes "commit s" ∷ codes "open t p=off for true" ∷ codes "move t /b /a" ∷ codes "commit t" ∷ codes "drop t" ∷ codes "open t p=off for true" ∷ codes "mkfile t /c/x" ∷ codes "commit t" ∷ []))).reply
    ≡ text (codes "ok option 0" ∷ codes "ok open 1 p=on" ∷ codes "ok" ∷ codes "ok" ∷ codes "ok" ∷ codes "ok commit 2" ∷ codes "ok open 2 p=on" ∷ codes "ok" ∷ codes "ok" ∷ codes "ok commit 3" ∷ codes "ok open 3 p=off" ∷ codes "ok" ∷ codes "refused loop 1 in p=on" ∷ codes "ok" ∷ codes "ok open 3 p=off" ∷ codes "ok" ∷ codes "refused orphan 4 in p=on" ∷ [])
unfolding is_utf8 chars encode digits step acted served served_declaration served_session served_edit served_question declared constrained preferred defaulted completed opened made_in renamed moved removed inserted deleted replaced shown listed_at committed dropped told file_told node_at
loop_then_orphan = refl

-- files and directories at paths of any length, moved and renamed with what they hold
directories : (model [] (text (codes "open s - for true" ∷ codes "mkdir s /a" ∷ codes "mkdir s /a/b" ∷ codes "mkfile s /a/b/m" ∷ codes "insert s /a/b/m 0 one" ∷ codes "mkdir s /c" ∷ codes "move s /a/b /c" ∷ codes "rename s /c/b d" ∷ codes "show s /c/d/m" ∷ codes "commit s" ∷ codes "cat - /c/d/m" ∷ codes "cat - /a/b/m" ∷ codes "open s - for true" ∷ codes "remove s /a" ∷ codes "move s /c/d/m /" ∷ codes "replace s /m 1 two" ∷ codes "commit s" ∷ codes "cat - /m" ∷ codes "cat - /a" ∷ []))).reply
    ≡ text (codes "ok open 0 -" ∷ codes "ok" ∷ codes "ok" ∷ codes "ok" ∷ codes "ok +0" ∷ codes "ok" ∷ codes "ok" ∷ codes "ok" ∷ codes "ok 1" ∷ codes "+0 one" ∷ codes "ok commit 1" ∷ codes "ok 1" ∷ codes "1 one" ∷ codes "refused no-such-path" ∷ codes "ok open 1 -" ∷ codes "ok" ∷ codes "ok" ∷ codes "ok +0" ∷ codes "ok commit 2" ∷ codes "ok 1" ∷ codes "2 two" ∷ codes "refused no-such-path" ∷ [])
unfolding is_utf8 chars encode digits step acted served served_declaration served_session served_edit served_question declared constrained preferred defaulted completed opened made_in renamed moved removed inserted deleted replaced shown listed_at committed dropped told file_told node_at
directories = refl

-- each refusal of an edit of a directory, in order
refused_in_order : (model [] (text (codes "mkdir s /a" ∷ codes "open s - for true" ∷ codes "mkdir s /a" ∷ codes "mkfile s /m" ∷ codes "mkdir t /a" ∷ codes "mkdir s /x/a" ∷ codes "mkdir s /m/a" ∷ codes "mkdir s /a" ∷ codes "rename t / a" ∷ codes "rename s /x a" ∷ codes "rename s / a" ∷ codes "rename s /m a" ∷ codes "rename s /m m" ∷ codes "move t / /" ∷ codes "move s /x /" ∷ codes "move s /m /x" ∷ codes "move s / /x" ∷ codes "move s / /a" ∷ codes "move s /m /m" ∷ codes "move s /a /m" ∷ codes "move s /a /a" ∷ codes "move s /m /" ∷ codes "mkdir s /a/b" ∷ codes "move s /a /a/b" ∷ codes "remove t /" ∷ codes "remove s /x" ∷ codes "remove s /" ∷ codes "remove s /a" ∷ codes "insert s /a 0 x" ∷ codes "delete s / 1" ∷ codes "show s /a" ∷ codes "show s /" ∷ codes "show s /m/n" ∷ codes "cat - /" ∷ codes "cat - /m/n" ∷ codes "remove s /a/b" ∷ codes "remove s /a" ∷ []))).reply
    ≡ text (codes "refused no-session" ∷ codes "ok open 0 -" ∷ codes "ok" ∷ codes "ok" ∷ codes "refused no-session" ∷ codes "refused no-such-path" ∷ codes "refused not-directory" ∷ codes "refused name-taken" ∷ codes "refused no-session" ∷ codes "refused no-such-path" ∷ codes "refused is-root" ∷ codes "refused name-taken" ∷ codes "refused name-taken" ∷ codes "refused no-session" ∷ codes "refused no-such-path" ∷ codes "refused no-such-path" ∷ codes "refused no-such-path" ∷ codes "refused is-root" ∷ codes "refused not-directory" ∷ codes "refused not-directory" ∷ codes "refused into-itself" ∷ codes "refused name-taken" ∷ codes "ok" ∷ codes "refused into-itself" ∷ codes "refused no-session" ∷ codes "refused no-such-path" ∷ codes "refused is-root" ∷ codes "refused not-empty" ∷ codes "refused not-file" ∷ codes "refused not-file" ∷ codes "refused not-file" ∷ codes "refused not-file" ∷ codes "refused no-such-path" ∷ codes "refused not-file" ∷ codes "refused no-such-path" ∷ codes "ok" ∷ codes "ok" ∷ [])
unfolding is_utf8 chars encode digits step acted served served_declaration served_session served_edit served_question declared constrained preferred defaulted completed opened made_in renamed moved removed inserted deleted replaced shown listed_at committed dropped told file_told node_at
refused_in_order = refl

-- a directory is listed in byte order of names, and a file not at all
directory_listed : (model [] (text (codes "open s - for true" ∷ codes "mkdir s /src" ∷ codes "mkfile s /a" ∷ codes "mkfile s /Makefile" ∷ codes "mkdir s /src/b" ∷ codes "list s /" ∷ codes "list s /src" ∷ codes "list s /src/b" ∷ codes "list s /a" ∷ codes "list s /n" ∷ codes "list t /" ∷ codes "rename s /a z" ∷ codes "move s /src/b /" ∷ codes "list s /" ∷ []))).reply
    ≡ text (codes "ok open 0 -" ∷ codes "ok" ∷ codes "ok" ∷ codes "ok" ∷ codes "ok" ∷ codes "ok 3" ∷ codes "f Makefile" ∷ codes "f a" ∷ codes "d src" ∷ codes "ok 1" ∷ codes "d b" ∷ codes "ok 0" ∷ codes "refused not-directory" ∷ codes "refused no-such-path" ∷ codes "refused no-session" ∷ codes "ok" ∷ codes "ok" ∷ codes "ok 4" ∷ codes "f Makefile" ∷ codes "d b" ∷ codes "d src" ∷ codes "f z" ∷ [])
unfolding is_utf8 chars encode digits step acted served served_declaration served_session served_edit served_question declared constrained preferred defaulted completed opened made_in renamed moved removed inserted deleted replaced shown listed_at committed dropped told file_told node_at
directory_listed = refl

-- a history is upgraded once, in this run or before it
upgraded_once : (model [] (text (codes "upgrade" ∷ codes "upgrade" ∷ codes "option a" ∷ codes "upgrade" ∷ codes "upgrade x" ∷ []))).reply
    ≡ text (codes "ok upgrade 2" ∷ codes "refused upgraded" ∷ codes "ok option 0" ∷ codes "refused upgraded" ∷ codes "refused syntax 7" ∷ [])
unfolding digits step acted served served_declaration declared upgraded
upgraded_once = refl

upgraded_before : (model (commands.Option (codes "a") ∷ commands.Upgrade ∷ []) (text (codes "upgrade" ∷ codes "option a" ∷ codes "option b" ∷ []))).reply
    ≡ text (codes "refused upgraded" ∷ codes "refused exists" ∷ codes "ok option 1" ∷ [])
unfolding digits step acted served served_declaration declared upgraded
upgraded_before = refl
