-- Worked replies.
use Rattle.std.proofs.Common.{◌≡◌, ℕ, true, false, List, [], ◌∷◌, ◌++◌, map, refl}
use Rattle.std.specs.Prelude.{codes}
use Rattle.std.specs.Fmt.{digits}
use Rattle.std.specs.List.{concat}
use Rattle.hex.specs.Hex.{encode_with}
use Rattle.cov_base.specs.declared.number.Kind.TheVariants.{Dir, File}
use Rattle.cov_base.specs.declared.number.LineRef.TheVariants.{Old, New}
use Rattle.cov_script.specs.Replies.{option_reply, constraint_reply, prefer_reply, default_reply, complete_reply, open_reply, refresh_reply, plain_reply, new_line_reply, count_reply, commit_reply, shown_line, cat_line, list_line, refused_reply, checkout_reply, alt_line, text_line, where_reply, where_line, dead_line, forced_line, free_line, redundant_line, needed_line, nearest_reply, log_line, blame_line}
use Rattle.cov_script.specs.declared.code.Code.TheVariants as refusals
use Rattle.cov_script.specs.declared.target.Target.TheVariants.{F, T, At}

abbrev names : List (List ℕ)
names = codes "fast" ∷ codes "safe" ∷ []

numbered : (option_reply 0 ∷ constraint_reply 1 ∷ prefer_reply 256 ∷ default_reply 12 ∷ plain_reply ∷ new_line_reply 4294967295 ∷ commit_reply 7 ∷ [])
    ≡ codes "ok option 0\n" ∷ codes "ok constraint 1\n" ∷ codes "ok prefer 256\n" ∷ codes "ok default 12\n" ∷ codes "ok\n" ∷ codes "ok +4294967295\n" ∷ codes "ok commit 7\n" ∷ []
unfolding digits
numbered = refl

-- an option that is on and one that is off, and no option at all
of_choices : (complete_reply names (true ∷ false ∷ []) ∷ complete_reply [] [] ∷ open_reply 3 names (false ∷ true ∷ []) ∷ refresh_reply 12 names (true ∷ true ∷ []) ∷ [])
    ≡ codes "ok fast=on,safe=off\n" ∷ codes "ok -\n" ∷ codes "ok open 3 fast=off,safe=on\n" ∷ codes "ok refresh 12 fast=on,safe=on\n" ∷ []
unfolding digits
of_choices = refl

-- a count and the lines behind it; an empty text leaves the space before it
of_files : (count_reply 2 ++ concat (shown_line (Old 5) (codes "one  two") ∷ shown_line (New 0) [] ∷ [])) ++ cat_line 10 []
    ≡ codes "ok 2\n5 one  two\n+0 \n10 \n"
unfolding digits
of_files = refl

-- a directory with a file and a directory
of_directories : count_reply 2 ++ concat (list_line File (codes "Makefile") ∷ list_line Dir (codes "src") ∷ [])
    ≡ codes "ok 2\nf Makefile\nd src\n"
unfolding digits
of_directories = refl

-- a tree that has no rows, with the digest of no bytes
of_trees : checkout_reply (codes "t") 0 0 (227 ∷ 176 ∷ 196 ∷ 66 ∷ 152 ∷ 252 ∷ 28 ∷ 20 ∷ 154 ∷ 251 ∷ 244 ∷ 200 ∷ 153 ∷ 111 ∷ 185 ∷ 36 ∷ 39 ∷ 174 ∷ 65 ∷ 228 ∷ 100 ∷ 155 ∷ 147 ∷ 76 ∷ 164 ∷ 149 ∷ 153 ∷ 27 ∷ 120 ∷ 82 ∷ 184 ∷ 85 ∷ [])
    ≡ codes "ok checkout t 0 0 e3b0c44298fc1c149afbf4c8996fb92427ae41e4649b934ca495991b7852b855\n"
unfolding digits encode_with
of_trees = refl

-- a file with a line that is there with the option on alone, and one that is there with it off alone
of_sides : count_reply 4 ++ concat (alt_line 61 1 (codes "A") ∷ alt_line 61 4 (codes "X") ∷ alt_line 43 2 (codes "B") ∷ alt_line 45 3 [] ∷ [])
    ≡ codes "ok 4\n= 1 A\n= 4 X\n+ 2 B\n- 3 \n"
unfolding digits
of_sides = refl

-- a file with a line that is there with the option on alone, as conditional text
of_conditions : count_reply 6 ++ concat (map text_line (codes "A" ∷ codes "X" ∷ codes "#if d" ∷ codes "B" ∷ codes "#endif" ∷ codes "C" ∷ []))
    ≡ codes "ok 6\nA\nX\n#if d\nB\n#endif\nC\n"
unfolding digits
of_conditions = refl

-- a line that is everywhere, one that is nowhere, and lines that an option or two decide on
of_listings : (where_reply 0 T ++ where_reply 0 F) ++ (where_reply 1 (At 0) ++ where_line 0 (codes "d" ∷ []) 0 F T) ++ (where_reply 2 (At 0) ++ where_line 0 names 0 (At 1) T ++ where_line 1 names 1 F T)
    ≡ codes "ok 0 T\nok 0 F\nok 1 0\n0 d F T\nok 2 0\n0 fast 1 T\n1 safe F T\n"
unfolding digits
of_listings = refl

-- options of each state, constraints of each, and a choice that breaks the rules
of_rules : (dead_line names 1 ∷ forced_line names 0 ∷ free_line names 1 (true ∷ false ∷ []) (true ∷ true ∷ []) ∷ redundant_line 256 ∷ needed_line 2 names (false ∷ true ∷ []) ∷ nearest_reply 12 names (true ∷ false ∷ []) ∷ nearest_reply 0 [] [] ∷ [])
    ≡ codes "dead safe\n" ∷ codes "forced fast\n" ∷ codes "free safe fast=on,safe=off fast=on,safe=on\n" ∷ codes "redundant 256\n" ∷ codes "needed 2 fast=off,safe=on\n" ∷ codes "ok nearest 12 fast=on,safe=off\n" ∷ codes "ok nearest 0 -\n" ∷ []
unfolding digits
of_rules = refl

-- commits with their edits, and lines with the commits that they come from
of_pasts : (count_reply 2 ++ concat (log_line 2 2 ∷ log_line 41 0 ∷ [])) ++ (count_reply 2 ++ concat (blame_line 2 1 (codes "A") ∷ blame_line 5 4 [] ∷ []))
    ≡ codes "ok 2\n2 2\n41 0\nok 2\n2 1 A\n5 4 \n"
unfolding digits
of_pasts = refl

-- variants that are no trees, the lower node of a clash first; a choice of no option is a dash
refused_with_choices : map (refused_reply names) (refusals.Clash 1 12 (true ∷ false ∷ []) ∷ refusals.Orphan 7 (false ∷ false ∷ []) ∷ refusals.Loop 256 (true ∷ true ∷ []) ∷ refusals.Clash 1 2 [] ∷ [])
    ≡ codes "refused clash 1 12 in fast=on,safe=off\n" ∷ codes "refused orphan 7 in fast=off,safe=off\n" ∷ codes "refused loop 256 in fast=on,safe=on\n" ∷ codes "refused clash 1 2 in -\n" ∷ []
unfolding digits
refused_with_choices = refl

refused_with_more : map (refused_reply names) (refusals.Syntax 17 ∷ refusals.UnknownOption (codes "on") ∷ refusals.Repeated 1 ∷ refusals.Invalid 2 ∷ refusals.Incomplete 0 ∷ refusals.EditLost 0 ∷ refusals.BadRecord 16383 ∷ refusals.SideInvalid true 256 ∷ refusals.SideInvalid false 1 ∷ refusals.LateOption 1 ∷ refusals.OutsideSideAt 16383 ∷ refusals.TooLongAt 4294967295 ∷ [])
    ≡ codes "refused syntax 17\n" ∷ codes "refused unknown-option on\n" ∷ codes "refused repeated safe\n" ∷ codes "refused invalid 2\n" ∷ codes "refused incomplete fast\n" ∷ codes "refused edit-lost 0\n" ∷ codes "refused bad-record 16383\n" ∷ codes "refused side-invalid on 256\n" ∷ codes "refused side-invalid off 1\n" ∷ codes "refused late-option safe\n" ∷ codes "refused outside-side 16383\n" ∷ codes "refused too-long 4294967295\n" ∷ []
unfolding digits
refused_with_more = refl

refused_alone : map (refused_reply names) (refusals.TooLong ∷ refusals.Long ∷ refusals.BadName ∷ refusals.NoVariantLeft ∷ refusals.SessionExists ∷ refusals.NoSession ∷ refusals.TooManySessions ∷ refusals.OutsideAmbition ∷ refusals.OutsideSide ∷ refusals.NotEmpty ∷ refusals.IntoItself ∷ refusals.IsRoot ∷ refusals.BadBase ∷ refusals.BadOption ∷ refusals.TreeTaken ∷ refusals.NoSuchPosition ∷ [])
    ≡ codes "refused too-long\n" ∷ codes "refused long\n" ∷ codes "refused bad-name\n" ∷ codes "refused no-variant-left\n" ∷ codes "refused session-exists\n" ∷ codes "refused no-session\n" ∷ codes "refused too-many-sessions\n" ∷ codes "refused outside-ambition\n" ∷ codes "refused outside-side\n" ∷ codes "refused not-empty\n" ∷ codes "refused into-itself\n" ∷ codes "refused is-root\n" ∷ codes "refused bad-base\n" ∷ codes "refused bad-option\n" ∷ codes "refused tree-taken\n" ∷ codes "refused no-such-position\n" ∷ []
refused_alone = refl
