-- Why lines aren't taken in, and what is known of those that are.
use Rattle.std.proofs.Common.{◌≡◌, ◌∙◌, refl, sym, ap, subst, ℕ, ◌+◌, ◌<◌, ◌≤◌, arith, Bool, true, false, ◌||◌, nat_le, nat_lt, List, [], ◌∷◌, ◌++◌, append-nil, append_assoc, length, Option, Some, None, option_map, Result, Ok, Err}
use Rattle.std.specs.Prelude.{IfErr, IfOk, OnOk, slice_get}
use Rattle.std.specs.List.{list_all, AllByRecursion}
use Rattle.std.proofs.lemmas.Bool.{and_parts, false≢true}
use Rattle.std.proofs.lemmas.Bool.Decides.{nat_tests}
use Rattle.cov_base.specs.Spelling.{is_name}
use Rattle.cov_base.specs.declared.limits.TheConstants.{LIMITS}
use Rattle.cov_codes.specs.Codes.{edit_code, import_code, refusal_code}
use Rattle.cov_codes.specs.Stops.{cond_stop, edit_stop, import_stop}
use Rattle.cov_codes.specs.declared.stop.Stop.{Stop}
use Rattle.cov_codes.specs.declared.stop.Stop.TheVariants as stops
use Rattle.cov_cond.specs.Fitting.{HasRoom, IsImportFaultOf, cond_bytes, commit_count, directory_of, first_view, imported_at, imported_into, last_name, making_fault, room_fault, unless}
use Rattle.cov_cond.specs.Importing.{imported}
use Rattle.cov_cond.specs.Laws.{ImportIsAccepted}
use Rattle.cov_cond.specs.declared.fault.ImportFault.{ImportFault}
use Rattle.cov_cond.specs.declared.fault.ImportFault.TheVariants as imports
use Rattle.cov_cond_text.specs.Conditional.{CondLine, HasOptionsBelow, IsCondText, IsFitLine}
use Rattle.cov_cond_text.specs.Readers.{IsFaultOf}
use Rattle.cov_cond_text.specs.declared.fault.CondFault.{CondFault}
use Rattle.cov_cond_text.specs.declared.fault.CondFault.TheVariants as conds
use Rattle.cov_edit.specs.History.{byte_count, option_count}
use Rattle.cov_edit.specs.Limits.{limits_of}
use Rattle.cov_edit.specs.Numbering.{line_count}
use Rattle.cov_edit.specs.declared.command.Command.{Command}
use Rattle.cov_history.specs.Verdict.{IsLegal, IsLegalFrom, verdict}
use Rattle.cov_import.specs.Taking.{FollowFirst, StopsTaking, admitted, handed_on, kept_taken, lines_taken, text_taken}
use Rattle.cov_lines.specs.Adding.{StopsCommand}
use Rattle.cov_lines.specs.Finding.{Found, ◌>>=◌, by_code}
use Rattle.cov_script.specs.Replies.{IsCodeOf}
use Rattle.cov_session.specs.Faults as faults
use Rattle.cov_view.specs.Paths.{path_node}
use Rattle.cov_view.specs.Refusals.{first_of, when}
use Rattle.cov_view.specs.declared.fault.EditFault.{EditFault}
use Rattle.cov_view.specs.declared.fault.EditFault.TheVariants as edits
use Rattle.cov_view.proofs.CallerLemmas.{none-when}

-- a fault of the lines
pub cond_stops : (history : List Command) (path : List (List ℕ)) (read : Result (List CondLine) CondFault) (fault : CondFault) → IsFaultOf read fault → StopsTaking history (text_taken history path read) (cond_stop fault)
cond_stops history path read conds.Memory h = tt
cond_stops history path read (conds.Syntax line) h = (ap (text_taken history path) h, tt)
cond_stops history path read (conds.TooLong line) h = (ap (text_taken history path) h, tt)
cond_stops history path read (conds.UnknownOption line name) h = (ap (text_taken history path) h, tt)

edit_told : (count : ℕ) (fault : EditFault) → IsCodeOf count (edit_code fault)
edit_told count edits.NoSuchNode = tt
edit_told count edits.NotFile = tt
edit_told count edits.NotDirectory = tt
edit_told count edits.NameTaken = tt
edit_told count edits.NotEmpty = tt
edit_told count edits.IntoItself = tt
edit_told count edits.IsRoot = tt
edit_told count edits.NoSuchLine = tt
edit_told count edits.Memory = tt

-- a rule that refuses the file
pub import_stops : (history : List Command) (answer : Result (List Command) ImportFault) (fault : ImportFault) → IsImportFaultOf answer fault → StopsTaking history (by_code import_code answer) (import_stop fault)
import_stops history answer imports.Memory h = tt
import_stops history answer (imports.Edit edits.Memory) h = tt
import_stops history answer (imports.Edit fault) h = (ap (by_code import_code) h, edit_told (option_count history) fault)
import_stops history answer fault h = (ap (by_code import_code) h, tt)

-- the refusal of the first commit
pub admit_stops : (history : List Command) (first : Command) (commits : List Command) (stop : Stop) → slice_get commits 0 ≡ Some first → StopsCommand history first stop → StopsTaking history (admitted history commits) stop
admit_stops history first [] stop e h = absurd (cc)
admit_stops history first (k ∷ ks) stops.Memory e h = tt
admit_stops history first (k ∷ ks) (stops.Refused code) e h =
    let same : k ≡ first = cc in
    (ap (λ x. faults.unless (option_map refusal_code (verdict history x)) (k ∷ ks)) same ∙ ap (λ o. faults.unless o (k ∷ ks)) h.0, h.1)

pub admit_takes : (history : List Command) (first : Command) (commits : List Command) → slice_get commits 0 ≡ Some first → verdict history first ≡ None → admitted history commits ≡ Ok commits
admit_takes history first [] e h = absurd (cc)
admit_takes history first (k ∷ ks) e h =
    let same : k ≡ first = cc in
    ap (λ o. faults.unless (option_map refusal_code o) (k ∷ ks)) (ap (verdict history) same ∙ h)

pub admit_legal : (history : List Command) (first : Command) (commits : List Command) → slice_get commits 0 ≡ Some first → verdict history first ≡ None → FollowFirst history commits → IsLegalFrom history commits
admit_legal history first [] e h follow = tt
admit_legal history first (k ∷ ks) e h follow = let same : k ≡ first = cc in follow (ap (verdict history) same ∙ h)

-- where there is no commit
pub admit_none : (history : List Command) (commits : List Command) → slice_get commits 0 ≡ None → (admitted history commits ≡ Ok commits) × IsLegalFrom history commits
admit_none history [] e = (refl, tt)
admit_none history (k ∷ ks) e = absurd (cc)

-- the commits that lines are, and then what becomes of the first
pub then_admitted : (history : List Command) (path : List (List ℕ)) (lines : Option (List (List ℕ))) (commits : List Command) → lines_taken history path lines ≡ Ok commits → kept_taken history path lines ≡ admitted history commits
then_admitted history path lines commits e = ap (λ found. found >>= admitted history) e

pub then_stops : (history : List Command) (path : List (List ℕ)) (lines : Option (List (List ℕ))) (stop : Stop) → StopsTaking history (lines_taken history path lines) stop → StopsTaking history (kept_taken history path lines) stop
then_stops history path lines stops.Memory h = tt
then_stops history path lines (stops.Refused code) h = (ap (λ found. found >>= admitted history) h.0, h.1)

-- the conditions of a text that fits so many options are of these
pub has_options : (count : ℕ) (t : List CondLine) → AllByRecursion (IsFitLine count) t → HasOptionsBelow count t
has_options count [] all = tt
has_options count (l ∷ ls) all = (all.0.declared, has_options count ls all.1)

-- the last commands of a legal history are accepted one after another behind the first
legal_rest : (before history more : List Command) → IsLegalFrom before (history ++ more) → IsLegalFrom (before ++ history) more
legal_rest before [] more legal = subst (λ b. IsLegalFrom b more) (sym (append-nil before)) legal
legal_rest before (k ∷ history) more legal = subst (λ b. IsLegalFrom b more) (append_assoc before (k ∷ []) history) (legal_rest (before ++ k ∷ []) history more legal.2)

last_named : (path : List (List ℕ)) → 0 < length path → list_all is_name path ≡ true → is_name (last_name path) ≡ true
last_named [] some all = absurd (omega (arith, some))
last_named (name ∷ []) some all = (and_parts (is_name name) true all).0
last_named (name ∷ next ∷ names) some all = last_named (next ∷ names) (omega arith) (and_parts (is_name name) (list_all is_name (next ∷ names)) all).1

-- an answer without a fault
unless_none : {X : Type 0} (fault : Option ImportFault) (answer : Result X ImportFault) (x : X) → unless fault answer ≡ Ok x → (fault ≡ None) × (answer ≡ Ok x)
unless_none None answer x e = (refl, e)
unless_none (Some fault) answer x e = absurd (cc)

or_parts_false : (a b : Bool) → (a || b) ≡ false → (a ≡ false) × (b ≡ false)
or_parts_false true b e = absurd (false≢true (sym e))
or_parts_false false b e = (refl, e)

within : (most n : ℕ) → nat_lt most n ≡ false → n ≤ most
within most n h = grind (arith, nat_tests, h)

below : (most n : ℕ) → nat_le most n ≡ false → n < most
below most n h = grind (arith, nat_tests, h)

module _ (history : List Command) (parent : ℕ) (name : List ℕ) (t : List CondLine) where
  -- a text that breaks no limit has room
  has_room : room_fault history t ≡ None → HasRoom history parent name t
  has_room none =
      let edits_in = none-when (nat_le LIMITS.edits (length t)) imports.TooManyEdits _ none in
      let bytes_in = none-when (nat_lt LIMITS.commit_bytes (cond_bytes t) || nat_lt LIMITS.bytes (byte_count history + cond_bytes t)) imports.TooManyBytes _ edits_in.1 in
      let bytes_both = or_parts_false (nat_lt LIMITS.commit_bytes (cond_bytes t)) (nat_lt LIMITS.bytes (byte_count history + cond_bytes t)) bytes_in.0 in
      let commands_in = none-when (nat_lt LIMITS.commands (length history + commit_count history t)) imports.Full _ bytes_in.1 in
      let lines_in = none-when (nat_lt (limits_of history).lines (line_count history + length t)) imports.TooManyLines [] commands_in.1 in
      let commands_few : length history + commit_count history t ≤ LIMITS.commands = within LIMITS.commands (length history + commit_count history t) commands_in.0 in
      record {
        edits = below LIMITS.edits (length t) edits_in.0;
        commit_bytes = within LIMITS.commit_bytes (cond_bytes t) bytes_both.0;
        bytes = within LIMITS.bytes (byte_count history + cond_bytes t) bytes_both.1;
        commands = omega (arith, commands_few);
        lines = within (limits_of history).lines (line_count history + length t) lines_in.0;
      }

-- what is known of the commits of a text that is imported
module _ (law : ImportIsAccepted) (history : List Command) (legal : IsLegal history) (path : List (List ℕ)) (some : 0 < length path) (spelt : list_all is_name path ≡ true)
    (t : List CondLine) (fit : IsCondText (option_count history) t) (commits : List Command) where
  abbrev Known : Type 0
  Known = FollowFirst history commits × (length commits ≤ LIMITS.commands)

  of_parent : room_fault history t ≡ None → (parent : Option ℕ) → imported_into history parent (last_name path) t ≡ Ok commits → Known
  of_parent room None e = absurd (cc)
  of_parent room (Some parent) e =
      let own = unless_none (making_fault history parent (last_name path)) (Ok (imported history parent (last_name path) t)) commits e in
      let is : imported history parent (last_name path) t ≡ commits = cc in
      let has = has_room history parent (last_name path) t room in
      let few = has.commands in
      subst (λ ks. FollowFirst history ks × (length ks ≤ LIMITS.commands)) is
      ((λ accepted. legal_rest [] history (imported history parent (last_name path) t) (law history parent (last_name path) t legal (last_named path some spelt) fit has accepted)), omega (arith, few))

  pub follows : imported_at history path t ≡ Ok commits → Known
  unfolding imported_at
  follows e =
      let parts = unless_none (room_fault history t) (imported_into history (path_node (first_view history).rows 0 (directory_of path)) (last_name path) t) commits e in
      of_parent parts.0 (path_node (first_view history).rows 0 (directory_of path)) parts.1

  pub follows_taken : by_code import_code (imported_at history path t) ≡ Ok commits → Known
  follows_taken e = at (imported_at history path t) refl e
    where
      at : (answer : Result (List Command) ImportFault) → imported_at history path t ≡ answer → by_code import_code answer ≡ Ok commits → Known
      at (Ok ks) is e = let same : ks ≡ commits = cc in follows (is ∙ ap Ok same)
      at (Err fault) is e = absurd (cc)

-- what isn't handed on
pub handed_stops : {X Y : Type 0} (x : X) (r : Result Y Stop) (P Q : Stop → Type 0) → ((stop : Stop) → P stop → Q stop) → IfErr r P → IfErr (handed_on x r) Q
handed_stops x (Ok y) P Q to h = tt
handed_stops x (Err stop) P Q to h = to stop h
