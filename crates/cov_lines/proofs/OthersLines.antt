-- A line that isn't a session's own leaves it as it is but for its sides, and the history up to its base.
use Rattle.std.proofs.Common.{◌≡◌, ◌∙◌, refl, sym, ap, subst, ℕ, ◌≤◌, Bool, true, false, nat_lt, List, [], ◌∷◌, ◌++◌, length, Option, Some, None, Result, Ok, Err, ok_or, option_map, take, arith}
use Rattle.std.specs.Prelude.{if◌then◌else◌}
use Rattle.std.specs.Str.{bytes_eq}
use Rattle.std.proofs.lemmas.List.{length-append, take-append-le}
use Rattle.cov_base.specs.Spelling.{is_option_name}
use Rattle.cov_base.specs.declared.limits.TheConstants.{MOST_SCRIPT_LINE_BYTES}
use Rattle.cov_expr.specs.Formula.{Formula, True}
use Rattle.cov_script.specs.Lines.{form_of}
use Rattle.cov_script.specs.declared.code.Code.{Code}
use Rattle.cov_script.specs.declared.code.Code.TheVariants.{BadName, Long, NoSession, NoSuchLine, NoSuchPath, TreeTaken}
use Rattle.cov_script.specs.Grouping.{grouped}
use Rattle.cov_script.specs.declared.grouped.AnalysisLine.{AnalysisLine}
use Rattle.cov_script.specs.declared.grouped.AnalysisLine.TheVariants as analysis_lines
use Rattle.cov_script.specs.declared.grouped.Declaration.{Declaration}
use Rattle.cov_script.specs.declared.grouped.Declaration.TheVariants as declarations
use Rattle.cov_script.specs.declared.grouped.EditLine.{EditLine}
use Rattle.cov_script.specs.declared.grouped.EditLine.TheVariants as edit_lines
use Rattle.cov_script.specs.declared.grouped.GroupedLine.{GroupedLine}
use Rattle.cov_script.specs.declared.grouped.GroupedLine.TheVariants as groups
use Rattle.cov_script.specs.declared.grouped.PastLine.{PastLine}
use Rattle.cov_script.specs.declared.grouped.PastLine.TheVariants as past_lines
use Rattle.cov_script.specs.declared.grouped.Question.{Question}
use Rattle.cov_script.specs.declared.grouped.Question.TheVariants as questions
use Rattle.cov_script.specs.declared.grouped.SessionLine.{SessionLine}
use Rattle.cov_script.specs.declared.grouped.SessionLine.TheVariants as session_lines
use Rattle.cov_script.specs.declared.grouped.TreeLine.{TreeLine}
use Rattle.cov_script.specs.declared.grouped.TreeLine.TheVariants as tree_lines
use Rattle.cov_script.specs.declared.line.Line.{Line}
use Rattle.cov_script.specs.declared.line.LineSyntax.{LineSyntax}
use Rattle.cov_edit.specs.declared.command.Command.{Command}
use Rattle.cov_edit.specs.declared.command.Command.TheVariants as commands
use Rattle.cov_edit.specs.declared.edit.Edit.{Edit}
use Rattle.cov_edit.specs.History.{option_count}
use Rattle.cov_edit.specs.Replay.{replay}
use Rattle.cov_view.specs.Paths.{path_node}
use Rattle.cov_history.specs.Sessions.{commit_of}
use Rattle.cov_history.specs.Verdict.{verdict}
use Rattle.cov_history.specs.declared.refusal.Refusal.{Refusal}
use Rattle.cov_session.specs.Adding.{addition_fault, grown}
use Rattle.cov_session.specs.Calls.{opened_among, refreshed_among, side_set_by, taken_by}
use Rattle.cov_session.specs.Faults.{unless}
use Rattle.cov_session.specs.Named.{named, side_of, with_session, without}
use Rattle.cov_session.specs.Open.{NamedSession}
use Rattle.cov_session.specs.Siding.{side_fault, with_side}
use Rattle.cov_session.specs.declared.fault.SessionFault.{SessionFault}
use Rattle.cov_engine.specs.Visibility.{is_no_line}
use Rattle.cov_alt.specs.Sides.{sides_at}
use Rattle.cov_cond.specs.Exporting.{exported}
use Rattle.cov_cond.specs.Fitting.{directory_of}
use Rattle.cov_codes.specs.Codes.{alt_code, export_code, refusal_code, session_code, syntax_code}
use Rattle.cov_lines.specs.Finding.{Found, ◌>>=◌, by_code, completed_choice, found_choice, found_expression, found_option, found_partial, whole_choice}
use Rattle.cov_lines.specs.Isolation.{HasSession, begins_or_ends, has_form, is_boundary, is_own, is_turn, without_sides, works_in, UnsidedSession}
use Rattle.cov_lines.specs.States.{State, with_command, with_sessions, with_tree}
use Rattle.cov_lines.specs.Step.{Act, Done, acted, added, analysed, appended, as_outcome, blamed, checked_out, choice_then, committed, compared, completed, conditions_told, constrained, declared, defaulted, deleted, dropped, ended, file_exported, file_in, file_told, inserted, is_taken, listed_at, logged, made_in, moved, nearest_told, node_at, opened, past_told, past_written, plainly, preferred, presence_told, refreshed, removed, renamed, replaced, served, served_analysis, served_declaration, served_edit, served_past, served_question, served_session, served_tree, shown, side_changed, step, told, upgraded}
use Rattle.cov_lines.proofs.NamedSessions.{named-before, named-changed, named-has, named-kept, named-left, same-name}
use Rattle.cov_lines.proofs.OwnActs.{named-there}

module _ (name : List ℕ) (s : UnsidedSession) (before : List Command) where
  -- what is done leaves the session
  abbrev Leaves : Act → Type 0
  Leaves (Ok done) = HasSession name s before done.0
  Leaves (Err code) = Unit {0}

  -- the same of a line that may write rows
  abbrev LeavesDone : Found Done → Type 0
  LeavesDone (Ok done) = HasSession name s before done.state
  LeavesDone (Err code) = Unit {0}

  on-found-done : {X : Type 0} (found : Found X) (later : X → Found Done) → ((x : X) → LeavesDone (later x)) → LeavesDone (found >>= later)
  on-found-done (Ok x) later h = h x
  on-found-done (Err code) later h = tt

  -- what goes on from what is found leaves it, if it does from each
  on-found : {X : Type 0} (found : Found X) (later : X → Act) → ((x : X) → Leaves (later x)) → Leaves (found >>= later)
  on-found (Ok x) later h = h x
  on-found (Err code) later h = tt

  module _ (st : State) (has : HasSession name s before st) where
    -- a command more
    has-command : (k : Command) → HasSession name s before (with_command st k)
    has-command k = record {
      there = has.there;
      within = subst (λ n. s.base ≤ n) (sym (length-append st.history (k ∷ []))) (omega (arith, has.within));
      same = take-append-le s.base st.history (k ∷ []) has.within ∙ has.same;
    }

    -- other sessions, but this one among them, whatever its sides
    has-alike : (ss : List NamedSession) → option_map without_sides (named ss name) ≡ option_map without_sides (named st.sessions name) → HasSession name s before (with_sessions st ss)
    has-alike ss kept = record { there = kept ∙ has.there; within = has.within; same = has.same }

    has-sessions : (ss : List NamedSession) → named ss name ≡ named st.sessions name → HasSession name s before (with_sessions st ss)
    has-sessions ss kept = has-alike ss (ap (option_map without_sides) kept)

    on-appended : (k : Command) (later : State → Act) → Leaves (later (with_command st k)) → Leaves (appended st k >>= later)
    on-appended k later h = at (verdict st.history k)
      where
        at : (refusal : Option Refusal) → Leaves (unless (option_map refusal_code refusal) (with_command st k) >>= later)
        at None = h
        at (Some refusal) = tt

    on-command : (k : Command) (reply : List ℕ) → Leaves (appended st k >>= (λ next. Ok (next, reply)))
    on-command k reply = on-appended k (λ next. Ok (next, reply)) (has-command k)

    -- edits in the session of another name
    on-added : (n : List ℕ) (es : List Edit) (reply : List ℕ) → bytes_eq n name ≡ false → Leaves (added st n es >>= (λ next. Ok (next, reply)))
    on-added n es reply other = at (named st.sessions n) refl
      where
        done : (t : NamedSession) → t.name ≡ n → (fault : Option SessionFault)
            → Leaves ((by_code session_code (unless fault (with_session st.sessions (grown t es))) >>= (λ ss. Ok (with_sessions st ss))) >>= (λ next. Ok (next, reply)))
        done t is None =
            has-sessions (with_session st.sessions (grown t es)) (named-kept st.sessions name (grown t es) (ap (λ m. bytes_eq m name) is ∙ other))
        done t is (Some fault) = tt

        at : (o : Option NamedSession) → named st.sessions n ≡ o
            → Leaves ((by_code session_code (taken_by st.history st.sessions es o) >>= (λ ss. Ok (with_sessions st ss))) >>= (λ next. Ok (next, reply)))
        at None e = tt
        at (Some t) e = done t (named-has st.sessions n t e) (addition_fault st.history t.session es)

    -- another side of a session, which is this one or not
    side-leaves : (n : List ℕ) (side : Formula ℕ) (reply : List ℕ) → Leaves (by_code session_code (side_set_by st.sessions side (named st.sessions n)) >>= (λ ss. Ok (with_sessions st ss, reply)))
    side-leaves n side reply = at (named st.sessions n) refl
      where
        kept : (t : NamedSession) → named st.sessions n ≡ Some t → (b : Bool) → bytes_eq n name ≡ b
            → option_map without_sides (named (with_session st.sessions (with_side t side)) name) ≡ option_map without_sides (named st.sessions name)
        kept t e true own =
            let there : named st.sessions name ≡ Some t = ap (named st.sessions) (sym (same-name n name own)) ∙ e in
            ap (option_map without_sides) (named-changed st.sessions name t (with_side t side) (named-has st.sessions name t there) there)
            ∙ sym (ap (option_map without_sides) there)
        kept t e false other = ap (option_map without_sides) (named-kept st.sessions name (with_side t side) (ap (λ m. bytes_eq m name) (named-has st.sessions n t e) ∙ other))

        done : (t : NamedSession) → named st.sessions n ≡ Some t → (fault : Option SessionFault)
            → Leaves (by_code session_code (unless fault (with_session st.sessions (with_side t side))) >>= (λ ss. Ok (with_sessions st ss, reply)))
        done t e None = has-alike (with_session st.sessions (with_side t side)) (kept t e (bytes_eq n name) refl)
        done t e (Some fault) = tt

        at : (o : Option NamedSession) → named st.sessions n ≡ o → Leaves (by_code session_code (side_set_by st.sessions side o) >>= (λ ss. Ok (with_sessions st ss, reply)))
        at None e = tt
        at (Some t) e = done t e (side_fault t.session side)

    -- one that is opened; one that is refreshed or ended, of another name
    opened-leaves : (new : NamedSession) → HasSession name s before (with_sessions st (st.sessions ++ new ∷ []))
    opened-leaves new =
        let t = named-there name s before st has in
        has-sessions (st.sessions ++ new ∷ []) (named-before st.sessions (new ∷ []) name t.session t.named_there.there ∙ sym t.named_there.there)

    refreshed-leaves : (new : NamedSession) → bytes_eq new.name name ≡ false → HasSession name s before (with_sessions st (with_session st.sessions new))
    refreshed-leaves new other = has-sessions (with_session st.sessions new) (named-kept st.sessions name new other)

  ended-leaves : (st : State) (n : List ℕ) → HasSession name s before st → bytes_eq n name ≡ false → HasSession name s before (ended st n)
  ended-leaves st n has other = has-sessions st has (without st.sessions n) (named-left st.sessions name n other)

  module _ (st : State) (has : HasSession name s before st) where
    told_in-leaves : (b : Bool) (code : Code) (reply : List ℕ) → Leaves (if b then Err code else Ok (st, reply))
    told_in-leaves true code reply = tt
    told_in-leaves false code reply = has

    listed_in-leaves : (b : Bool) (code : Code) (reply : List ℕ) → Leaves (if b then Ok (st, reply) else Err code)
    listed_in-leaves true code reply = has
    listed_in-leaves false code reply = tt

    has-tree : (tree : List ℕ) → HasSession name s before (with_tree st tree)
    has-tree tree = record { there = has.there; within = has.within; same = has.same }

    -- lines that edit in the session of another name
    edit-leaves : (n : List ℕ) (edit : EditLine) → bytes_eq n name ≡ false → Leaves (served_edit st n edit)
    unfolding served_edit made_in renamed moved removed inserted deleted replaced
    edit-leaves n (edit_lines.MakeDir path) other = on-found (node_at st n (directory_of path)) _ (λ dir. on-added st has n _ _ other)
    edit-leaves n (edit_lines.MakeFile path) other = on-found (node_at st n (directory_of path)) _ (λ dir. on-added st has n _ _ other)
    edit-leaves n (edit_lines.Rename path to) other = on-found (node_at st n path) _ (λ node. on-added st has n _ _ other)
    edit-leaves n (edit_lines.Move path target) other = on-found (node_at st n path) _ (λ node. on-found (node_at st n target) _ (λ dir. on-added st has n _ _ other))
    edit-leaves n (edit_lines.Remove path) other = on-found (node_at st n path) _ (λ node. on-added st has n _ _ other)
    edit-leaves n (edit_lines.Insert path line text) other = on-found (node_at st n path) _ (λ file. on-added st has n _ _ other)
    edit-leaves n (edit_lines.Delete path line) other = on-found (node_at st n path) _ (λ file. on-added st has n _ _ other)
    edit-leaves n (edit_lines.Replace path line text) other = on-found (node_at st n path) _ (λ file. on-added st has n _ _ other)

    -- lines with which a session of another name begins or ends, the first one of this name, and another side
    session-leaves : (line : SessionLine) → is_turn name line ≡ false → Leaves (served_session st line)
    unfolding served_session opened side_changed refreshed committed dropped
    session-leaves (session_lines.Open n bindings ambition) turned =
        on-found (found_partial st.history bindings) _ (λ partial. on-found (found_expression st.history ambition) _ (λ within.
        on-found (by_code session_code (opened_among st.history st.sessions n partial within)) _ (λ new. opened-leaves st has (record { name = n; side = True; session = new }))))
    session-leaves (session_lines.Side n side) turned = on-found (found_expression st.history side) _ (λ bound. side-leaves st has n bound _)
    session-leaves (session_lines.Refresh n) turned =
        on-found (by_code session_code (refreshed_among st.history st.sessions n)) _ (λ new. refreshed-leaves st has (record { name = n; side = side_of st.sessions n; session = new }) turned)
    session-leaves (session_lines.Commit n) turned =
        on-found (ok_or (named st.sessions n) NoSession) _ (λ t. on-appended st has (commit_of t.session) _ (ended-leaves (with_command st (commit_of t.session)) n (has-command st has (commit_of t.session)) turned))
    session-leaves (session_lines.Discard n) turned = on-found (ok_or (named st.sessions n) NoSession) _ (λ t. ended-leaves st n has turned)

    declaration-leaves : (declaration : Declaration) → Leaves (served_declaration st declaration)
    unfolding served_declaration declared constrained preferred defaulted upgraded
    declaration-leaves (declarations.Option token) = on-found (if is_option_name token then Ok token else Err BadName) _ (λ n. on-command st has (commands.Option n) _)
    declaration-leaves (declarations.Constraint expr) = on-found (found_expression st.history expr) _ (λ bound. on-command st has (commands.Constraint bound) _)
    declaration-leaves (declarations.Prefer expr) = on-found (found_expression st.history expr) _ (λ bound. on-command st has (commands.Prefer bound) _)
    declaration-leaves (declarations.Default token on) = on-found (found_option st.history token) _ (λ option. on-command st has (commands.Default option on) _)
    declaration-leaves declarations.Upgrade = on-command st has commands.Upgrade _

    question-leaves : (question : Question) → Leaves (served_question st question)
    unfolding served_question completed shown listed_at told file_told compared conditions_told file_exported presence_told
    question-leaves (questions.Complete bindings) = on-found (found_choice st.history bindings) _ (λ c. has)
    question-leaves (questions.Show n path) = on-found (node_at st n path) _ (λ file. told_in-leaves _ _ _)
    question-leaves (questions.List n path) = on-found (node_at st n path) _ (λ dir. listed_in-leaves _ _ _)
    question-leaves (questions.Cat bindings path) =
        on-found (found_choice st.history bindings) _ (λ c. on-found (ok_or (path_node (replay c st.history).rows 0 path) NoSuchPath) _ (λ node. told_in-leaves _ _ _))
    question-leaves (questions.Alt bindings token path) =
        on-found (found_partial st.history bindings) _ (λ partial. on-found (found_option st.history token) _ (λ option. on-found (completed_choice st.history partial) _ (λ c.
        on-found (by_code alt_code (sides_at st.history c option path)) _ (λ ls. has))))
    question-leaves (questions.Conditional bindings path) =
        on-found (found_choice st.history bindings) _ (λ c. on-found (file_in (replay c st.history) path) _ (λ file.
        on-found (by_code export_code (exported st.history file)) _ (λ ls. has)))
    question-leaves (questions.Presence line) = on-found (if is_no_line st.history line then Err NoSuchLine else Ok line) _ (λ there. has)

    analysis-leaves : (line : AnalysisLine) → Leaves (served_analysis st line)
    unfolding served_analysis analysed nearest_told
    analysis-leaves analysis_lines.Analyse = has
    analysis-leaves (analysis_lines.Nearest bindings) =
        on-found (found_partial st.history bindings) _ (λ partial. on-found (whole_choice (option_count st.history) partial) _ (λ c. has))

    past-leaves : (line : PastLine) → Leaves (served_past st line)
    unfolding served_past logged blamed past_told file_told
    past-leaves (past_lines.Log bindings) = on-found (found_choice st.history bindings) _ (λ c. has)
    past-leaves (past_lines.Blame bindings path) =
        on-found (found_choice st.history bindings) _ (λ c. on-found (file_in (replay c st.history) path) _ (λ file. has))
    past-leaves (past_lines.Past position bindings path) =
        on-found (found_partial st.history bindings) _ (λ partial. on-found (choice_then st partial position) _ (λ c.
        on-found (ok_or (path_node (replay c (take position st.history)).rows 0 path) NoSuchPath) _ (λ node. told_in-leaves _ _ _)))

    plainly-leaves : (act : Act) → Leaves act → LeavesDone (plainly act)
    plainly-leaves (Ok done) h = h
    plainly-leaves (Err code) h = tt

    tree-leaves : (line : TreeLine) → LeavesDone (served_tree st line)
    unfolding served_tree checked_out past_written
    tree-leaves (tree_lines.Checkout tree bindings) =
        on-found-done (found_partial st.history bindings) _ (λ partial. on-found-done (if is_taken st tree then Err TreeTaken else Ok tree) _ (λ new.
        on-found-done (completed_choice st.history partial) _ (λ c. has-tree new)))
    tree-leaves (tree_lines.PastOut tree position bindings) =
        on-found-done (found_partial st.history bindings) _ (λ partial. on-found-done (if is_taken st tree then Err TreeTaken else Ok tree) _ (λ new.
        on-found-done (choice_then st partial position) _ (λ c. has-tree new)))

    -- lines of others of every group
    served-leaves : (line : GroupedLine) → works_in name line ≡ false → begins_or_ends name line ≡ false → LeavesDone (served st line)
    unfolding served
    served-leaves groups.Silent other turned = has
    served-leaves (groups.Declaration declaration) other turned = plainly-leaves (served_declaration st declaration) (declaration-leaves declaration)
    served-leaves (groups.Session line) other turned = plainly-leaves (served_session st line) (session-leaves line turned)
    served-leaves (groups.Edit n edit) other turned = plainly-leaves (served_edit st n edit) (edit-leaves n edit other)
    served-leaves (groups.Question question) other turned = plainly-leaves (served_question st question) (question-leaves question)
    served-leaves (groups.Analysis line) other turned = plainly-leaves (served_analysis st line) (analysis-leaves line)
    served-leaves (groups.Past line) other turned = plainly-leaves (served_past st line) (past-leaves line)
    served-leaves (groups.Tree line) other turned = tree-leaves line

    acted-leaves : (line : List ℕ) → is_own name line ≡ false → is_boundary name line ≡ false → LeavesDone (acted st line)
    unfolding acted
    acted-leaves line other turned = at (nat_lt MOST_SCRIPT_LINE_BYTES (length line))
      where
        of : (form : Result Line LineSyntax) → has_form (works_in name) form ≡ false → has_form (begins_or_ends name) form ≡ false → LeavesDone (by_code syntax_code form >>= (λ f. served st (grouped f)))
        of (Ok form) h k = served-leaves (grouped form) h k
        of (Err fault) h k = tt

        at : (long : Bool) → LeavesDone ((if long then Err Long else Ok line) >>= (λ short. by_code syntax_code (form_of short) >>= (λ form. served st (grouped form))))
        at true = tt
        at false = of (form_of line) other turned

    done-leaves : (act : Found Done) → LeavesDone act → HasSession name s before (as_outcome st act).state
    done-leaves (Ok done) h = h
    done-leaves (Err code) h = has

    refused-leaves : (act : Found Done) → (as_outcome st act).is_refused ≡ true → HasSession name s before (as_outcome st act).state
    refused-leaves (Ok done) h = absurd (cc)
    refused-leaves (Err code) h = has

    -- a line that isn't the session's own leaves it, unless it begins or ends it
    pub others-leave : (line : List ℕ) → is_own name line ≡ false → (is_boundary name line ≡ true → (step st line).is_refused ≡ true) → HasSession name s before (step st line).state
    unfolding step
    others-leave line other kept = at (is_boundary name line) refl
      where
        at : (b : Bool) → is_boundary name line ≡ b → HasSession name s before (as_outcome st (acted st line)).state
        at true e = refused-leaves (acted st line) (kept e)
        at false e = done-leaves (acted st line) (acted-leaves line other e)
