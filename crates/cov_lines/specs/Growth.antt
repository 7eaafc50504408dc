-- How a line changes the history: not at all, or by one command; and that each but a silent one has a reply, which says ok unless the line is refused.
use Rattle.std.specs.Prelude.{◌≡◌, ◌≢◌, ◌⊎◌, ℕ, ◌≤◌, Bool, true, false, nat_lt, List, [], ◌∷◌, ◌++◌, codes, length, take, Option, Some, None, ok_or, option_map, Result, Ok, Err, if◌then◌else◌}
use Rattle.std.specs.Str.{bytes_eq}
use Rattle.std.proofs.Common.{inl, inr, ◌∙◌, refl, sym, ap, subst, arith}
use Rattle.std.proofs.lemmas.Bool.{false≢true}
use Rattle.std.proofs.lemmas.List.{length-append}
use Rattle.cov_base.specs.Spelling.{is_option_name}
use Rattle.cov_expr.specs.Formula.{Formula}
use Rattle.cov_base.specs.declared.limits.TheConstants.{MOST_SCRIPT_LINE_BYTES}
use Rattle.cov_script.specs.Lines.{form_of}
use Rattle.cov_script.specs.declared.code.Code.{Code}
use Rattle.cov_script.specs.declared.code.Code.TheVariants.{BadName, Long, NoSession, NoSuchLine, NoSuchPath, TreeTaken}
use Rattle.cov_script.specs.Grouping.{grouped}
use Rattle.cov_script.specs.declared.grouped.AnalysisLine.{AnalysisLine}
use Rattle.cov_script.specs.declared.grouped.AnalysisLine.TheVariants as analysis_lines
use Rattle.cov_script.specs.declared.grouped.Declaration.{Declaration}
use Rattle.cov_script.specs.declared.grouped.Declaration.TheVariants as declarations
use Rattle.cov_script.specs.declared.grouped.EditLine.{EditLine}
use Rattle.cov_script.specs.declared.grouped.EditLine.TheVariants as edit_lines
use Rattle.cov_script.specs.declared.grouped.GroupedLine.{GroupedLine}
use Rattle.cov_script.specs.declared.grouped.GroupedLine.TheVariants as groups
use Rattle.cov_script.specs.declared.grouped.PastLine.{PastLine}
use Rattle.cov_script.specs.declared.grouped.PastLine.TheVariants as past_lines
use Rattle.cov_script.specs.declared.grouped.Question.{Question}
use Rattle.cov_script.specs.declared.grouped.Question.TheVariants as questions
use Rattle.cov_script.specs.declared.grouped.SessionLine.{SessionLine}
use Rattle.cov_script.specs.declared.grouped.SessionLine.TheVariants as session_lines
use Rattle.cov_script.specs.declared.grouped.TreeLine.{TreeLine}
use Rattle.cov_script.specs.declared.grouped.TreeLine.TheVariants as tree_lines
use Rattle.cov_script.specs.declared.line.Line.{Line}
use Rattle.cov_script.specs.declared.line.Line.TheVariants as lines
use Rattle.cov_script.specs.declared.line.LineSyntax.{LineSyntax}
use Rattle.cov_edit.specs.declared.command.Command.{Command}
use Rattle.cov_edit.specs.declared.command.Command.TheVariants as commands
use Rattle.cov_edit.specs.declared.edit.Edit.{Edit}
use Rattle.cov_edit.specs.History.{option_count}
use Rattle.cov_edit.specs.Replay.{replay}
use Rattle.cov_view.specs.Paths.{path_node}
use Rattle.cov_history.specs.Sessions.{commit_of}
use Rattle.cov_history.specs.Verdict.{verdict}
use Rattle.cov_history.specs.declared.refusal.Refusal.{Refusal}
use Rattle.cov_session.specs.Calls.{opened_among, refreshed_among, side_set, taken}
use Rattle.cov_session.specs.Named.{named}
use Rattle.cov_session.specs.Open.{NamedSession}
use Rattle.cov_session.specs.declared.fault.SessionFault.{SessionFault}
use Rattle.cov_engine.specs.Visibility.{is_no_line}
use Rattle.cov_alt.specs.Sides.{sides_at}
use Rattle.cov_cond.specs.Exporting.{exported}
use Rattle.cov_cond.specs.Fitting.{directory_of}
use Rattle.cov_loop.specs.Outcome.{Outcome, unchanged}
use Rattle.cov_store.specs.Stands.{IsStored}
use Rattle.cov_codes.specs.Codes.{alt_code, export_code, refusal_code, session_code, syntax_code}
use Rattle.cov_session.specs.Faults.{unless}
use Rattle.cov_lines.specs.Finding.{Found, ◌>>=◌, by_code, completed_choice, found_choice, found_expression, found_option, found_partial, whole_choice}
use Rattle.cov_lines.specs.States.{State, with_command, with_sessions}
use Rattle.cov_lines.specs.Step.{Act, Done, acted, added, analysed, appended, as_outcome, blamed, checked_out, choice_then, committed, compared, completed, conditions_told, constrained, declared, defaulted, deleted, dropped, file_exported, file_in, file_told, inserted, is_taken, listed_at, logged, made_in, moved, nearest_told, node_at, opened, past_told, past_written, plainly, preferred, presence_told, refreshed, removed, renamed, replaced, served, served_analysis, served_declaration, served_edit, served_past, served_question, served_session, served_tree, shown, side_changed, step, told, upgraded}
use Rattle.cov_lines.specs.Storing.{count, stored}

-- whether there is no reply
abbrev pub no_reply : List ℕ → Bool
no_reply [] = true
no_reply (b ∷ bs) = false

-- whether a reply begins with ok
abbrev pub says_ok : List ℕ → Bool
says_ok reply = bytes_eq (take 2 reply) (codes "ok")

-- a silent line does nothing
pub nothing_served : (st : State) → served st groups.Silent ≡ Ok (record { state = st; reply = []; rows = [] })
unfolding served
nothing_served st = refl

-- a form that is silent is that of the empty line and the comment
silent_is_nothing : (form : Line) → grouped form ≡ groups.Silent → form ≡ lines.Nothing
silent_is_nothing lines.Nothing h = refl
silent_is_nothing form h = absurd (cc)

module _ (st : State) where
  -- what is done keeps the history, and its reply says ok
  abbrev pub Keeps : Act → Type 0
  Keeps (Ok done) = (done.0.history ≡ st.history) × (says_ok done.1 ≡ true)
  Keeps (Err code) = Unit {0}

  -- what is done adds a command, and its reply says ok
  abbrev Adds : Act → Type 0
  Adds (Ok done) = (command : Command) × (done.0.history ≡ st.history ++ command ∷ []) × (says_ok done.1 ≡ true)
  Adds (Err code) = Unit {0}

  -- a state has the same history, or one command more
  abbrev IsGrown : State → Type 0
  IsGrown next = (next.history ≡ st.history) ⊎ ((command : Command) × (next.history ≡ st.history ++ command ∷ []))

  -- what is done keeps the history or adds a command, and its reply says ok
  abbrev Grows : Found Done → Type 0
  Grows (Ok done) = IsGrown done.state × (says_ok done.reply ≡ true)
  Grows (Err code) = Unit {0}

  found_keeps : {X : Type 0} (found : Found X) (later : X → Act) → ((x : X) → Keeps (later x)) → Keeps (found >>= later)
  found_keeps (Ok x) later h = h x
  found_keeps (Err code) later h = tt

  found_grows : {X : Type 0} (found : Found X) (later : X → Found Done) → ((x : X) → Grows (later x)) → Grows (found >>= later)
  found_grows (Ok x) later h = h x
  found_grows (Err code) later h = tt

  found_adds : {X : Type 0} (found : Found X) (later : X → Act) → ((x : X) → Adds (later x)) → Adds (found >>= later)
  found_adds (Ok x) later h = h x
  found_adds (Err code) later h = tt

  command_adds : (command : Command) (later : State → Act) → Adds (later (with_command st command)) → Adds (appended st command >>= later)
  command_adds command later h = at (verdict st.history command)
    where
      at : (refusal : Option Refusal) → Adds (unless (option_map refusal_code refusal) (with_command st command) >>= later)
      at None = h
      at (Some refusal) = tt

  edits_keep : (name : List ℕ) (es : List Edit) (reply : List ℕ) → says_ok reply ≡ true → Keeps (added st name es >>= (λ next. Ok (next, reply)))
  edits_keep name es reply told = at (taken st.history st.sessions name es)
    where
      at : (left : Result (List NamedSession) SessionFault) → Keeps ((by_code session_code left >>= (λ ss. Ok (with_sessions st ss))) >>= (λ next. Ok (next, reply)))
      at (Ok ss) = (refl, told)
      at (Err fault) = tt

  told_keeps : (b : Bool) (code : Code) (reply : List ℕ) → says_ok reply ≡ true → Keeps (if b then Err code else Ok (st, reply))
  told_keeps true code reply told = tt
  told_keeps false code reply told = (refl, told)

  listed_keeps : (b : Bool) (code : Code) (reply : List ℕ) → says_ok reply ≡ true → Keeps (if b then Ok (st, reply) else Err code)
  listed_keeps true code reply told = (refl, told)
  listed_keeps false code reply told = tt

  pub edit_keeps : (name : List ℕ) (edit : EditLine) → Keeps (served_edit st name edit)
  unfolding served_edit made_in renamed moved removed inserted deleted replaced
  edit_keeps n (edit_lines.MakeDir path) = found_keeps (node_at st n (directory_of path)) _ (λ dir. edits_keep n _ _ refl)
  edit_keeps n (edit_lines.MakeFile path) = found_keeps (node_at st n (directory_of path)) _ (λ dir. edits_keep n _ _ refl)
  edit_keeps n (edit_lines.Rename path to) = found_keeps (node_at st n path) _ (λ node. edits_keep n _ _ refl)
  edit_keeps n (edit_lines.Move path target) = found_keeps (node_at st n path) _ (λ node. found_keeps (node_at st n target) _ (λ dir. edits_keep n _ _ refl))
  edit_keeps n (edit_lines.Remove path) = found_keeps (node_at st n path) _ (λ node. edits_keep n _ _ refl)
  edit_keeps n (edit_lines.Insert path line text) = found_keeps (node_at st n path) _ (λ file. edits_keep n _ _ refl)
  edit_keeps n (edit_lines.Delete path line) = found_keeps (node_at st n path) _ (λ file. edits_keep n _ _ refl)
  edit_keeps n (edit_lines.Replace path line text) = found_keeps (node_at st n path) _ (λ file. edits_keep n _ _ refl)

  pub opened_keeps : (name : List ℕ) (bindings : List (List ℕ × Bool)) (ambition : Formula (List ℕ)) → Keeps (opened st name bindings ambition)
  unfolding opened
  opened_keeps n bindings ambition =
      found_keeps (found_partial st.history bindings) _ (λ partial. found_keeps (found_expression st.history ambition) _ (λ within.
      found_keeps (by_code session_code (opened_among st.history st.sessions n partial within)) _ (λ new. (refl, refl))))

  pub side_keeps : (name : List ℕ) (side : Formula (List ℕ)) → Keeps (side_changed st name side)
  unfolding side_changed
  side_keeps n side = found_keeps (found_expression st.history side) _ (λ bound. found_keeps (by_code session_code (side_set st.sessions n bound)) _ (λ ss. (refl, refl)))

  pub refreshed_keeps : (name : List ℕ) → Keeps (refreshed st name)
  unfolding refreshed
  refreshed_keeps n = found_keeps (by_code session_code (refreshed_among st.history st.sessions n)) _ (λ new. (refl, refl))

  pub dropped_keeps : (name : List ℕ) → Keeps (dropped st name)
  unfolding dropped
  dropped_keeps n = found_keeps (ok_or (named st.sessions n) NoSession) _ (λ s. (refl, refl))

  pub question_keeps : (question : Question) → Keeps (served_question st question)
  unfolding served_question completed shown listed_at told file_told compared conditions_told file_exported presence_told
  question_keeps (questions.Complete bindings) = found_keeps (found_choice st.history bindings) _ (λ c. (refl, refl))
  question_keeps (questions.Show n path) = found_keeps (node_at st n path) _ (λ file. told_keeps _ _ _ refl)
  question_keeps (questions.List n path) = found_keeps (node_at st n path) _ (λ dir. listed_keeps _ _ _ refl)
  question_keeps (questions.Cat bindings path) =
      found_keeps (found_choice st.history bindings) _ (λ c. found_keeps (ok_or (path_node (replay c st.history).rows 0 path) NoSuchPath) _ (λ node. told_keeps _ _ _ refl))
  question_keeps (questions.Alt bindings token path) =
      found_keeps (found_partial st.history bindings) _ (λ partial. found_keeps (found_option st.history token) _ (λ option. found_keeps (completed_choice st.history partial) _ (λ c.
      found_keeps (by_code alt_code (sides_at st.history c option path)) _ (λ ls. (refl, refl)))))
  question_keeps (questions.Conditional bindings path) =
      found_keeps (found_choice st.history bindings) _ (λ c. found_keeps (file_in (replay c st.history) path) _ (λ file.
      found_keeps (by_code export_code (exported st.history file)) _ (λ ls. (refl, refl))))
  question_keeps (questions.Presence line) = found_keeps (if is_no_line st.history line then Err NoSuchLine else Ok line) _ (λ there. (refl, refl))

  pub analysis_keeps : (line : AnalysisLine) → Keeps (served_analysis st line)
  unfolding served_analysis analysed nearest_told
  analysis_keeps analysis_lines.Analyse = (refl, refl)
  analysis_keeps (analysis_lines.Nearest bindings) =
      found_keeps (found_partial st.history bindings) _ (λ partial. found_keeps (whole_choice (option_count st.history) partial) _ (λ c. (refl, refl)))

  pub past_keeps : (line : PastLine) → Keeps (served_past st line)
  unfolding served_past logged blamed past_told file_told
  past_keeps (past_lines.Log bindings) = found_keeps (found_choice st.history bindings) _ (λ c. (refl, refl))
  past_keeps (past_lines.Blame bindings path) =
      found_keeps (found_choice st.history bindings) _ (λ c. found_keeps (file_in (replay c st.history) path) _ (λ file. (refl, refl)))
  past_keeps (past_lines.Past position bindings path) =
      found_keeps (found_partial st.history bindings) _ (λ partial. found_keeps (choice_then st partial position) _ (λ c.
      found_keeps (ok_or (path_node (replay c (take position st.history)).rows 0 path) NoSuchPath) _ (λ node. told_keeps _ _ _ refl)))

  declaration_adds : (declaration : Declaration) → Adds (served_declaration st declaration)
  unfolding served_declaration declared constrained preferred defaulted upgraded
  declaration_adds (declarations.Option token) = found_adds (if is_option_name token then Ok token else Err BadName) _ (λ n. command_adds (commands.Option n) _ (commands.Option n, refl, refl))
  declaration_adds (declarations.Constraint expr) = found_adds (found_expression st.history expr) _ (λ bound. command_adds (commands.Constraint bound) _ (commands.Constraint bound, refl, refl))
  declaration_adds (declarations.Prefer expr) = found_adds (found_expression st.history expr) _ (λ bound. command_adds (commands.Prefer bound) _ (commands.Prefer bound, refl, refl))
  declaration_adds (declarations.Default token on) = found_adds (found_option st.history token) _ (λ option. command_adds (commands.Default option on) _ (commands.Default option on, refl, refl))
  declaration_adds declarations.Upgrade = command_adds commands.Upgrade _ (commands.Upgrade, refl, refl)

  commit_adds : (name : List ℕ) → Adds (committed st name)
  unfolding committed
  commit_adds n = found_adds (ok_or (named st.sessions n) NoSession) _ (λ s. command_adds (commit_of s.session) _ (commit_of s.session, refl, refl))

  checkout_grows : (tree : List ℕ) (bindings : List (List ℕ × Bool)) → Grows (checked_out st tree bindings)
  unfolding checked_out
  checkout_grows tree bindings =
      found_grows (found_partial st.history bindings) _ (λ partial. found_grows (if is_taken st tree then Err TreeTaken else Ok tree) _ (λ new.
      found_grows (completed_choice st.history partial) _ (λ c. (inl refl, refl))))

  past_grows : (tree : List ℕ) (position : ℕ) (bindings : List (List ℕ × Bool)) → Grows (past_written st tree position bindings)
  unfolding past_written
  past_grows tree position bindings =
      found_grows (found_partial st.history bindings) _ (λ partial. found_grows (if is_taken st tree then Err TreeTaken else Ok tree) _ (λ new.
      found_grows (choice_then st partial position) _ (λ c. (inl refl, refl))))

  tree_grows : (line : TreeLine) → Grows (served_tree st line)
  unfolding served_tree
  tree_grows (tree_lines.Checkout tree bindings) = checkout_grows tree bindings
  tree_grows (tree_lines.PastOut tree position bindings) = past_grows tree position bindings

  kept_grows : (act : Act) → Keeps act → Grows (plainly act)
  kept_grows (Ok done) h = (inl h.0, h.1)
  kept_grows (Err code) h = tt

  added_grows : (act : Act) → Adds act → Grows (plainly act)
  added_grows (Ok done) h = (inr (h.0, h.1), h.2)
  added_grows (Err code) h = tt

  session_grows : (line : SessionLine) → Grows (plainly (served_session st line))
  unfolding served_session
  session_grows (session_lines.Open n bindings ambition) = kept_grows (opened st n bindings ambition) (opened_keeps n bindings ambition)
  session_grows (session_lines.Side n side) = kept_grows (side_changed st n side) (side_keeps n side)
  session_grows (session_lines.Refresh n) = kept_grows (refreshed st n) (refreshed_keeps n)
  session_grows (session_lines.Commit n) = added_grows (committed st n) (commit_adds n)
  session_grows (session_lines.Discard n) = kept_grows (dropped st n) (dropped_keeps n)

  served_grows : (line : GroupedLine) → (line ≡ groups.Silent) ⊎ Grows (served st line)
  unfolding served
  served_grows groups.Silent = inl refl
  served_grows (groups.Declaration declaration) = inr (added_grows (served_declaration st declaration) (declaration_adds declaration))
  served_grows (groups.Session line) = inr (session_grows line)
  served_grows (groups.Edit n edit) = inr (kept_grows (served_edit st n edit) (edit_keeps n edit))
  served_grows (groups.Question question) = inr (kept_grows (served_question st question) (question_keeps question))
  served_grows (groups.Analysis line) = inr (kept_grows (served_analysis st line) (analysis_keeps line))
  served_grows (groups.Past line) = inr (kept_grows (served_past st line) (past_keeps line))
  served_grows (groups.Tree line) = inr (tree_grows line)

  -- a line is silent and does nothing, or keeps the history or adds a command, and its reply says ok
  acted_grows : (line : List ℕ) → ((form_of line ≡ Ok lines.Nothing) × (acted st line ≡ Ok (record { state = st; reply = []; rows = [] }))) ⊎ Grows (acted st line)
  unfolding acted
  acted_grows line = at (nat_lt MOST_SCRIPT_LINE_BYTES (length line))
    where
      on : (form : Line) → form_of line ≡ Ok form → (grouped form ≡ groups.Silent) ⊎ Grows (served st (grouped form))
          → ((form_of line ≡ Ok lines.Nothing) × (served st (grouped form) ≡ Ok (record { state = st; reply = []; rows = [] }))) ⊎ Grows (served st (grouped form))
      on form e (inl silent) = inl (e ∙ ap Ok (silent_is_nothing form silent), ap (served st) silent ∙ nothing_served st)
      on form e (inr grows) = inr grows

      of : (form : Result Line LineSyntax) → form_of line ≡ form
          → ((form_of line ≡ Ok lines.Nothing) × ((by_code syntax_code form >>= (λ f. served st (grouped f))) ≡ Ok (record { state = st; reply = []; rows = [] }))) ⊎ Grows (by_code syntax_code form >>= (λ f. served st (grouped f)))
      of (Ok form) e = on form e (served_grows (grouped form))
      of (Err fault) e = inr tt

      at : (long : Bool) → ((form_of line ≡ Ok lines.Nothing) × (((if long then Err Long else Ok line) >>= (λ short. by_code syntax_code (form_of short) >>= (λ form. served st (grouped form)))) ≡ Ok (record { state = st; reply = []; rows = [] })))
          ⊎ Grows ((if long then Err Long else Ok line) >>= (λ short. by_code syntax_code (form_of short) >>= (λ form. served st (grouped form))))
      at true = inr tt
      at false = of (form_of line) refl

  -- what a line comes to
  step_comes : (line : List ℕ) → ((form_of line ≡ Ok lines.Nothing) × (step st line ≡ unchanged st)) ⊎ (IsGrown (step st line).state × ((step st line).reply ≢ []))
  unfolding step
  step_comes line = of (acted_grows line)
    where
      at : (act : Found Done) → Grows act → IsGrown (as_outcome st act).state × ((as_outcome st act).reply ≢ [])
      at (Ok done) h = (h.0, λ e. false≢true (ap says_ok (sym e) ∙ h.1))
      at (Err code) h = (inl refl, λ e. false≢true (ap no_reply e))

      of : ((form_of line ≡ Ok lines.Nothing) × (acted st line ≡ Ok (record { state = st; reply = []; rows = [] }))) ⊎ Grows (acted st line)
          → ((form_of line ≡ Ok lines.Nothing) × (as_outcome st (acted st line) ≡ unchanged st)) ⊎ (IsGrown (as_outcome st (acted st line)).state × ((as_outcome st (acted st line)).reply ≢ []))
      of (inl (form, same)) = inl (form, ap (as_outcome st) same)
      of (inr grows) = inr (at (acted st line) grows)

  -- the reply to a line that is accepted says ok, if there is one
  pub accepted_says_ok : (line : List ℕ) → (step st line).is_refused ≡ false → ((step st line).reply ≡ []) ⊎ (says_ok (step st line).reply ≡ true)
  unfolding step
  accepted_says_ok line h = of (acted_grows line)
    where
      at : (act : Found Done) → (as_outcome st act).is_refused ≡ false → Grows act → says_ok (as_outcome st act).reply ≡ true
      at (Ok done) accepted grows = grows.1
      at (Err code) accepted grows = absurd (false≢true (sym accepted))

      of : ((form_of line ≡ Ok lines.Nothing) × (acted st line ≡ Ok (record { state = st; reply = []; rows = [] }))) ⊎ Grows (acted st line)
          → ((as_outcome st (acted st line)).reply ≡ []) ⊎ (says_ok (as_outcome st (acted st line)).reply ≡ true)
      of (inl silent) = inl (ap (λ act. (as_outcome st act).reply) silent.1)
      of (inr grows) = inr (at (acted st line) h grows)

  -- a line without a reply is silent, and does nothing
  pub without_reply : (line : List ℕ) → (step st line).reply ≡ [] → (form_of line ≡ Ok lines.Nothing) × (step st line ≡ unchanged st)
  without_reply line h = at (step_comes line)
    where
      at : ((form_of line ≡ Ok lines.Nothing) × (step st line ≡ unchanged st)) ⊎ (IsGrown (step st line).state × ((step st line).reply ≢ [])) → (form_of line ≡ Ok lines.Nothing) × (step st line ≡ unchanged st)
      at (inl silent) = silent
      at (inr (grown, reply)) = absurd (reply h)

  pub step_grows : (line : List ℕ) → ((step st line).state.history ≡ st.history) ⊎ ((command : Command) × ((step st line).state.history ≡ st.history ++ command ∷ []) × ((step st line).reply ≢ []))
  step_grows line = at (step_comes line)
    where
      at : ((form_of line ≡ Ok lines.Nothing) × (step st line ≡ unchanged st)) ⊎ (IsGrown (step st line).state × ((step st line).reply ≢ []))
          → ((step st line).state.history ≡ st.history) ⊎ ((command : Command) × ((step st line).state.history ≡ st.history ++ command ∷ []) × ((step st line).reply ≢ []))
      at (inl (form, same)) = inl (ap (λ (o : Outcome State). o.state.history) same)
      at (inr (inl same, reply)) = inl same
      at (inr (inr (command, more), reply)) = inr (command, more, reply)

-- a line without a reply adds no command
pub commands_told : (st : State) (line : List ℕ) → (step st line).reply ≡ [] → count (step st line).state ≤ count st
commands_told st line h = omega (arith, ap (λ (o : Outcome State). length o.state.history) (without_reply st line h).1)

-- what is stored stays so after it
pub stored_told : (st : State) (line bytes : List ℕ) → (step st line).reply ≡ [] → stored st bytes → stored (step st line).state bytes
stored_told st line bytes h here = subst (λ (o : Outcome State). IsStored bytes o.state.history) (sym (without_reply st line h).1) here

-- no line takes a command away
pub counts_rise : (st : State) (line : List ℕ) → count st ≤ count (step st line).state
counts_rise st line = at (step_grows st line)
  where
    at : ((step st line).state.history ≡ st.history) ⊎ ((command : Command) × ((step st line).state.history ≡ st.history ++ command ∷ []) × ((step st line).reply ≢ [])) → count st ≤ count (step st line).state
    at (inl same) = omega (arith, ap length same)
    at (inr (command, more, reply)) = omega (arith, ap length more, length-append st.history (command ∷ []))
