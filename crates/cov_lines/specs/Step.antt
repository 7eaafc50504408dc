-- The model of the program: what one line of a script does.
use Rattle.std.specs.Prelude.{ℕ, ◌+◌, Bool, true, false, nat_lt, List, [], ◌∷◌, ◌++◌, length, map, take, ok_or, option_map, unwrap_or, Ok, Err, if◌then◌else◌}
use Rattle.std.specs.List.{list_any}
use Rattle.std.specs.Str.{bytes_eq}
use Rattle.cov_base.specs.Lines.{lines_of as script_lines}
use Rattle.cov_base.specs.Spelling.{is_option_name}
use Rattle.cov_base.specs.declared.number.Kind.{Kind}
use Rattle.cov_base.specs.declared.number.Kind.TheVariants as kinds
use Rattle.cov_base.specs.declared.number.LineRef.{LineRef}
use Rattle.cov_base.specs.declared.number.NodeRef.{NodeRef}
use Rattle.cov_base.specs.declared.limits.TheConstants.{MOST_SCRIPT_LINE_BYTES}
use Rattle.cov_expr.specs.Formula.{Formula, True}
use Rattle.cov_script.specs.Grouping.{grouped}
use Rattle.cov_script.specs.Lines.{form_of}
use Rattle.cov_script.specs.declared.grouped.AnalysisLine.{AnalysisLine}
use Rattle.cov_script.specs.declared.grouped.AnalysisLine.TheVariants as analysis_lines
use Rattle.cov_script.specs.declared.grouped.Declaration.{Declaration}
use Rattle.cov_script.specs.declared.grouped.Declaration.TheVariants as declarations
use Rattle.cov_script.specs.declared.grouped.EditLine.{EditLine}
use Rattle.cov_script.specs.declared.grouped.EditLine.TheVariants as edit_lines
use Rattle.cov_script.specs.declared.grouped.GroupedLine.{GroupedLine}
use Rattle.cov_script.specs.declared.grouped.GroupedLine.TheVariants as groups
use Rattle.cov_script.specs.declared.grouped.PastLine.{PastLine}
use Rattle.cov_script.specs.declared.grouped.PastLine.TheVariants as past_lines
use Rattle.cov_script.specs.declared.grouped.Question.{Question}
use Rattle.cov_script.specs.declared.grouped.Question.TheVariants as questions
use Rattle.cov_script.specs.declared.grouped.SessionLine.{SessionLine}
use Rattle.cov_script.specs.declared.grouped.SessionLine.TheVariants as session_lines
use Rattle.cov_script.specs.declared.grouped.TreeLine.{TreeLine}
use Rattle.cov_script.specs.declared.grouped.TreeLine.TheVariants as tree_lines
use Rattle.cov_script.specs.declared.line.LineField.{LineField}
use Rattle.cov_script.specs.Replies.{refused_reply, option_reply, constraint_reply, prefer_reply, default_reply, upgrade_reply, complete_reply, open_reply, refresh_reply, plain_reply, new_line_reply, commit_reply, nearest_reply, text_line}
use Rattle.cov_script.specs.declared.code.Code.{Code}
use Rattle.cov_script.specs.declared.code.Code.TheVariants.{Long, BadName, NoSession, NoSuchLine, NoSuchPath, NotFile, NotDirectory, TreeTaken}
use Rattle.cov_edit.specs.declared.edit.Edit.{Edit}
use Rattle.cov_edit.specs.declared.edit.Edit.TheVariants as edits
use Rattle.cov_edit.specs.declared.command.Command.{Command}
use Rattle.cov_edit.specs.declared.command.Command.TheVariants as commands
use Rattle.cov_edit.specs.History.{options_of, option_count, constraints_of, preferences_of, defaults_of}
use Rattle.cov_edit.specs.Numbering.{line_count}
use Rattle.cov_edit.specs.Replay.{replay}
use Rattle.cov_edit.specs.Variant.{Variant, lines_of}
use Rattle.cov_view.specs.Listing.{listed}
use Rattle.cov_view.specs.Paths.{path_node}
use Rattle.cov_view.specs.Refusals.{is_dir}
use Rattle.cov_view.specs.Tree.{tree_of}
use Rattle.cov_view.specs.Views.{by_number}
use Rattle.cov_view.specs.declared.tree.TreeRow.{TreeRow}
use Rattle.cov_history.specs.Sessions.{Session, seen, commit_of}
use Rattle.cov_history.specs.Verdict.{verdict}
use Rattle.cov_engine.specs.Visibility.{is_no_line, presence_of}
use Rattle.cov_alt.specs.Sides.{sides_at}
use Rattle.cov_analyse.specs.Bounding.{distance}
use Rattle.cov_analyse.specs.Nearest.{nearest}
use Rattle.cov_hist.specs.Holding.{holding}
use Rattle.cov_hist.specs.Origins.{blame}
use Rattle.cov_hist.specs.Past.{choice_at}
use Rattle.cov_cond.specs.Exporting.{exported}
use Rattle.cov_cond.specs.Fitting.{directory_of, last_name}
use Rattle.cov_out.specs.declared.row.OutRow.{OutRow}
use Rattle.cov_session.specs.Calls.{opened_among, refreshed_among, side_set, taken}
use Rattle.cov_session.specs.Counting.{line_made, own_lines}
use Rattle.cov_session.specs.Named.{named, side_of, with_session, without}
use Rattle.cov_session.specs.Open.{NamedSession}
use Rattle.cov_loop.specs.Outcome.{Outcome, answers}
use Rattle.cov_codes.specs.Codes.{alt_code, export_code, past_code, syntax_code, refusal_code, session_code}
use Rattle.cov_lines.specs.Editing.{ref_in, line_ref}
use Rattle.cov_session.specs.Faults.{unless}
use Rattle.cov_lines.specs.Finding.{Found, by_code, ◌>>=◌, completed_choice, found_option, found_expression, found_partial, found_choice, whole_choice}
use Rattle.cov_lines.specs.Replies.{analysis_reply, blamed_line, directory_reply, edit_reply, file_reply, lines_reply, logged_line, marked_line, presence_reply, seen_reply}
use Rattle.cov_lines.specs.States.{State, starting, with_command, with_sessions, with_tree}
use Rattle.cov_lines.specs.Written.{rows_in, tree_reply}

-- what a line does that writes no rows: the state after it with its reply, or the code by which it is refused
abbrev pub Act : Type 0
Act = Found (State × List ℕ)

-- a line that is done: the state after it, its reply, and the rows that it writes
pub record Done : Type 0 where
  pub state : State
  pub reply : List ℕ
  pub rows : List OutRow

-- what a line does that writes no rows, as one that may
abbrev pub plainly : Act → Found Done
plainly (Ok done) = Ok (record { state = done.0; reply = done.1; rows = [] })
plainly (Err code) = Err code

-- a command is appended, unless the history refuses it
abbrev pub appended : State → Command → Found State
appended st command = unless (option_map refusal_code (verdict st.history command)) (with_command st command)

-- edits are added to the session of a name, all or none of them
abbrev pub added : State → List ℕ → List Edit → Found State
added st name es = by_code session_code (taken st.history st.sessions name es) >>= (λ ss. Ok (with_sessions st ss))

-- an edit is added to a session of a name; the reply gives the number of the line that it inserts, if it does
abbrev pub edited : State → List ℕ → Session → Edit → Act
edited st name s edit = added st name (edit ∷ []) >>= (λ next. Ok (next, edit_reply (line_made s edit)))

-- a line is replaced in a session of a name; the reply gives the number of the new one
abbrev pub exchanged : State → List ℕ → Session → NodeRef → LineRef → List ℕ → Act
exchanged st name s file line text = added st name (edits.Insert file line text ∷ edits.Delete file line ∷ []) >>= (λ next. Ok (next, new_line_reply (own_lines s)))

-- the session of a name and the node that it sees at a path
unfoldable pub node_at : State → List ℕ → List (List ℕ) → Found (NamedSession × ℕ)
node_at st name path = do
  s ← ok_or (named st.sessions name) NoSession
  node ← ok_or (path_node (seen s.session st.history).rows 0 path) NoSuchPath
  Ok (s, node)

-- the reference to a node that a session sees
abbrev pub ref_at : State → NamedSession × ℕ → NodeRef
ref_at st at = ref_in st.history at.0.session at.1

-- an option is declared
unfoldable pub declared : State → List ℕ → Act
declared st token = do
  name ← (if is_option_name token then Ok token else Err BadName)
  next ← appended st (commands.Option name)
  Ok (next, option_reply (option_count st.history))

-- a constraint is added
unfoldable pub constrained : State → Formula (List ℕ) → Act
constrained st expr = do
  bound ← found_expression st.history expr
  next ← appended st (commands.Constraint bound)
  Ok (next, constraint_reply (length (constraints_of st.history) + 1))

-- a preference is added
unfoldable pub preferred : State → Formula (List ℕ) → Act
preferred st expr = do
  bound ← found_expression st.history expr
  next ← appended st (commands.Prefer bound)
  Ok (next, prefer_reply (length (preferences_of st.history) + 1))

-- the default of an option is added
unfoldable pub defaulted : State → List ℕ → Bool → Act
defaulted st token on = do
  option ← found_option st.history token
  next ← appended st (commands.Default option on)
  Ok (next, default_reply (length (defaults_of st.history) + 1))

-- the history is upgraded
unfoldable pub upgraded : State → Act
upgraded st = do
  next ← appended st commands.Upgrade
  Ok (next, upgrade_reply 2)

-- the choice to which the rules complete bindings is told
unfoldable pub completed : State → List (List ℕ × Bool) → Act
completed st bindings = do
  choice ← found_choice st.history bindings
  Ok (st, complete_reply (options_of st.history) choice)

-- a session is opened, and the edits that come next in it have the side True
unfoldable pub opened : State → List ℕ → List (List ℕ × Bool) → Formula (List ℕ) → Act
opened st name bindings ambition = do
  partial ← found_partial st.history bindings
  within ← found_expression st.history ambition
  session ← by_code session_code (opened_among st.history st.sessions name partial within)
  Ok (with_sessions st (st.sessions ++ record { name = name; side = True; session = session } ∷ []), open_reply session.base (options_of st.history) session.choice)

-- the edits that come next in a session have another side
unfoldable pub side_changed : State → List ℕ → Formula (List ℕ) → Act
side_changed st name expr = do
  side ← found_expression st.history expr
  ss ← by_code session_code (side_set st.sessions name side)
  Ok (with_sessions st ss, plain_reply)

-- a session is refreshed, and keeps its side
unfoldable pub refreshed : State → List ℕ → Act
refreshed st name = do
  session ← by_code session_code (refreshed_among st.history st.sessions name)
  Ok (with_sessions st (with_session st.sessions (record { name = name; side = side_of st.sessions name; session = session })), refresh_reply session.base (options_of st.history) session.choice)

-- a node of a kind is made in the directory at a path, with a name
unfoldable pub made_in : State → Kind → List ℕ → List (List ℕ) → List ℕ → Act
made_in st kind name path own = do
  dir ← node_at st name path
  next ← added st name (edits.New kind (ref_at st dir) own ∷ [])
  Ok (next, plain_reply)

-- a node of a kind is made at a path: in its directory, with its last name
abbrev pub made : State → Kind → List ℕ → List (List ℕ) → Act
made st kind name path = made_in st kind name (directory_of path) (last_name path)

-- a node that a session sees has another name within its directory
unfoldable pub renamed : State → List ℕ → List (List ℕ) → List ℕ → Act
renamed st name path to = do
  node ← node_at st name path
  next ← added st name (edits.Rename (ref_at st node) to ∷ [])
  Ok (next, plain_reply)

-- a node that a session sees is in another directory, under its own name
unfoldable pub moved : State → List ℕ → List (List ℕ) → List (List ℕ) → Act
moved st name path target = do
  node ← node_at st name path
  dir ← node_at st name target
  next ← added st name (edits.Move (ref_at st node) (ref_at st dir) ∷ [])
  Ok (next, plain_reply)

-- a node that a session sees is removed
unfoldable pub removed : State → List ℕ → List (List ℕ) → Act
removed st name path = do
  node ← node_at st name path
  next ← added st name (edits.Remove (ref_at st node) ∷ [])
  Ok (next, plain_reply)

-- a line is inserted into a file that a session sees
unfoldable pub inserted : State → List ℕ → List (List ℕ) → LineField → List ℕ → Act
inserted st name path line text = do
  file ← node_at st name path
  next ← added st name (edits.Insert (ref_at st file) (line_ref line) text ∷ [])
  Ok (next, new_line_reply (own_lines file.0.session))

-- a line of a file that a session sees is deleted
unfoldable pub deleted : State → List ℕ → List (List ℕ) → LineField → Act
deleted st name path line = do
  file ← node_at st name path
  next ← added st name (edits.Delete (ref_at st file) (line_ref line) ∷ [])
  Ok (next, plain_reply)

-- a line of a file that a session sees is replaced: another is inserted directly after it, and it is deleted
unfoldable pub replaced : State → List ℕ → List (List ℕ) → LineField → List ℕ → Act
replaced st name path line text = do
  file ← node_at st name path
  next ← added st name (edits.Insert (ref_at st file) (line_ref line) text ∷ edits.Delete (ref_at st file) (line_ref line) ∷ [])
  Ok (next, new_line_reply (own_lines file.0.session))

-- the lines of a node are told as a session sees them, if it is a file
abbrev pub shown_in : State → Session → ℕ → Act
shown_in st s node =
    if is_dir (seen s st.history).rows node then Err NotFile
    else Ok (st, seen_reply (line_count (take s.base st.history)) (map by_number (lines_of (seen s st.history) node)))

-- the lines of a file are told as a session sees them
unfoldable pub shown : State → List ℕ → List (List ℕ) → Act
shown st name path = do
  file ← node_at st name path
  shown_in st file.0.session file.1

-- what is in a node is told as a session sees it, if it is a directory
abbrev pub listed_in : State → Session → ℕ → Act
listed_in st s node =
    if is_dir (seen s st.history).rows node then Ok (st, directory_reply (listed (seen s st.history).rows node))
    else Err NotDirectory

-- what is in a directory is told as a session sees it
unfoldable pub listed_at : State → List ℕ → List (List ℕ) → Act
listed_at st name path = do
  dir ← node_at st name path
  listed_in st dir.0.session dir.1

-- the state in which the session of a name has ended
abbrev pub ended : State → List ℕ → State
ended st name = with_sessions st (without st.sessions name)

-- a session is committed, which ends it
unfoldable pub committed : State → List ℕ → Act
committed st name = do
  s ← ok_or (named st.sessions name) NoSession
  next ← appended st (commit_of s.session)
  Ok (ended next name, commit_reply (length st.history + 1))

-- a session is given up
unfoldable pub dropped : State → List ℕ → Act
dropped st name = do
  s ← ok_or (named st.sessions name) NoSession
  Ok (ended st name, plain_reply)

-- the lines of a node are told in a variant, if it is a file
abbrev pub told_in : State → Variant → ℕ → Act
told_in st v node = if is_dir v.rows node then Err NotFile else Ok (st, file_reply (map by_number (lines_of v node)))

-- the lines of the file at a path are told in a variant
unfoldable pub file_told : State → Variant → List (List ℕ) → Act
file_told st v path = do
  node ← ok_or (path_node v.rows 0 path) NoSuchPath
  told_in st v node

-- the lines of a file are told in the variant of the choice to which the rules complete bindings
unfoldable pub told : State → List (List ℕ × Bool) → List (List ℕ) → Act
told st bindings path = do
  c ← found_choice st.history bindings
  file_told st (replay c st.history) path

-- on which choices a line is, its file there or not, is told by the one reduced listing
unfoldable pub presence_told : State → ℕ → Act
presence_told st line = do
  there ← (if is_no_line st.history line then Err NoSuchLine else Ok line)
  Ok (st, presence_reply (options_of st.history) (presence_of st.history there))

-- the lines of a file with an option on and with it off are told, in the variant of the choice to which the rules complete bindings
unfoldable pub compared : State → List (List ℕ × Bool) → List ℕ → List (List ℕ) → Act
compared st bindings token path = do
  partial ← found_partial st.history bindings
  option ← found_option st.history token
  choice ← completed_choice st.history partial
  ls ← by_code alt_code (sides_at st.history choice option path)
  Ok (st, lines_reply marked_line ls)

-- the file at a path of a variant
abbrev pub file_in : Variant → List (List ℕ) → Found ℕ
file_in v path = do
  node ← ok_or (path_node v.rows 0 path) NoSuchPath
  (if is_dir v.rows node then Err NotFile else Ok node)

-- a file is told with all its variants, as conditional text
unfoldable pub file_exported : State → ℕ → Act
file_exported st file = do
  ls ← by_code export_code (exported st.history file)
  Ok (st, lines_reply text_line ls)

-- the file at a path in the variant of the choice to which the rules complete bindings is told with all its variants, as conditional
-- text
unfoldable pub conditions_told : State → List (List ℕ × Bool) → List (List ℕ) → Act
conditions_told st bindings path = do
  c ← found_choice st.history bindings
  file ← file_in (replay c st.history) path
  file_exported st file

-- what the constraints make of each option, and what each of them adds to the others, is told
unfoldable pub analysed : State → Act
analysed st = Ok (st, analysis_reply (options_of st.history) (constraints_of st.history))

-- the valid choice that is nearest to one, the first where there are more; in a history on which none is valid, that one
abbrev pub nearest_in : List Command → List Bool → List Bool
nearest_in history c = unwrap_or (nearest (option_count history) (constraints_of history) c) c

-- the valid choice is told that is nearest to the one that bindings of all options are
unfoldable pub nearest_told : State → List (List ℕ × Bool) → Act
nearest_told st bindings = do
  partial ← found_partial st.history bindings
  choice ← whole_choice (option_count st.history) partial
  Ok (st, nearest_reply (distance choice (nearest_in st.history choice)) (options_of st.history) (nearest_in st.history choice))

-- the commits are told whose ambition is true on the choice to which the rules complete bindings
unfoldable pub logged : State → List (List ℕ × Bool) → Act
logged st bindings = do
  c ← found_choice st.history bindings
  Ok (st, lines_reply logged_line (holding st.history c))

-- the lines of a file are told in the variant of the choice to which the rules complete bindings, each with the commit that it comes
-- from
unfoldable pub blamed : State → List (List ℕ × Bool) → List (List ℕ) → Act
blamed st bindings path = do
  c ← found_choice st.history bindings
  file ← file_in (replay c st.history) path
  Ok (st, lines_reply blamed_line (blame st.history c file))

-- the choice that a partial one is at a position
abbrev pub choice_then : State → List (ℕ × Bool) → ℕ → Found (List Bool)
choice_then st partial position = by_code past_code (choice_at st.history partial position)

-- the lines of a file are told as they were at a position, in the variant of the choice that bindings were then
unfoldable pub past_told : State → ℕ → List (List ℕ × Bool) → List (List ℕ) → Act
past_told st position bindings path = do
  partial ← found_partial st.history bindings
  c ← choice_then st partial position
  file_told st (replay c (take position st.history)) path

-- whether a checkout, of now or of the past, has used a name
abbrev pub is_taken : State → List ℕ → Bool
is_taken st tree = list_any (bytes_eq tree) st.trees

-- the tree of a variant is written, and its name is used
abbrev pub written : State → List ℕ → List TreeRow → Done
written st tree rows = record { state = with_tree st tree; reply = tree_reply tree rows; rows = rows_in tree rows }

-- a tree is written: that of the variant of the choice to which the rules complete bindings
unfoldable pub checked_out : State → List ℕ → List (List ℕ × Bool) → Found Done
checked_out st tree bindings = do
  partial ← found_partial st.history bindings
  new ← (if is_taken st tree then Err TreeTaken else Ok tree)
  choice ← completed_choice st.history partial
  Ok (written st new (tree_of (replay choice st.history)))

-- a tree is written as it was at a position: that of the variant of the choice that bindings were then
unfoldable pub past_written : State → List ℕ → ℕ → List (List ℕ × Bool) → Found Done
past_written st tree position bindings = do
  partial ← found_partial st.history bindings
  new ← (if is_taken st tree then Err TreeTaken else Ok tree)
  choice ← choice_then st partial position
  Ok (written st new (tree_of (replay choice (take position st.history))))

-- what a declaration does
unfoldable pub served_declaration : State → Declaration → Act
served_declaration st (declarations.Option token) = declared st token
served_declaration st (declarations.Constraint expr) = constrained st expr
served_declaration st (declarations.Prefer expr) = preferred st expr
served_declaration st (declarations.Default token on) = defaulted st token on
served_declaration st declarations.Upgrade = upgraded st

-- what a line does that opens a session, sets its side, refreshes it or ends it
unfoldable pub served_session : State → SessionLine → Act
served_session st (session_lines.Open name bindings ambition) = opened st name bindings ambition
served_session st (session_lines.Side name side) = side_changed st name side
served_session st (session_lines.Refresh name) = refreshed st name
served_session st (session_lines.Commit name) = committed st name
served_session st (session_lines.Discard name) = dropped st name

-- what a line does that edits in the session of a name
unfoldable pub served_edit : State → List ℕ → EditLine → Act
served_edit st name (edit_lines.MakeDir path) = made st kinds.Dir name path
served_edit st name (edit_lines.MakeFile path) = made st kinds.File name path
served_edit st name (edit_lines.Rename path to) = renamed st name path to
served_edit st name (edit_lines.Move path target) = moved st name path target
served_edit st name (edit_lines.Remove path) = removed st name path
served_edit st name (edit_lines.Insert path line text) = inserted st name path line text
served_edit st name (edit_lines.Delete path line) = deleted st name path line
served_edit st name (edit_lines.Replace path line text) = replaced st name path line text

-- what a question is answered
unfoldable pub served_question : State → Question → Act
served_question st (questions.Complete bindings) = completed st bindings
served_question st (questions.Show name path) = shown st name path
served_question st (questions.List name path) = listed_at st name path
served_question st (questions.Cat bindings path) = told st bindings path
served_question st (questions.Alt bindings token path) = compared st bindings token path
served_question st (questions.Conditional bindings path) = conditions_told st bindings path
served_question st (questions.Presence line) = presence_told st line

-- what a line is answered that asks what the rules come to
unfoldable pub served_analysis : State → AnalysisLine → Act
served_analysis st analysis_lines.Analyse = analysed st
served_analysis st (analysis_lines.Nearest bindings) = nearest_told st bindings

-- what a line is answered that asks what the history tells of its past
unfoldable pub served_past : State → PastLine → Act
served_past st (past_lines.Log bindings) = logged st bindings
served_past st (past_lines.Blame bindings path) = blamed st bindings path
served_past st (past_lines.Past position bindings path) = past_told st position bindings path

-- what a line does that writes a tree
unfoldable pub served_tree : State → TreeLine → Found Done
served_tree st (tree_lines.Checkout tree bindings) = checked_out st tree bindings
served_tree st (tree_lines.PastOut tree position bindings) = past_written st tree position bindings

-- what a line of each group does
unfoldable pub served : State → GroupedLine → Found Done
served st groups.Silent = plainly (Ok (st, []))
served st (groups.Declaration declaration) = plainly (served_declaration st declaration)
served st (groups.Session line) = plainly (served_session st line)
served st (groups.Edit name edit) = plainly (served_edit st name edit)
served st (groups.Question question) = plainly (served_question st question)
served st (groups.Analysis line) = plainly (served_analysis st line)
served st (groups.Past line) = plainly (served_past st line)
served st (groups.Tree line) = served_tree st line

-- what a line does
unfoldable pub acted : State → List ℕ → Found Done
acted st line = do
  short ← (if nat_lt MOST_SCRIPT_LINE_BYTES (length line) then Err Long else Ok line)
  form ← by_code syntax_code (form_of short)
  served st (grouped form)

-- what every refusal is: the same state, and the reply that names it
abbrev pub refused : State → Code → Outcome State
refused st code = record { state = st; reply = refused_reply (options_of st.history) code; rows = []; is_refused = true }

-- a line that is done, or refused
abbrev pub as_outcome : State → Found Done → Outcome State
as_outcome st (Ok done) = record { state = done.state; reply = done.reply; rows = done.rows; is_refused = false }
as_outcome st (Err code) = refused st code

-- what a line comes to
unfoldable pub step : State → List ℕ → Outcome State
step st line = as_outcome st (acted st line)

-- what a whole script does to a history
abbrev pub model : List Command → List ℕ → Outcome State
model history script = answers step (starting history) (script_lines script)
