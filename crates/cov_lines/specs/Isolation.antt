-- The law of isolation: what a session's own lines are answered, whatever lines of others come between.
use Rattle.std.specs.Prelude.{◌≡◌, ℕ, ◌≤◌, Bool, true, false, List, [], ◌∷◌, length, take, option_map, Some, Result, Ok, Err, if◌then◌else◌}
use Rattle.std.specs.List.{filter}
use Rattle.std.specs.Str.{bytes_eq}
use Rattle.cov_expr.specs.Formula.{Formula}
use Rattle.cov_edit.specs.declared.command.Command.{Command}
use Rattle.cov_edit.specs.declared.edit.Edit.{Edit}
use Rattle.cov_history.specs.Sessions.{edits_of}
use Rattle.cov_script.specs.Grouping.{grouped}
use Rattle.cov_script.specs.Lines.{form_of}
use Rattle.cov_script.specs.declared.grouped.GroupedLine.{GroupedLine}
use Rattle.cov_script.specs.declared.grouped.GroupedLine.TheVariants as groups
use Rattle.cov_script.specs.declared.grouped.Question.{Question}
use Rattle.cov_script.specs.declared.grouped.Question.TheVariants as questions
use Rattle.cov_script.specs.declared.grouped.SessionLine.{SessionLine}
use Rattle.cov_script.specs.declared.grouped.SessionLine.TheVariants as session_lines
use Rattle.cov_script.specs.declared.line.Line.{Line}
use Rattle.cov_script.specs.declared.line.LineSyntax.{LineSyntax}
use Rattle.cov_session.specs.Named.{named}
use Rattle.cov_session.specs.Open.{NamedSession}
use Rattle.cov_loop.specs.Outcome.{answers}
use Rattle.cov_lines.specs.States.{State}
use Rattle.cov_lines.specs.Step.{step}

-- whether a question asks what the session of a name sees
abbrev pub asks_in : List ℕ → Question → Bool
asks_in name (questions.Complete bindings) = false
asks_in name (questions.Show n path) = bytes_eq n name
asks_in name (questions.List n path) = bytes_eq n name
asks_in name (questions.Cat bindings path) = false
asks_in name (questions.Alt bindings token path) = false
asks_in name (questions.Conditional bindings path) = false
asks_in name (questions.Presence line) = false

-- whether a line edits, shows or lists in the session of a name
abbrev pub works_in : List ℕ → GroupedLine → Bool
works_in name groups.Silent = false
works_in name (groups.Declaration declaration) = false
works_in name (groups.Session line) = false
works_in name (groups.Edit n edit) = bytes_eq n name
works_in name (groups.Question question) = asks_in name question
works_in name (groups.Analysis line) = false
works_in name (groups.Past line) = false
works_in name (groups.Tree line) = false

-- whether the session of a name is opened or refreshed
abbrev pub is_start : List ℕ → SessionLine → Bool
is_start name (session_lines.Open n bindings ambition) = bytes_eq n name
is_start name (session_lines.Side n side) = false
is_start name (session_lines.Refresh n) = bytes_eq n name
is_start name (session_lines.Commit n) = false
is_start name (session_lines.Discard n) = false

-- whether the session of a name is opened, refreshed, committed or dropped
abbrev pub is_turn : List ℕ → SessionLine → Bool
is_turn name (session_lines.Open n bindings ambition) = bytes_eq n name
is_turn name (session_lines.Side n side) = false
is_turn name (session_lines.Refresh n) = bytes_eq n name
is_turn name (session_lines.Commit n) = bytes_eq n name
is_turn name (session_lines.Discard n) = bytes_eq n name

-- whether a line is one of a session that passes a test
abbrev pub of_session : (SessionLine → Bool) → GroupedLine → Bool
of_session test groups.Silent = false
of_session test (groups.Declaration declaration) = false
of_session test (groups.Session line) = test line
of_session test (groups.Edit n edit) = false
of_session test (groups.Question question) = false
of_session test (groups.Analysis line) = false
of_session test (groups.Past line) = false
of_session test (groups.Tree line) = false

-- whether a line opens or refreshes the session of a name
abbrev pub begins : List ℕ → GroupedLine → Bool
begins name line = of_session (is_start name) line

-- whether a line opens, refreshes, commits or drops the session of a name
abbrev pub begins_or_ends : List ℕ → GroupedLine → Bool
begins_or_ends name line = of_session (is_turn name) line

-- whether there is a form, and what it says passes a test
abbrev pub has_form : (GroupedLine → Bool) → Result Line LineSyntax → Bool
has_form test (Ok form) = test (grouped form)
has_form test (Err fault) = false

-- whether a line is an edit line, `show` or `list` of the session of a name
abbrev pub is_own : List ℕ → List ℕ → Bool
is_own name line = has_form (works_in name) (form_of line)

-- whether a line is an `open`, `refresh`, `commit` or `drop` of the session of a name
abbrev pub is_boundary : List ℕ → List ℕ → Bool
is_boundary name line = has_form (begins_or_ends name) (form_of line)

-- the lines of a session alone, in order
abbrev pub own_script : List ℕ → List (List ℕ) → List (List ℕ)
own_script name script = filter (is_own name) script

-- the replies to a session's own lines, in order, in a run over all lines
abbrev pub own_replies : List ℕ → State → List (List ℕ) → List (List ℕ)
own_replies name st [] = []
own_replies name st (line ∷ script) =
    if is_own name line then (step st line).reply ∷ own_replies name (step st line).state script
    else own_replies name (step st line).state script

-- the state after some lines
abbrev pub after : State → List (List ℕ) → State
after st script = (answers step st script).state

-- no line of a run opens, refreshes, commits or drops the session of a name, unless that line is refused
abbrev pub StaysOpen : List ℕ → State → List (List ℕ) → Type 0
StaysOpen name st [] = Unit {0}
StaysOpen name st (line ∷ script) = (is_boundary name line ≡ true → (step st line).is_refused ≡ true) × StaysOpen name (step st line).state script

-- a session but for its sides: what it sees, and what its edits are told, is of these alone
pub record UnsidedSession : Type 0 where
  pub name : List ℕ
  pub base : ℕ
  pub choice : List Bool
  pub ambition : Formula ℕ
  pub edits : List Edit

-- a session without its current side and those of its edits
abbrev pub without_sides : NamedSession → UnsidedSession
without_sides s = record { name = s.name; base = s.session.base; choice = s.session.choice; ambition = s.session.ambition; edits = edits_of s.session }

-- a session, but for its sides, is the one of a name in a state whose history is this one up to the session's base
pub record HasSession (name : List ℕ) (s : UnsidedSession) (before : List Command) (st : State) : Type 0 where
  pub there : option_map without_sides (named st.sessions name) ≡ Some s
  pub within : s.base ≤ length st.history
  pub same : take s.base st.history ≡ before

-- two states have the same session of a name, but for its sides, and the same history up to its base
pub record SeeAlike (name : List ℕ) (one other : State) : Type 0 where
  pub session : UnsidedSession
  pub before : List Command
  pub in_one : HasSession name session before one
  pub in_other : HasSession name session before other

-- the replies to a session's own lines are a function of the session, of the history up to its base and of these lines: two
-- runs for which these are the same, and in which the session stays open, give the same replies, whatever else their states
-- hold and whatever lines of others come between; and in the end their states see the session alike again
abbrev pub SessionsAreIsolated : Type 0
SessionsAreIsolated = (name : List ℕ) (one other : State) (script another : List (List ℕ)) → SeeAlike name one other
    → StaysOpen name one script → StaysOpen name other another → own_script name script ≡ own_script name another
    → (own_replies name one script ≡ own_replies name other another) × SeeAlike name (after one script) (after other another)

-- a session that is opened or refreshed is there, with the whole history before its base
abbrev pub SessionsBeginNow : Type 0
SessionsBeginNow = (name : List ℕ) (st : State) (line : List ℕ) → has_form (begins name) (form_of line) ≡ true → (step st line).is_refused ≡ false
    → (s : UnsidedSession) × HasSession name s (step st line).state.history (step st line).state
