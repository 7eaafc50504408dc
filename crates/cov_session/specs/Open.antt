-- Sessions that are open.
use Rattle.std.specs.Prelude.{◌≡◌, ℕ, ◌≤◌, true, List, length, take}
use Rattle.cov_expr.specs.Formula.{Formula, reach, value}
use Rattle.cov_edit.specs.declared.command.Command.{Command}
use Rattle.cov_edit.specs.History.{option_count}
use Rattle.cov_edit.specs.Numbering.{Numbers, numbers_of, numbers_after, nodes_made, anchors_of}
use Rattle.cov_view.specs.Seen.{Seen}
use Rattle.cov_view.specs.Views.{Shows}
use Rattle.cov_history.specs.Sessions.{Session, edits_of, IsGood, seen}

-- a session with the name by which it is called, and the current side, which each of its further edits has
pub record NamedSession : Type 0 where
  pub name : List ℕ
  pub side : Formula ℕ
  pub session : Session

-- a session with its name, its current side and the view that it has
pub record SessionValue : Type 0 where
  pub name : List ℕ
  pub side : Formula ℕ
  pub session : Session
  pub view : Seen

-- a session by its name, but for its view
abbrev pub as_named : SessionValue → NamedSession
as_named s = record { name = s.name; side = s.side; session = s.session }

-- the numbers that a history has at the base of a session
abbrev pub numbers_at_base : List Command → Session → Numbers
numbers_at_base history s = numbers_of (take s.base history)

-- the addresses of all lines that a session may see
abbrev pub table_of : List Command → Session → List (List ℕ)
table_of history s = (numbers_after (numbers_at_base history s) (edits_of s)).addresses

-- a session is good for a history, its current side names options of its base alone and is true on its choice, and its view is
-- what it sees, with as many nodes and lines made as its edits make
pub record IsOpen (history : List Command) (s : SessionValue) : Type 0 where
  pub good : IsGood history s.session
  pub side_in_reach : reach s.side ≤ option_count (take s.session.base history)
  pub in_side : value s.side s.session.choice ≡ true
  pub shows : Shows (numbers_at_base history s.session) (table_of history s.session) s.view (seen s.session history)
  pub nodes : s.view.nodes_made ≡ nodes_made (edits_of s.session)
  pub lines : s.view.lines_made ≡ length (anchors_of 0 (edits_of s.session))
