-- What a session sees of what a line names.
use Rattle.std.specs.Prelude.{◌≡◌, ℕ, true, List, take, Some, Ok}
use Rattle.cov_base.specs.declared.number.NodeRef.{NodeRef}
use Rattle.cov_edit.specs.Numbering.{numbers_of, node_number}
use Rattle.cov_view.specs.Refusals.{shows_node}
use Rattle.cov_view.specs.Seen.{Seen}
use Rattle.cov_history.specs.Sessions.{Session, seen}
use Rattle.cov_session.specs.Named.{named}
use Rattle.cov_session.specs.Open.{NamedSession, IsOpen}
use Rattle.cov_lines.specs.Editing.{ref_in}
use Rattle.cov_lines.specs.States.{State}
use Rattle.cov_lines.specs.Step.{node_at}

-- a view is that of the session of a name
pub record IsNamed (st : State) (name : List ℕ) (view : Seen) : Type 0 where
  pub session : NamedSession
  pub has : named st.sessions name ≡ Some session
  pub is_open : IsOpen st.history (record { name = session.name; side = session.side; session = session.session; view = view })

-- a node that a session sees, by its number and by reference
pub record IsSeen (st : State) (s : Session) (node : ℕ) (ref : NodeRef) : Type 0 where
  pub reference : ref_in st.history s node ≡ ref
  pub number : node_number (numbers_of (take s.base st.history)).nodes ref ≡ node
  pub there : shows_node (numbers_of (take s.base st.history)) (seen s st.history) ref ≡ true

-- a view is that of the session of a name, and a node is the one that it sees at a path
pub record IsNodeAt (st : State) (name : List ℕ) (path : List (List ℕ)) (view : Seen) (ref : NodeRef) : Type 0 where
  pub named_so : IsNamed st name view
  pub node : ℕ
  pub is_seen : IsSeen st named_so.session.session node ref
  pub found : node_at st name path ≡ Ok (named_so.session, node)
