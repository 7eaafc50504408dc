-- The sessions that are open, as the history grows, and by their names.
use Rattle.std.proofs.Common.{◌≡◌, sym, subst, ℕ, Bool, true, false, cond, List, [], ◌∷◌, ◌++◌, map, Some, option_map}
use Rattle.std.specs.Str.{bytes_eq}
use Rattle.cov_edit.specs.declared.command.Command.{Command}
use Rattle.cov_history.specs.Sessions.{MayCome, commit_of}
use Rattle.cov_session.specs.Calls.{AreOpen, IsOfName}
use Rattle.cov_session.specs.Laws.{OpenSessionsStay}
use Rattle.cov_session.specs.Named.{named}
use Rattle.cov_session.proofs.CallerLemmas.{all-stay, named-open, named-some}
use Rattle.cov_session.specs.Open.{NamedSession, SessionValue, IsOpen, as_named}
use Rattle.cov_view.specs.Seen.{Seen}
use Rattle.cov_lines.specs.Seeing.{IsNamed}
use Rattle.cov_lines.specs.States.{State}

-- a command was appended
pub stay-open : OpenSessionsStay → (history later : List Command) (k : Command) (ss : List SessionValue) → later ≡ history ++ k ∷ [] → AreOpen history ss → AreOpen later ss
stay-open law history later k ss is here = subst (λ h. AreOpen h ss) (sym is) (all-stay law history (k ∷ []) ss here)

-- the commit of the session of a name may come
pub commit-may : (history : List Command) (name : List ℕ) (ss : List SessionValue) (k : Command) → option_map (λ (s : NamedSession). commit_of s.session) (named (map as_named ss) name) ≡ Some k → AreOpen history ss → MayCome history k
commit-may history name [] k h here = absurd (cc)
commit-may history name (t ∷ ss) k h here = at (bytes_eq t.name name) h (λ c. commit-may history name ss k c here.1)
  where
    at : (b : Bool) → option_map (λ (s : NamedSession). commit_of s.session) (cond b (Some (as_named t)) (named (map as_named ss) name)) ≡ Some k
        → (option_map (λ (s : NamedSession). commit_of s.session) (named (map as_named ss) name) ≡ Some k → MayCome history k) → MayCome history k
    at true c rest = subst (MayCome history) (let same : commit_of t.session ≡ k = cc in same) here.0.good
    at false c rest = rest c

-- the view of the session of a name
pub is-named : (st : State) (history : List Command) (ss : List SessionValue) (trees : List (List ℕ)) (name : List ℕ) (view : Seen)
    → (let kept : State = record { history = history; sessions = map as_named ss; trees = trees } in kept) ≡ st → AreOpen history ss
    → (s : SessionValue) × IsOfName ss name s × (s.view ≡ view) → IsNamed st name view
is-named st history ss trees name view is here found =
    let s : SessionValue = found.0 in
    subst (λ t. IsNamed t name view) is
    (record {
      session = as_named s;
      has = named-some name ss s found.1;
      is_open = subst (λ v. IsOpen history (record { name = s.name; side = s.side; session = s.session; view = v })) found.2 (named-open history name ss s here found.1);
    })
