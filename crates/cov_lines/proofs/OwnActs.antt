-- What a session's own lines read, the history up to its base being known.
use Rattle.std.proofs.Common.{◌≡◌, ◌∙◌, refl, sym, ap, subst, ℕ, ◌≤◌, Bool, true, false, nat_lt, List, [], ◌∷◌, ◌++◌, length, take, Option, Some, None, Ok, ok_or, option_map}
use Rattle.std.specs.List.{fold}
use Rattle.cov_script.specs.declared.code.Code.{Code}
use Rattle.cov_script.specs.declared.code.Code.TheVariants.{NoSession, NoSuchPath}
use Rattle.cov_script.specs.Replies.{refused_reply}
use Rattle.cov_edit.specs.declared.command.Command.{Command}
use Rattle.cov_edit.specs.declared.edit.Edit.{Edit}
use Rattle.cov_edit.specs.History.{text_bytes}
use Rattle.cov_edit.specs.Limits.{limits_of}
use Rattle.cov_edit.specs.Numbering.{numbers_of, numbered}
use Rattle.cov_edit.specs.Replay.{replay}
use Rattle.cov_edit.specs.Variant.{Variant, edited}
use Rattle.cov_view.specs.Paths.{path_node}
use Rattle.cov_view.specs.Refusals.{first_of, when, first_refused}
use Rattle.cov_view.specs.declared.fault.EditFault.{EditFault}
use Rattle.cov_view.specs.declared.fault.EditFault.TheVariants as edit_faults
use Rattle.cov_history.specs.Sessions.{seen}
use Rattle.cov_session.specs.Adding.{as_fault, grown}
use Rattle.cov_session.specs.Calls.{taken_by}
use Rattle.cov_session.specs.Faults.{unless}
use Rattle.cov_session.specs.Named.{named, with_session}
use Rattle.cov_session.specs.Open.{NamedSession}
use Rattle.cov_session.specs.declared.fault.SessionFault.{SessionFault}
use Rattle.cov_session.specs.declared.fault.SessionFault.TheVariants as faults
use Rattle.cov_session.proofs.CallerLemmas.{edits-grown}
use Rattle.cov_codes.specs.Codes.{edit_code, session_code}
use Rattle.cov_lines.specs.Finding.{Found, ◌>>=◌, by_code}
use Rattle.cov_lines.specs.Isolation.{HasSession, UnsidedSession, without_sides}
use Rattle.cov_lines.specs.States.{State, with_sessions}
use Rattle.cov_lines.specs.Step.{added, node_at}
use Rattle.cov_lines.proofs.NamedSessions.{named-changed, named-has}

-- a code whose refusal says the same, whatever options there are
abbrev pub IsQuiet : Code → Type 0
IsQuiet code = (names others : List (List ℕ)) → refused_reply names code ≡ refused_reply others code

edit-quiet : (fault : EditFault) → IsQuiet (edit_code fault)
edit-quiet edit_faults.NoSuchNode = λ names others. refl
edit-quiet edit_faults.NotFile = λ names others. refl
edit-quiet edit_faults.NotDirectory = λ names others. refl
edit-quiet edit_faults.NameTaken = λ names others. refl
edit-quiet edit_faults.NotEmpty = λ names others. refl
edit-quiet edit_faults.IntoItself = λ names others. refl
edit-quiet edit_faults.IsRoot = λ names others. refl
edit-quiet edit_faults.NoSuchLine = λ names others. refl
edit-quiet edit_faults.Memory = λ names others. refl

-- a session, with its sides, is the one of a name in a state whose history is this one up to the session's base
pub record IsNamed (name : List ℕ) (t : NamedSession) (before : List Command) (st : State) : Type 0 where
  pub there : named st.sessions name ≡ Some t
  pub within : t.session.base ≤ length st.history
  pub same : take t.session.base st.history ≡ before

-- so it is but for its sides
pub has-named : (name : List ℕ) (t : NamedSession) (before : List Command) (st : State) → IsNamed name t before st → HasSession name (without_sides t) before st
has-named name t before st is = record { there = ap (option_map without_sides) is.there; within = is.within; same = is.same }

-- a session of a name, with its sides, is this one but for them
pub record HasSides (name : List ℕ) (s : UnsidedSession) (before : List Command) (st : State) : Type 0 where
  pub session : NamedSession
  pub named_there : IsNamed name session before st
  pub is : without_sides session ≡ s

-- one that is there but for its sides has sides
pub named-there : (name : List ℕ) (s : UnsidedSession) (before : List Command) (st : State) → HasSession name s before st → HasSides name s before st
named-there name s before st has = at (named st.sessions name) refl has.there
  where
    one : (t : NamedSession) → named st.sessions name ≡ Some t → without_sides t ≡ s → HasSides name s before st
    one t e is = record {
      session = t;
      named_there = record {
        there = e;
        within = subst (λ (u : UnsidedSession). u.base ≤ length st.history) (sym is) has.within;
        same = ap (λ (u : UnsidedSession). take u.base st.history) is ∙ has.same;
      };
      is = is;
    }

    at : (o : Option NamedSession) → named st.sessions name ≡ o → option_map without_sides o ≡ Some s → HasSides name s before st
    at None e k = absurd (cc)
    at (Some t) e k = let is : without_sides t ≡ s = cc in one t e is

-- the variant that a session sees, the history up to its base being known
abbrev pub view_on : List Command → UnsidedSession → Variant
view_on before s = fold edited (replay s.choice before) (numbered (numbers_of before) s.edits)

-- the node of a path, the history up to the session's base being known
abbrev pub node_on : List Command → NamedSession → List (List ℕ) → Found (NamedSession × ℕ)
node_on before t path = ok_or (path_node (view_on before (without_sides t)).rows 0 path) NoSuchPath >>= (λ node. Ok (t, node))

-- the first fault of those that the limits and an edit's refusal are
abbrev pub fault_by : Bool → Bool → Option (ℕ × EditFault) → Option SessionFault
fault_by many large refused = first_of (when many faults.TooManyEdits ∷ when large faults.TooManyBytes ∷ as_fault refused ∷ [])

-- why a session doesn't take more edits, the history up to its base being known
abbrev pub fault_on : List Command → UnsidedSession → List Edit → Option SessionFault
fault_on before s es =
    fault_by (nat_lt (limits_of before).edits (length (s.edits ++ es))) (nat_lt (limits_of before).commit_bytes (text_bytes (s.edits ++ es)))
    (first_refused (numbers_of before) (replay s.choice before) (s.edits ++ es))

-- a session but for its sides with other edits, and with more
abbrev pub with_edits : UnsidedSession → List Edit → UnsidedSession
with_edits s es = record { name = s.name; base = s.base; choice = s.choice; ambition = s.ambition; edits = es }

abbrev pub with_more : UnsidedSession → List Edit → UnsidedSession
with_more s es = with_edits s (s.edits ++ es)

abbrev pub IsQuietFault : Option SessionFault → Type 0
IsQuietFault None = Unit {0}
IsQuietFault (Some fault) = IsQuiet (session_code fault)

pub fault-quiet : (many large : Bool) (refused : Option (ℕ × EditFault)) → IsQuietFault (fault_by many large refused)
fault-quiet true large refused = λ names others. refl
fault-quiet false true refused = λ names others. refl
fault-quiet false false None = tt
fault-quiet false false (Some refused) = edit-quiet refused.1

module _ (name : List ℕ) (t : NamedSession) (before : List Command) (st : State) (is : IsNamed name t before st) where
  pub node-is : (path : List (List ℕ)) → node_at st name path ≡ node_on before t path
  unfolding node_at
  node-is path =
      ap (λ o. ok_or o NoSession >>= (λ u. ok_or (path_node (seen u.session st.history).rows 0 path) NoSuchPath >>= (λ node. Ok (u, node)))) is.there
      ∙ ap (λ h. node_on h t path) is.same

  pub added-is : (es : List Edit)
      → added st name es ≡ (by_code session_code (unless (fault_on before (without_sides t) es) (with_session st.sessions (grown t es))) >>= (λ ss. Ok (with_sessions st ss)))
  added-is es =
      ap (λ o. by_code session_code (taken_by st.history st.sessions es o) >>= (λ ss. Ok (with_sessions st ss))) is.there
      ∙ ap (λ h. by_code session_code (unless (fault_on h (without_sides t) es) (with_session st.sessions (grown t es))) >>= (λ ss. Ok (with_sessions st ss))) is.same

  -- the session when it has taken more edits
  pub has-grown : (es : List Edit) → HasSession name (with_more (without_sides t) es) before (with_sessions st (with_session st.sessions (grown t es)))
  has-grown es = record {
    there =
        ap (option_map without_sides) (named-changed st.sessions name t (grown t es) (named-has st.sessions name t is.there) is.there)
        ∙ ap (λ fs. Some (with_edits (without_sides t) fs)) (edits-grown t.session t.side es);
    within = is.within;
    same = is.same;
  }
