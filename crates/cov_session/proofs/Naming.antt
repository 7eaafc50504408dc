-- Sessions by their names: what is done to them with their views and without.
use Rattle.std.proofs.Common.{◌≡◌, ◌∙◌, refl, sym, ap, subst, ℕ, Bool, true, false, cond, not, List, [], ◌∷◌, ◌++◌, map, filter, Some, None, option_map, Result, Ok, Err}
use Rattle.std.specs.Prelude.{OnOk, OnErr}
use Rattle.std.specs.List.{find}
use Rattle.std.specs.Str.{bytes_eq}
use Rattle.std.proofs.lemmas.Slice.Eq.{bytes_eq-Decides}
use Rattle.cov_base.proofs.CallerLemmas.{all-append, all-filter, all-map}
use Rattle.cov_edit.specs.declared.command.Command.{Command}
use Rattle.cov_session.specs.Calls.{AreOpen, HasEnded, IsOfName}
use Rattle.cov_session.specs.Laws.{OpenSessionsStay}
use Rattle.cov_session.specs.Named.{named, with_session, without}
use Rattle.cov_session.specs.Open.{NamedSession, SessionValue, as_named, IsOpen}
use Rattle.cov_session.proofs.Keeping.{has_name}

-- the session of a name is found without its view too
pub named-same : (name : List ℕ) (ss : List SessionValue) → named (map as_named ss) name ≡ option_map as_named (find (has_name name) ss)
named-same name [] = refl
named-same name (s ∷ ss) = at (has_name name s) (named-same name ss)
  where
    at : (b : Bool) → named (map as_named ss) name ≡ option_map as_named (find (has_name name) ss)
        → cond b (Some (as_named s)) (named (map as_named ss) name) ≡ option_map as_named (cond b (Some s) (find (has_name name) ss))
    at true rest = refl
    at false rest = rest

pub named-some : (name : List ℕ) (ss : List SessionValue) (s : SessionValue) → IsOfName ss name s → named (map as_named ss) name ≡ Some (as_named s)
named-some name ss s h = named-same name ss ∙ ap (option_map as_named) h

pub named-none : (name : List ℕ) (ss : List SessionValue) → find (has_name name) ss ≡ None → named (map as_named ss) name ≡ None
named-none name ss h = named-same name ss ∙ ap (option_map as_named) h

-- the session that is found by a name has it
pub its-name : (name : List ℕ) (ss : List SessionValue) (s : SessionValue) → IsOfName ss name s → s.name ≡ name
its-name name [] s h = absurd (cc)
its-name name (t ∷ ss) s h = at (has_name name t) refl h (its-name name ss s)
  where
    at : (b : Bool) → has_name name t ≡ b → cond b (Some t) (find (has_name name) ss) ≡ Some s → (IsOfName ss name s → s.name ≡ name) → s.name ≡ name
    at true e k rest = let same : t ≡ s = cc in sym (ap (λ (u : SessionValue). u.name) same) ∙ (bytes_eq-Decides t.name name).0 e
    at false e k rest = rest k

-- the sessions with one in the place of that of its name
abbrev pub replaced : SessionValue → List SessionValue → List SessionValue
replaced t ss = map (λ u. cond (has_name t.name u) t u) ss

pub named-replaced : (t : SessionValue) (ss : List SessionValue) → map as_named (replaced t ss) ≡ with_session (map as_named ss) (as_named t)
named-replaced t [] = refl
named-replaced t (u ∷ ss) = at (has_name t.name u) ∙ ap (λ l. cond (has_name t.name u) (as_named t) (as_named u) ∷ l) (named-replaced t ss)
  where
    at : (b : Bool) → as_named (cond b t u) ∷ map as_named (replaced t ss) ≡ cond b (as_named t) (as_named u) ∷ map as_named (replaced t ss)
    at true = refl
    at false = refl

pub named-without : (name : List ℕ) (ss : List SessionValue) → map as_named (filter (λ u. not (has_name name u)) ss) ≡ without (map as_named ss) name
named-without name [] = refl
named-without name (s ∷ ss) = at (has_name name s) (named-without name ss)
  where
    at : (b : Bool) → map as_named (filter (λ u. not (has_name name u)) ss) ≡ without (map as_named ss) name
        → map as_named (cond (not b) (s ∷ filter (λ u. not (has_name name u)) ss) (filter (λ u. not (has_name name u)) ss)) ≡ cond (not b) (as_named s ∷ without (map as_named ss) name) (without (map as_named ss) name)
    at true rest = rest
    at false rest = ap (λ l. as_named s ∷ l) rest

-- where no session has the name, none is left out
pub without-none : (name : List ℕ) (ss : List NamedSession) → named ss name ≡ None → without ss name ≡ ss
without-none name [] h = refl
without-none name (s ∷ ss) h = at (bytes_eq s.name name) h (without-none name ss)
  where
    at : (b : Bool) → cond b (Some s) (named ss name) ≡ None → (named ss name ≡ None → without ss name ≡ ss) → cond (not b) (s ∷ without ss name) (without ss name) ≡ s ∷ ss
    at true k rest = absurd (cc)
    at false k rest = ap (λ l. s ∷ l) (rest k)

-- what a discard leaves, refused or not
pub has-ended : {X E : Type 0} (name : List ℕ) (before after : List SessionValue) (done : Result X E)
    → OnOk done (map as_named after ≡ without (map as_named before) name) → OnErr done (named (map as_named before) name ≡ None) → OnErr done (after ≡ before)
    → ((history : List Command) → AreOpen history before → AreOpen history after) → HasEnded (Some name) before after
has-ended name before after (Ok x) left none same stays = record { left = left; stays = stays }
has-ended name before after (Err e) left none same stays = record { left = ap (map as_named) same ∙ sym (without-none name (map as_named before) none); stays = stays }

-- an open session of a name is open
pub named-open : (history : List Command) (name : List ℕ) (ss : List SessionValue) (s : SessionValue) → AreOpen history ss → IsOfName ss name s → IsOpen history s
named-open history name [] s here h = absurd (cc)
named-open history name (t ∷ ss) s here h = at (has_name name t) h (named-open history name ss s here.1)
  where
    at : (b : Bool) → cond b (Some t) (find (has_name name) ss) ≡ Some s → (IsOfName ss name s → IsOpen history s) → IsOpen history s
    at true k rest = let same : t ≡ s = cc in subst (IsOpen history) same here.0
    at false k rest = rest k

pub open-replaced : (history : List Command) (t : SessionValue) (ss : List SessionValue) → IsOpen history t → AreOpen history ss → AreOpen history (replaced t ss)
open-replaced history t [] one here = tt
open-replaced history t (u ∷ ss) one here = (at (has_name t.name u), open-replaced history t ss one here.1)
  where
    at : (b : Bool) → IsOpen history (cond b t u)
    at true = one
    at false = here.0

pub open-without : (history : List Command) (name : List ℕ) (ss : List SessionValue) → AreOpen history ss → AreOpen history (filter (λ u. not (has_name name u)) ss)
open-without history name ss here = all-filter (IsOpen history) (λ u. not (has_name name u)) ss here

pub open-added : (history : List Command) (ss : List SessionValue) (s : SessionValue) → AreOpen history ss → IsOpen history s → AreOpen history (ss ++ s ∷ [])
open-added history ss s here one = all-append (IsOpen history) ss (s ∷ []) here (one, tt)

-- open sessions stay so when their history grows
pub all-stay : OpenSessionsStay → (history later : List Command) (ss : List SessionValue) → AreOpen history ss → AreOpen (history ++ later) ss
all-stay stays history later ss here = all-map (IsOpen history) (IsOpen (history ++ later)) (stays history later) ss here
