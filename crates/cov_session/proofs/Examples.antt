-- Worked cases of how many sessions are open, and of their sides.
use Rattle.std.specs.Prelude.{◌≡◌, ℕ, true, List, [], ◌∷◌, map, replicate, Ok, Err, codes, refl}
use Rattle.cov_base.specs.declared.number.Kind.TheVariants.{File}
use Rattle.cov_base.specs.declared.number.NodeRef.TheVariants.{Old}
use Rattle.cov_expr.specs.Formula.{False, True, On, Not, And, Or}
use Rattle.cov_edit.specs.Sides.{sided}
use Rattle.cov_edit.specs.declared.edit.Edit.TheVariants as edits
use Rattle.cov_history.specs.Sessions.{Session}
use Rattle.cov_session.specs.Adding.{with_edits}
use Rattle.cov_session.specs.Calls.{opened_among, side_set, taken}
use Rattle.cov_session.specs.Open.{NamedSession}
use Rattle.cov_session.specs.Opening.{new_session}
use Rattle.cov_session.specs.Siding.{with_side}
use Rattle.cov_session.specs.declared.fault.SessionFault.TheVariants as faults
use Rattle.cov_session.specs.declared.sessions.TheConstants.{MOST_SESSIONS}

limit : MOST_SESSIONS ≡ 64
limit = refl

-- a session on the one choice of no options
abbrev empty_session : Session
empty_session = new_session [] True []

-- so many sessions, each with the name a
abbrev open_sessions : ℕ → List NamedSession
open_sessions count = replicate count (record { name = codes "a"; side = True; session = empty_session })

-- the 64th session is opened, the 65th is refused, and a name that an open one has is refused before that
sessions_at_the_limit : map (λ count. opened_among [] (open_sessions count) (codes "b") [] True) (0 ∷ 63 ∷ 64 ∷ [])
    ≡ Ok empty_session ∷ Ok empty_session ∷ Err faults.TooManySessions ∷ []
sessions_at_the_limit = refl

name_before_limit : opened_among [] (open_sessions 64) (codes "a") [] True ≡ Err faults.SessionExists
name_before_limit = refl

-- a session whose choice turns its one option on
abbrev with_option : NamedSession
with_option = record { name = codes "s"; side = True; session = new_session [] True (true ∷ []) }

-- a side is refused for its first late option from the left, also where it is false, then where it is false, and is current else
sides_of_a_session : map (side_set (with_option ∷ []) (codes "s")) (Or (On 2) (On 1) ∷ And False (On 1) ∷ Not (On 0) ∷ On 0 ∷ [])
    ≡ Err (faults.LateOption 2) ∷ Err (faults.LateOption 1) ∷ Err faults.OutsideSide ∷ Ok (with_side with_option (On 0) ∷ []) ∷ []
sides_of_a_session = refl

side_of_no_session : side_set (with_option ∷ []) (codes "t") (On 2) ≡ Err faults.NoSession
side_of_no_session = refl

-- an edit has the side that is current
edit_on_its_side : taken [] (with_side with_option (On 0) ∷ []) (codes "s") (edits.New File (Old 0) (codes "m") ∷ [])
    ≡ Ok (record { name = codes "s"; side = On 0; session = with_edits (new_session [] True (true ∷ [])) (sided (On 0) (edits.New File (Old 0) (codes "m")) ∷ []) } ∷ [])
edit_on_its_side = refl
