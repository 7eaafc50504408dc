-- Sessions are isolated.
use Rattle.std.proofs.Common.{◌≡◌, ◌∙◌, refl, sym, ap, subst, ℕ, Bool, true, false, cond, List, [], ◌∷◌, take, Some}
use Rattle.cov_edit.specs.declared.command.Command.{Command}
use Rattle.cov_lines.specs.Isolation.{HasSession, SeeAlike, SessionsAreIsolated, StaysOpen, UnsidedSession, after, is_own, own_replies, own_script}
use Rattle.cov_lines.specs.States.{State}
use Rattle.cov_lines.specs.Step.{step}
use Rattle.cov_lines.proofs.OthersLines.{others-leave}
use Rattle.cov_lines.proofs.OwnActs.{named-there}
use Rattle.cov_lines.proofs.OwnLines.{own-alike}

-- two runs give a session's own lines the same replies, and their states in the end see it alike
abbrev EndAlike : List ℕ → State → State → List (List ℕ) → List (List ℕ) → Type 0
EndAlike name one other script another = (own_replies name one script ≡ own_replies name other another) × SeeAlike name (after one script) (after other another)

-- a run over all lines, and one over the session's own lines alone
alone : (name : List ℕ) (one other : State) (script : List (List ℕ)) → SeeAlike name one other → StaysOpen name one script → EndAlike name one other script (own_script name script)
alone name one other [] alike stays = (refl, alike)
alone name one other (line ∷ script) alike stays =
    at (is_own name line) refl
    (λ k. alone name (step one line).state (step other line).state script k stays.1)
    (λ k. alone name (step one line).state other script k stays.1)
  where
    at : (b : Bool) → is_own name line ≡ b
        → (SeeAlike name (step one line).state (step other line).state → EndAlike name (step one line).state (step other line).state script (own_script name script))
        → (SeeAlike name (step one line).state other → EndAlike name (step one line).state other script (own_script name script))
        → (cond b ((step one line).reply ∷ own_replies name (step one line).state script) (own_replies name (step one line).state script)
        ≡ own_replies name other (cond b (line ∷ own_script name script) (own_script name script)))
        × SeeAlike name (after one (line ∷ script)) (after other (cond b (line ∷ own_script name script) (own_script name script)))
    at true e both first =
        let t = named-there name alike.session alike.before one alike.in_one in
        let u = named-there name alike.session alike.before other alike.in_other in
        let now = own-alike name t.session u.session alike.before one other t.named_there u.named_there (t.is ∙ sym u.is) line e in
        let rest = both now.1 in (
          ap (λ r. r ∷ own_replies name (step one line).state script) now.0
              ∙ ap (λ rs. (step other line).reply ∷ rs) rest.0
              ∙ sym (ap (λ c. let more = own_replies name (step other line).state (own_script name script) in cond c ((step other line).reply ∷ more) more) e),
          rest.1,
        )
    at false e both first =
        let kept = others-leave name alike.session alike.before one alike.in_one line e stays.0 in
        first (record { session = alike.session; before = alike.before; in_one = kept; in_other = alike.in_other })

-- the session of a name is one
same-session : (name : List ℕ) (s t : UnsidedSession) (before past : List Command) (st : State) → HasSession name s before st → HasSession name t past st → (s ≡ t) × (before ≡ past)
same-session name s t before past st h k =
    let same = some-same s t (sym h.there ∙ k.there) in
    (same, sym h.same ∙ ap (λ u. take u.base st.history) same ∙ k.same)
  where
    some-same : (s t : UnsidedSession) → Some s ≡ Some t → s ≡ t
    some-same s t e = cc

-- through a state that both see alike
through : (name : List ℕ) (one middle other : State) → SeeAlike name one middle → SeeAlike name other middle → SeeAlike name one other
through name one middle other first second =
    let same = same-session name first.session second.session first.before second.before middle first.in_other second.in_other in
    record {
      session = first.session;
      before = first.before;
      in_one = first.in_one;
      in_other = subst (λ h. HasSession name first.session h other) (sym same.1) (subst (λ s. HasSession name s second.before other) (sym same.0) second.in_one);
    }

pub isolated : SessionsAreIsolated
isolated name one other script another alike first_stays stays same =
    let first = alone name one other script alike first_stays in
    let second = alone name other other another (record { session = alike.session; before = alike.before; in_one = alike.in_other; in_other = alike.in_other }) stays in (
      first.0 ∙ ap (own_replies name other) same ∙ sym second.0,
      through name (after one script) (after other (own_script name another)) (after other another) (subst (λ ls. SeeAlike name (after one script) (after other ls)) same first.1) second.1,
    )
