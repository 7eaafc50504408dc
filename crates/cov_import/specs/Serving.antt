-- What lines do that ask for the commits of an import.
use Rattle.std.specs.Prelude.{◌≡◌, ◌≢◌, ℕ, ◌+◌, ◌-◌, ◌<◌, ◌≤◌, Bool, true, false, not, nat_eq, List, [], ◌∷◌, ◌++◌, length, slice_get, Option, Some, None, option_map, Ok, Err, if◌then◌else◌}
use Rattle.std.proofs.Common.{◌⊎◌, inl, inr, refl, sym, ap, subst, arith}
use Rattle.std.proofs.lemmas.Bool.{false≢true}
use Rattle.std.proofs.lemmas.List.{length-append}
use Rattle.cov_base.specs.declared.limits.TheConstants.{MOST_SCRIPT_LINE_BYTES}
use Rattle.cov_codes.specs.Codes.{refusal_code}
use Rattle.cov_edit.specs.declared.command.Command.{Command}
use Rattle.cov_history.specs.Verdict.{verdict}
use Rattle.cov_history.specs.declared.refusal.Refusal.{Refusal}
use Rattle.cov_lines.specs.Adding.{commit_added}
use Rattle.cov_lines.specs.Finding.{◌>>=◌}
use Rattle.cov_lines.specs.Growth.{no_reply}
use Rattle.cov_lines.specs.States.{ServerValue, State, with_command}
use Rattle.cov_lines.specs.Step.{Act, as_outcome, plainly}
use Rattle.cov_lines.specs.Storing.{count, gated, stored}
use Rattle.cov_lines.specs.Sweeping as sweeping
use Rattle.cov_loop.specs.Answers.{is_passed_over}
use Rattle.cov_loop.specs.Outcome.{Outcome, unchanged}
use Rattle.cov_script.specs.Replies.{commit_reply}
use Rattle.cov_session.specs.Faults.{unless}
use Rattle.cov_store.specs.Stands.{IsStored}

-- what a run has made so far, the commits that it adds, and how many commands there were before them
pub record Importing : Type 0 where
  pub state : State
  pub commits : List Command
  pub base : ℕ

-- the same of a server
pub record ImportValue : Type 0 where
  pub server : ServerValue
  pub commits : List Command
  pub base : ℕ

abbrev pub importing : ImportValue → Importing
importing s = record { state = s.server.state; commits = s.commits; base = s.base }

-- whether a line asks for a commit: it has one byte, which is no hash
abbrev pub asks : List ℕ → Bool
asks [] = false
asks (b ∷ []) = not (nat_eq b 35)
asks (b ∷ c ∷ bs) = false

-- the commit that is next, if one is left
abbrev pub next_commit : Importing → Option Command
next_commit s = slice_get s.commits (length s.state.history - s.base)

-- the commit for which a line asks
abbrev pub next_asked : Importing → List ℕ → Option Command
next_asked s line = if asks line then next_commit s else None

-- what is done to the state of a server, as what is done to one that adds commits
abbrev pub onto : Importing → Outcome State → Outcome Importing
onto s o = record {
  state = record { state = o.state; commits = s.commits; base = s.base };
  reply = o.reply;
  rows = o.rows;
  is_refused = o.is_refused;
}

-- a commit is added, if there is one
abbrev pub with_next : Importing → Option Command → Outcome Importing
with_next s None = unchanged s
with_next s (Some command) = onto s (as_outcome s.state (plainly (commit_added s.state command)))

-- what a line does
unfoldable pub import_step : Importing → List ℕ → Outcome Importing
import_step s line = with_next s (next_asked s line)

-- these bytes are the store of the history
abbrev pub import_stored : Importing → List ℕ → Type 0
import_stored s image = stored s.state image

-- the gate behind the history is among these bytes
abbrev pub import_gate : Importing → List ℕ → Type 0
import_gate s bytes = gated s.state bytes

-- how many commands there are
abbrev pub import_count : Importing → ℕ
import_count s = count s.state

-- the server counts the commits, and is swept with each 64th
abbrev pub import_goes_on : ImportValue → ImportValue → Type 0
import_goes_on old new = sweeping.GoesOn old.server new.server

pub goes_on_same : (s : ImportValue) → import_goes_on s s
goes_on_same s = sweeping.goes_on_same s.server

-- what becomes of a commit: it is accepted, or refused
abbrev pub Comes : State → Command → Type 0
Comes st k = ((verdict st.history k ≡ None) × (commit_added st k ≡ Ok (with_command st k, commit_reply (length st.history + 1))))
    ⊎ ((refusal : Refusal) × (verdict st.history k ≡ Some refusal) × (commit_added st k ≡ Err (refusal_code refusal)))

pub commit_comes : (st : State) (k : Command) → Comes st k
commit_comes st k = at (verdict st.history k) refl
  where
    at : (v : Option Refusal) → verdict st.history k ≡ v → Comes st k
    at None e = inl (e, ap (λ o. unless (option_map refusal_code o) (with_command st k) >>= (λ next. Ok (next, commit_reply (length st.history + 1)))) e)
    at (Some refusal) e = inr (refusal, e, ap (λ o. unless (option_map refusal_code o) (with_command st k) >>= (λ next. Ok (next, commit_reply (length st.history + 1)))) e)

module _ (st : State) where
  told_so : (act : Act) → (as_outcome st (plainly act)).is_refused ≡ true → (as_outcome st (plainly act)).reply ≢ []
  told_so (Ok done) h = λ e. false≢true h
  told_so (Err code) h = λ e. false≢true (ap no_reply e)

  kept_so : (act : Act) → (as_outcome st (plainly act)).is_refused ≡ true → (as_outcome st (plainly act)).state ≡ st
  kept_so (Ok done) h = absurd (false≢true h)
  kept_so (Err code) h = refl

  rowless : (act : Act) → (as_outcome st (plainly act)).rows ≡ []
  rowless (Ok done) = refl
  rowless (Err code) = refl

  -- each commit has a reply
  replied : (k : Command) → (as_outcome st (plainly (commit_added st k))).reply ≢ []
  replied k = at (commit_comes st k)
    where
      at : Comes st k → (as_outcome st (plainly (commit_added st k))).reply ≢ []
      at (inl (accepted, is)) = subst (λ act. (as_outcome st (plainly act)).reply ≢ []) (sym is) (λ e. false≢true (ap no_reply e))
      at (inr (refusal, refused, is)) = subst (λ act. (as_outcome st (plainly act)).reply ≢ []) (sym is) (λ e. false≢true (ap no_reply e))

  -- a commit that is accepted is the last of the history then, and one that is refused changes nothing
  grows : (k : Command) → ((as_outcome st (plainly (commit_added st k))).state.history ≡ st.history ++ k ∷ []) ⊎ ((as_outcome st (plainly (commit_added st k))).state.history ≡ st.history)
  grows k = at (commit_comes st k)
    where
      at : Comes st k → ((as_outcome st (plainly (commit_added st k))).state.history ≡ st.history ++ k ∷ []) ⊎ ((as_outcome st (plainly (commit_added st k))).state.history ≡ st.history)
      at (inl (accepted, is)) = inl (ap (λ act. (as_outcome st (plainly act)).state.history) is)
      at (inr (refusal, refused, is)) = inr (ap (λ act. (as_outcome st (plainly act)).state.history) is)

-- a refused line has a reply
pub refusal_told : (s : Importing) (line : List ℕ) → (import_step s line).is_refused ≡ true → (import_step s line).reply ≢ []
unfolding import_step
refusal_told s line h = at (next_asked s line) h
  where
    at : (next : Option Command) → (with_next s next).is_refused ≡ true → (with_next s next).reply ≢ []
    at None h = λ e. false≢true h
    at (Some k) h = told_so s.state (commit_added s.state k) h

-- it changes nothing
pub refused_kept : (s : Importing) (line : List ℕ) → (import_step s line).is_refused ≡ true → (import_step s line).state ≡ s
unfolding import_step
refused_kept s line h = at (next_asked s line) h
  where
    at : (next : Option Command) → (with_next s next).is_refused ≡ true → (with_next s next).state ≡ s
    at None h = refl
    at (Some k) h = ap (λ st. record { state = st; commits = s.commits; base = s.base }) (kept_so s.state (commit_added s.state k) h)

-- no line writes a row
pub rows_told : (s : Importing) (line : List ℕ) → (import_step s line).reply ≡ [] → (import_step s line).rows ≡ []
unfolding import_step
rows_told s line h = at (next_asked s line)
  where
    at : (next : Option Command) → (with_next s next).rows ≡ []
    at None = refl
    at (Some k) = rowless s.state (commit_added s.state k)

-- a line of too many bytes asks for nothing
unasked_long : (line : List ℕ) → MOST_SCRIPT_LINE_BYTES < length line → asks line ≡ false
unasked_long [] h = refl
unasked_long (b ∷ []) h = absurd (omega (arith, h))
unasked_long (b ∷ c ∷ bs) h = refl

pub long_unasked : (s : Importing) (line : List ℕ) → MOST_SCRIPT_LINE_BYTES < length line → import_step s line ≡ unchanged s
unfolding import_step
long_unasked s line h = ap (λ b. with_next s (if b then next_commit s else None)) (unasked_long line h)

pub long_kept : (s : Importing) (line : List ℕ) → MOST_SCRIPT_LINE_BYTES < length line → (import_step s line).state ≡ s
long_kept s line h = ap (λ (o : Outcome Importing). o.state) (long_unasked s line h)

-- so does an empty line, and a comment
unasked_silent : (line : List ℕ) → is_passed_over line ≡ true → asks line ≡ false
unasked_silent [] h = refl
unasked_silent (b ∷ []) h = ap not h
unasked_silent (b ∷ c ∷ bs) h = refl

pub silent_kept : (s : Importing) (line : List ℕ) → is_passed_over line ≡ true → import_step s line ≡ unchanged s
unfolding import_step
silent_kept s line h = ap (λ b. with_next s (if b then next_commit s else None)) (unasked_silent line h)

-- a line without a reply adds no command
without_reply : (s : Importing) (line : List ℕ) → (import_step s line).reply ≡ [] → import_step s line ≡ unchanged s
unfolding import_step
without_reply s line h = at (next_asked s line) h
  where
    at : (next : Option Command) → (with_next s next).reply ≡ [] → with_next s next ≡ unchanged s
    at None h = refl
    at (Some k) h = absurd (replied s.state k h)

pub commands_told : (s : Importing) (line : List ℕ) → (import_step s line).reply ≡ [] → import_count (import_step s line).state ≤ import_count s
commands_told s line h = omega (arith, ap (λ (o : Outcome Importing). length o.state.state.history) (without_reply s line h))

-- what is stored stays so after it
pub stored_told : (s : Importing) (line bytes : List ℕ) → (import_step s line).reply ≡ [] → import_stored s bytes → import_stored (import_step s line).state bytes
stored_told s line bytes h here = subst (λ (o : Outcome Importing). IsStored bytes o.state.state.history) (sym (without_reply s line h)) here

-- no line takes a command away
pub counts_rise : (s : Importing) (line : List ℕ) → import_count s ≤ import_count (import_step s line).state
unfolding import_step
counts_rise s line = at (next_asked s line)
  where
    at : (next : Option Command) → import_count s ≤ import_count (with_next s next).state
    at None = omega arith
    at (Some k) = of (grows s.state k)
      where
        of : ((as_outcome s.state (plainly (commit_added s.state k))).state.history ≡ s.state.history ++ k ∷ []) ⊎ ((as_outcome s.state (plainly (commit_added s.state k))).state.history ≡ s.state.history)
            → import_count s ≤ import_count (with_next s (Some k)).state
        of (inl more) = omega (arith, ap length more, length-append s.state.history (k ∷ []))
        of (inr same) = omega (arith, ap length same)
