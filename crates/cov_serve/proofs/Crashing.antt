-- What a crash leaves of the histories that lines give.
use Rattle.std.proofs.Common.{◌≡◌, ◌∙◌, refl, sym, ap, subst, ℕ, ◌⊎◌, inl, inr, ◌≤◌, arith, List, [], ◌∷◌, ◌++◌, length, take, length-append, append-nil, append_assoc}
use Rattle.std.proofs.Math.Seq.{take-append_seam}
use Rattle.std.proofs.lemmas.List.{nil_from_length}
use Rattle.cov_base.specs.Lines.{lines_of}
use Rattle.cov_edit.specs.declared.command.Command.{Command}
use Rattle.cov_loop.specs.Keeping.{KeepsAnswered, Reaches}
use Rattle.cov_loop.specs.Outcome.{answers}
use Rattle.cov_loop.proofs.CallerLemmas.{nothing_first, nothing_next}
use Rattle.cov_lines.specs.Growth.{step_grows}
use Rattle.cov_serve.specs.Jobs.{StandsForFront, StandsForTold, Turn, history_after, line_turns, replies}
use Rattle.cov_lines.specs.States.{State, starting}
use Rattle.cov_lines.specs.Step.{step}
use Rattle.cov_lines.specs.Storing.{count, stored}
use Rattle.cov_store.specs.Stands.{IsStored, StandsFor}
use Rattle.cov_serve.proofs.Turns.{history_as, last_is, to_turns}

-- one line keeps the history, or adds a command and has a reply
abbrev Grows : State → List ℕ → Type 0
Grows st line = ((step st line).state.history ≡ st.history) ⊎ ((command : Command) × ((step st line).state.history ≡ st.history ++ command ∷ []) × ((step st line).reply ≡ [] → ⊥))

-- a history goes on
abbrev pub GoesOn : List Command → List Command → Type 0
GoesOn old new = (more : List Command) × (new ≡ old ++ more)

-- lines add commands, and take none away
pub grown_by : (st : State) (ls : List (List ℕ)) → GoesOn st.history (answers step st ls).state.history
grown_by st [] = ([], sym (append-nil st.history))
grown_by st (l ∷ ls) = at (step_grows st l) (grown_by (step st l).state ls)
  where
    at : Grows st l → GoesOn (step st l).state.history (answers step (step st l).state ls).state.history → GoesOn st.history (answers step (step st l).state ls).state.history
    at (inl same) (more, is) = (more, is ∙ ap (λ h. h ++ more) same)
    at (inr (command, added, reply)) (more, is) = (command ∷ more, is ∙ ap (λ h. h ++ more) added ∙ append_assoc st.history (command ∷ []) more)

-- and so do those that follow
pub goes_further : (st : State) (ls ms : List (List ℕ)) → GoesOn (answers step st ls).state.history (answers step st (ls ++ ms)).state.history
goes_further st [] ms = grown_by st ms
goes_further st (l ∷ ls) ms = goes_further (step st l).state ls ms

-- lines without a reply add no command
quiet : (st : State) (ls : List (List ℕ)) → (answers step st ls).reply ≡ [] → (answers step st ls).state.history ≡ st.history
quiet st [] h = refl
quiet st (l ∷ ls) h = at (step_grows st l) (quiet (step st l).state ls (nothing_next (step st l).reply (answers step (step st l).state ls).reply h))
  where
    at : Grows st l → (answers step (step st l).state ls).state.history ≡ (step st l).state.history → (answers step (step st l).state ls).state.history ≡ st.history
    at (inl same) rest = rest ∙ same
    at (inr (command, added, reply)) rest = absurd (reply (nothing_first (step st l).reply (answers step (step st l).state ls).reply h))

-- what is stored for a history stands for it
pub stands_for : (image : List ℕ) (history : List Command) → IsStored image history → StandsFor image history
stands_for image history is = record { legal = is.legal; fits = is.fits; holds = inr is.written }

module _ (history : List Command) (text : List ℕ) where
  abbrev turns : List Turn
  turns = line_turns (starting history) (lines_of text)

  -- the history after all of the lines
  abbrev last : List Command
  last = history_after history turns

  -- the history after the first few of the lines
  abbrev reached : List (List ℕ) → List Command
  reached ls = (answers step (starting history) ls).state.history

  least : (ls : List (List ℕ)) → length history ≤ length (reached ls)
  least ls = let on = grown_by (starting history) ls in omega (arith, ap length on.1, length-append history on.0)

  further : (ls ms : List (List ℕ)) → lines_of text ≡ ls ++ ms → GoesOn (reached ls) last
  further ls ms e = subst (GoesOn (reached ls)) (sym (last_is history text)) (subst (λ all. GoesOn (reached ls) (reached all)) (sym e) (goes_further (starting history) ls ms))

  most : (ls ms : List (List ℕ)) → lines_of text ≡ ls ++ ms → length (reached ls) ≤ length last
  most ls ms e = let on = further ls ms e in omega (arith, ap length on.1, length-append (reached ls) on.0)

  taken : (ls ms : List (List ℕ)) → lines_of text ≡ ls ++ ms → take (length (reached ls)) last ≡ reached ls
  taken ls ms e = let on = further ls ms e in ap (take (length (reached ls))) on.1 ∙ take-append_seam (reached ls) on.0

  -- an image that stands for the history after the first few of the lines
  abbrev front_at : (ls ms : List (List ℕ)) → lines_of text ≡ ls ++ ms → (image : List ℕ) → StandsFor image (reached ls) → StandsForFront history turns image
  front_at ls ms e image stands = record {
    count = length (reached ls);
    least = least ls;
    most = most ls ms e;
    stands = subst (StandsFor image) (sym (taken ls ms e)) stands;
  }

  -- before the first line
  pub front_first : (image : List ℕ) → StandsFor image history → StandsForFront history turns image
  front_first image stands = front_at [] (lines_of text) refl image stands

  -- after some lines
  pub front_reached : (image : List ℕ) → Reaches step stored (starting history) (lines_of text) image → StandsForFront history turns image
  front_reached image on = front_at on.first on.rest on.front image (stands_for image (reached on.first) on.stands)

  -- what holds of the lines whose replies are written holds of the turns
  all_told : (size few : ℕ) → ((ls ms : List (List ℕ)) → lines_of text ≡ ls ++ ms → length (answers step (starting history) ls).reply ≤ size → length (reached ls) ≤ few)
      → (ts us : List Turn) → turns ≡ ts ++ us → length (replies ts) ≤ size → length (history_after history ts) ≤ few
  all_told size few = to_turns history text (λ ts. length (history_after history ts)) (λ ls. length (reached ls)) (λ ls. ap length (history_as (starting history) ls)) size few

  -- nothing is written
  pub told_none : (image : List ℕ) → StandsFor image history → StandsForTold history turns [] image
  told_none image stands = record {
    front = front_at [] (lines_of text) refl image stands;
    told = all_told 0 (length history) (λ ls ms e short.
        let same : reached ls ≡ history = quiet (starting history) ls (nil_from_length (answers step (starting history) ls).reply (omega (arith, short))) in
        omega (arith, ap length same));
  }

  -- some replies are written
  pub told_reached : (bytes image : List ℕ) → KeepsAnswered step stored count (starting history) (lines_of text) bytes image → StandsForTold history turns bytes image
  told_reached bytes image on = record {
    front = front_at on.first on.rest on.front image (stands_for image (reached on.first) on.stands);
    told = all_told (length bytes) (length (reached on.first)) on.answered;
  }
