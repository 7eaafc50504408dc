-- The turns of a run, and the lines that they come from.
use Rattle.std.proofs.Common.{◌≡◌, ◌∙◌, refl, sym, ap, subst, ℕ, ◌≤◌, arith, List, [], ◌∷◌, ◌++◌, length, take, Option, Some, append-nil}
use Rattle.std.proofs.Math.Seq.{take-append_seam}
use Rattle.cov_base.specs.Lines.{lines_of}
use Rattle.cov_edit.specs.declared.command.Command.{Command}
use Rattle.cov_loop.specs.Outcome.{answers}
use Rattle.cov_loop.specs.Turns.{RowsComeFirst, WritesFront}
use Rattle.cov_out.specs.declared.row.OutRow.{OutRow}
use Rattle.cov_serve.specs.Jobs.{Turn, RowsPrecede, StandsForFront, StandsForTold, history_after, line_turn, line_turns, replies, rows_of, told_line}
use Rattle.cov_lines.specs.States.{State, starting}
use Rattle.cov_lines.specs.Step.{model, step}
use Rattle.cov_serve.specs.declared.status.Status.{Status}
use Rattle.cov_store.specs.Stands.{StandsFor}

-- what turns give is what their lines give
pub replies_as : (st : State) (ls : List (List ℕ)) → replies (line_turns st ls) ≡ (answers step st ls).reply
replies_as st [] = refl
replies_as st (l ∷ ls) = ap (λ r. (step st l).reply ++ r) (replies_as (step st l).state ls)

pub rows_as : (st : State) (ls : List (List ℕ)) → rows_of (line_turns st ls) ≡ (answers step st ls).rows
rows_as st [] = refl
rows_as st (l ∷ ls) = ap (λ r. (step st l).rows ++ r) (rows_as (step st l).state ls)

pub history_as : (st : State) (ls : List (List ℕ)) → history_after st.history (line_turns st ls) ≡ (answers step st ls).state.history
history_as st [] = refl
history_as st (l ∷ ls) = history_as (step st l).state ls

-- the first few turns come from the first few lines
pub record ComeFrom (st : State) (lines : List (List ℕ)) (ts : List Turn) : Type 0 where
  pub first : List (List ℕ)
  pub rest : List (List ℕ)
  pub front : lines ≡ first ++ rest
  pub are : ts ≡ line_turns st first

pub come_from : (st : State) (lines : List (List ℕ)) (ts us : List Turn) → line_turns st lines ≡ ts ++ us → ComeFrom st lines ts
come_from st lines [] us e = record { first = []; rest = lines; front = refl; are = refl }
come_from st [] (t ∷ ts) us e = absurd (cc)
come_from st (l ∷ lines) (t ∷ ts) us e =
    let head : line_turn (step st l) ≡ t = cc in
    let tail : line_turns (step st l).state lines ≡ ts ++ us = cc in
    let on : ComeFrom (step st l).state lines ts = come_from (step st l).state lines ts us tail in
    record {
      first = l ∷ on.first;
      rest = on.rest;
      front = ap (λ ls. l ∷ ls) on.front;
      are = ap (λ x. x ∷ ts) (sym head) ∙ ap (λ xs. line_turn (step st l) ∷ xs) on.are;
    }

module _ (history : List Command) (text : List ℕ) where
  abbrev turns : List Turn
  turns = line_turns (starting history) (lines_of text)

  abbrev last : List Command
  last = (model history text).state.history

  pub last_is : history_after history turns ≡ last
  last_is = history_as (starting history) (lines_of text)

  -- a number that is kept by the replies of turns is kept by those of lines
  module _ (of : List Turn → ℕ) (of_lines : List (List ℕ) → ℕ) (same : (ls : List (List ℕ)) → of (line_turns (starting history) ls) ≡ of_lines ls) (size most : ℕ) where
    pub to_turns : ((ls ms : List (List ℕ)) → lines_of text ≡ ls ++ ms → length (answers step (starting history) ls).reply ≤ size → of_lines ls ≤ most)
        → (ts us : List Turn) → turns ≡ ts ++ us → length (replies ts) ≤ size → of ts ≤ most
    to_turns all ts us e short =
        let on : ComeFrom (starting history) (lines_of text) ts = come_from (starting history) (lines_of text) ts us e in
        let few : length (answers step (starting history) on.first).reply ≤ size =
        subst (λ r. length r ≤ size) (replies_as (starting history) on.first) (subst (λ xs. length (replies xs) ≤ size) on.are short) in
        subst (λ xs. of xs ≤ most) (sym on.are) (subst (λ n. n ≤ most) (sym (same on.first)) (all on.first on.rest on.front few))

  -- rows come first
  pub rows_precede : (before : List ℕ) (rows : List OutRow) (written : Option (List ℕ)) (grown : Option (List OutRow))
      → RowsComeFirst step (starting history) (lines_of text) before rows written grown → RowsPrecede turns before rows written grown
  rows_precede before rows written grown on = record {
    bytes = on.bytes;
    rows = on.rows;
    bytes_are = on.bytes_are;
    rows_are = on.rows_are;
    first = to_turns (λ ts. length (rows_of ts)) (λ ls. length (answers step (starting history) ls).rows) (λ ls. ap length (rows_as (starting history) ls))
        (length on.bytes) (length on.rows) on.first;
  }

  -- what is written
  pub front_served : (before : List ℕ) (written : Option (List ℕ)) → WritesFront before (model history text).reply written → WritesFront before (replies turns) written
  front_served before written h = subst (λ r. WritesFront before r written) (sym (replies_as (starting history) (lines_of text))) h

  pub rows_served : (before : List OutRow) (grown : Option (List OutRow)) → WritesFront before (model history text).rows grown → WritesFront before (rows_of turns) grown
  rows_served before grown h = subst (λ r. WritesFront before r grown) (sym (rows_as (starting history) (lines_of text))) h

-- no turn adds a command
abbrev pub Stay : List Command → List Turn → Type 0
Stay history [] = Unit {0}
Stay history (t ∷ ts) = (t.history ≡ history) × Stay history ts

-- where none does, the history is as before
pub stay_after : (history : List Command) (ts : List Turn) → Stay history ts → history_after history ts ≡ history
stay_after history [] stay = refl
stay_after history (t ∷ ts) (same, stay) = subst (λ h. history_after h ts ≡ history) (sym same) (stay_after history ts stay)

stay_front : (history : List Command) (ts us : List Turn) → Stay history (ts ++ us) → Stay history ts
stay_front history [] us stay = tt
stay_front history (t ∷ ts) us (same, stay) = (same, stay_front history ts us stay)

module _ (history : List Command) (all : List Turn) (stay : Stay history all) where
  last_whole : take (length history) (history_after history all) ≡ history
  last_whole =
      ap (take (length history)) (stay_after history all stay ∙ sym (append-nil history)) ∙ take-append_seam history []

  pub last_stays : (image : List ℕ) → StandsFor image history → StandsFor image (history_after history all)
  last_stays image h = subst (StandsFor image) (sym (stay_after history all stay)) h

  abbrev front_whole : (image : List ℕ) → StandsFor image history → StandsForFront history all image
  front_whole image h = record {
    count = length history;
    least = omega arith;
    most = subst (λ (hs : List Command). length history ≤ length hs) (sym (stay_after history all stay)) (omega arith);
    stands = subst (StandsFor image) (sym last_whole) h;
  }

  pub front_stays : (image : List ℕ) → StandsFor image history → StandsForFront history all image
  front_stays image h = front_whole image h

  pub told_stays : (bytes image : List ℕ) → StandsFor image history → StandsForTold history all bytes image
  told_stays bytes image h = record {
    front = front_whole image h;
    told = λ ts us e short.
        subst (λ (hs : List Command). length hs ≤ length history) (sym (stay_after history ts (stay_front history ts us (subst (Stay history) e stay)))) (omega arith);
  }

-- one line that is told
module _ (status : Status) (line : List ℕ) (history : List Command) where
  abbrev turns_told : List Turn
  turns_told = (told_line status line history).turns

  pub front_told : (before : List ℕ) (written : Option (List ℕ)) → WritesFront before line written → WritesFront before (replies turns_told) written
  front_told before written h = subst (λ r. WritesFront before r written) (sym (append-nil line)) h

  -- no turn of it has rows
  pub no_rows : (ts us : List Turn) → turns_told ≡ ts ++ us → rows_of ts ≡ []
  no_rows [] us e = refl
  no_rows (t ∷ []) us e =
      let same : record { reply = line; rows = []; history = history } ≡ t = cc in
      append-nil t.rows ∙ sym (ap (λ (x : Turn). x.rows) same)
  no_rows (t ∷ n ∷ ts) us e = absurd (cc)

  pub rows_none : (before : List OutRow) (grown : Option (List OutRow)) → grown ≡ Some before → WritesFront before (rows_of turns_told) grown
  rows_none before grown e = record { first = []; rest = []; front = refl; is = e ∙ ap Some (sym (append-nil before)) }

  pub rows_precede_told : (before : List ℕ) (rows : List OutRow) (written : Option (List ℕ)) (grown : Option (List OutRow))
      → WritesFront before line written → grown ≡ Some rows → RowsPrecede turns_told before rows written grown
  rows_precede_told before rows written grown h e = record {
    bytes = h.first;
    rows = [];
    bytes_are = h.is;
    rows_are = e ∙ ap Some (sym (append-nil rows));
    first = λ ts us same short. subst (λ (rs : List OutRow). length rs ≤ 0) (sym (no_rows ts us same)) (omega arith);
  }

  pub front_stands_told : (image : List ℕ) → StandsFor image history → StandsForFront history turns_told image
  front_stands_told image h = front_stays history turns_told (refl, tt) image h

  pub told_stands_told : (bytes image : List ℕ) → StandsFor image history → StandsForTold history turns_told bytes image
  told_stands_told bytes image h = told_stays history turns_told (refl, tt) bytes image h
