-- The turns of lines behind others whose replies aren't told, and what a crash leaves of them.
use Rattle.std.proofs.Common.{◌≡◌, ◌∙◌, ◌⊎◌, inl, inr, refl, sym, ap, subst, ℕ, ◌+◌, ◌<◌, ◌≤◌, arith, List, [], ◌∷◌, ◌++◌, length, take, length-append, append-nil, append_assoc, Option, Some}
use Rattle.std.proofs.Math.Seq.{take-append_seam}
use Rattle.std.proofs.lemmas.List.{nil_from_length}
use Rattle.cov_base.specs.Lines.{lines_of}
use Rattle.cov_edit.specs.declared.command.Command.{Command}
use Rattle.cov_loop.specs.Outcome.{Outcome, answers}
use Rattle.cov_loop.specs.Turns.{WritesFront}
use Rattle.cov_out.specs.declared.row.OutRow.{OutRow}
use Rattle.cov_serve.specs.Jobs.{RowsPrecede, StandsForFront, StandsForTold, Turn, behind_rows, history_after, line_turns, replies, rows_of, turns_after}
use Rattle.cov_lines.specs.States.{State, starting}
use Rattle.cov_lines.specs.Step.{model, step}
use Rattle.cov_lines.specs.Storing.{count, stored}
use Rattle.cov_serve.specs.TextServing.{KeepsAfter, ReachesAfter, RowsComeAfter, answers_after, rows_after}
use Rattle.cov_store.specs.Stands.{StandsFor}
use Rattle.cov_serve.proofs.Crashing.{GoesOn, goes_further, grown_by, stands_for}
use Rattle.cov_serve.proofs.Turns.{ComeFrom, come_from, history_as, replies_as, rows_as}

-- what holds of what was served holds of that which it is
pub at_texts : (P : State → List ℕ → List ℕ → Type 0) (st start : State) (made first told second : List ℕ) → st ≡ start → made ≡ first → told ≡ second → P st made told → P start first second
at_texts P st start made first told second s f t h =
    subst (λ x. P x first second) s (subst (λ x. P st x second) f (subst (λ x. P st made x) t h))

-- turns and one more
replies_more : (ts : List Turn) (t : Turn) → replies (ts ++ t ∷ []) ≡ replies ts ++ t.reply
replies_more [] t = append-nil t.reply
replies_more (u ∷ ts) t = ap (λ r. u.reply ++ r) (replies_more ts t) ∙ sym (append_assoc u.reply (replies ts) t.reply)

rows_more : (ts : List Turn) (t : Turn) → t.rows ≡ [] → rows_of (ts ++ t ∷ []) ≡ rows_of ts
rows_more [] t none = append-nil t.rows ∙ none
rows_more (u ∷ ts) t none = ap (λ r. u.rows ++ r) (rows_more ts t none)

history_more : (history : List Command) (ts : List Turn) (t : Turn) → history_after history (ts ++ t ∷ []) ≡ t.history
history_more history [] t = refl
history_more history (u ∷ ts) t = history_more u.history ts t

-- rows before the first reply change no reply and no history
replies_behind : (rows : List OutRow) (ts : List Turn) → replies (behind_rows rows ts) ≡ replies ts
replies_behind rows [] = refl
replies_behind rows (t ∷ ts) = refl

history_behind : (rows : List OutRow) (history : List Command) (ts : List Turn) → history_after history (behind_rows rows ts) ≡ history_after history ts
history_behind rows history [] = refl
history_behind rows history (t ∷ ts) = refl

rows_behind : (rows : List OutRow) (ts : List Turn) (t : Turn) → rows_of (behind_rows rows (ts ++ t ∷ [])) ≡ rows ++ rows_of (ts ++ t ∷ [])
rows_behind rows [] t = append_assoc rows t.rows []
rows_behind rows (u ∷ ts) t = append_assoc rows u.rows (rows_of (ts ++ t ∷ []))

few_behind : (rows : List OutRow) (ts : List Turn) → length (rows_of (behind_rows rows ts)) ≤ length rows + length (rows_of ts)
few_behind rows [] = omega arith
few_behind rows (t ∷ ts) = omega (arith, length-append (rows ++ t.rows) (rows_of ts), length-append rows t.rows, length-append t.rows (rows_of ts))

-- the first few of turns and one more are the first few of these, or all
front_of_more : (xs : List Turn) (x : Turn) (ts us : List Turn) → xs ++ x ∷ [] ≡ ts ++ us → ((k : List Turn) × (xs ≡ ts ++ k)) ⊎ (ts ≡ xs ++ x ∷ [])
front_of_more xs x [] us e = inl (xs, refl)
front_of_more [] x (t ∷ []) us e = let head : x ≡ t = cc in inr (ap (λ y. y ∷ []) (sym head))
front_of_more [] x (t ∷ n ∷ ts) us e = absurd (cc)
front_of_more (y ∷ xs) x (t ∷ ts) us e = at (front_of_more xs x ts us tail)
  where
    head : y ≡ t
    head = cc

    tail : xs ++ x ∷ [] ≡ ts ++ us
    tail = cc

    at : ((k : List Turn) × (xs ≡ ts ++ k)) ⊎ (ts ≡ xs ++ x ∷ []) → ((k : List Turn) × (y ∷ xs ≡ (t ∷ ts) ++ k)) ⊎ (t ∷ ts ≡ (y ∷ xs) ++ x ∷ [])
    at (inl c) = inl (c.0, ap (λ z. z ∷ xs) head ∙ ap (λ zs. t ∷ zs) c.1)
    at (inr c) = inr (ap (λ z. z ∷ ts) (sym head) ∙ ap (λ zs. y ∷ zs) c)

-- what holds of the first few turns holds of them with rows before the first reply
fronts_behind : (P : List Turn → Type 0) (rows : List OutRow) (all : List Turn) → P [] → ((ts us : List Turn) → all ≡ ts ++ us → P (behind_rows rows ts))
    → (ts us : List Turn) → behind_rows rows all ≡ ts ++ us → P ts
fronts_behind P rows all none some [] us e = none
fronts_behind P rows [] none some (t ∷ ts) us e = absurd (cc)
fronts_behind P rows (x ∷ xs) none some (t ∷ ts) us e =
    let head : record { reply = x.reply; rows = rows ++ x.rows; history = x.history } ≡ t = cc in
    let tail : xs ≡ ts ++ us = cc in
    subst (λ z. P (z ∷ ts)) head (some (x ∷ ts) us (ap (λ zs. x ∷ zs) tail))

module _ (history : List Command) (made told line : List ℕ) where
  abbrev start : State
  start = starting history

  -- what the first text gives, and what the other gives behind it
  abbrev first : Outcome State
  first = model history made

  abbrev second : Outcome State
  second = answers_after step start made told

  abbrev end : Turn
  end = record { reply = line; rows = []; history = second.state.history }

  abbrev lines_told : List Turn
  lines_told = line_turns first.state (lines_of told)

  abbrev turns : List Turn
  turns = turns_after history made told line

  pub replies_are : replies turns ≡ second.reply ++ line
  replies_are = replies_behind first.rows (lines_told ++ end ∷ []) ∙ replies_more lines_told end ∙ ap (λ r. r ++ line) (replies_as first.state (lines_of told))

  pub rows_are : rows_of turns ≡ rows_after step start made told
  rows_are = rows_behind first.rows lines_told end ∙ ap (λ r. first.rows ++ r) (rows_more lines_told end refl ∙ rows_as first.state (lines_of told))

  pub last_are : history_after history turns ≡ second.state.history
  last_are = history_behind first.rows history (lines_told ++ end ∷ []) ∙ history_more history lines_told end

  -- what holds of the turns of the first few lines, and of all turns, holds of the first few
  fronts : (P : List Turn → Type 0) → ((ls ms : List (List ℕ)) → lines_of told ≡ ls ++ ms → P (behind_rows first.rows (line_turns first.state ls))) → P turns
      → (ts us : List Turn) → turns ≡ ts ++ us → P ts
  fronts P some all = fronts_behind P first.rows (lines_told ++ end ∷ []) (some [] (lines_of told) refl) at
    where
      of : (ts us : List Turn) → ((k : List Turn) × (lines_told ≡ ts ++ k)) ⊎ (ts ≡ lines_told ++ end ∷ []) → P (behind_rows first.rows ts)
      of ts us (inl c) =
          let on : ComeFrom first.state (lines_of told) ts = come_from first.state (lines_of told) ts c.0 c.1 in
          subst (λ xs. P (behind_rows first.rows xs)) (sym on.are) (some on.first on.rest on.front)
      of ts us (inr e) = subst (λ xs. P (behind_rows first.rows xs)) (sym e) all

      at : (ts us : List Turn) → lines_told ++ end ∷ [] ≡ ts ++ us → P (behind_rows first.rows ts)
      at ts us e = of ts us (front_of_more lines_told end ts us e)

  -- what is written: nothing of the last line, or some of it
  pub front_unended : (before : List ℕ) (written : Option (List ℕ)) → WritesFront before second.reply written → WritesFront before (replies turns) written
  front_unended before written h = record {
    first = h.first;
    rest = h.rest ++ line;
    front = replies_are ∙ ap (λ r. r ++ line) h.front ∙ append_assoc h.first h.rest line;
    is = h.is;
  }

  pub front_ended : (before : List ℕ) (written : Option (List ℕ)) → WritesFront (before ++ second.reply) line written → WritesFront before (replies turns) written
  front_ended before written h = record {
    first = second.reply ++ h.first;
    rest = h.rest;
    front = replies_are ∙ ap (λ r. second.reply ++ r) h.front ∙ sym (append_assoc second.reply h.first h.rest);
    is = h.is ∙ ap Some (append_assoc before second.reply h.first);
  }

  pub whole_ended : (before : List ℕ) (written : Option (List ℕ)) → written ≡ Some ((before ++ second.reply) ++ line) → written ≡ Some (before ++ replies turns)
  whole_ended before written e = e ∙ ap Some (append_assoc before second.reply line) ∙ ap (λ r. Some (before ++ r)) (sym replies_are)

  pub rows_front : (before : List OutRow) (grown : Option (List OutRow)) → WritesFront before (rows_after step start made told) grown → WritesFront before (rows_of turns) grown
  rows_front before grown h = subst (λ r. WritesFront before r grown) (sym rows_are) h

  pub rows_ended : (before : List OutRow) (grown : Option (List OutRow)) → grown ≡ Some (before ++ rows_after step start made told) → grown ≡ Some (before ++ rows_of turns)
  rows_ended before grown e = e ∙ ap (λ r. Some (before ++ r)) (sym rows_are)

  -- the histories on the way
  grown_told : (ls : List (List ℕ)) → GoesOn first.state.history (answers step first.state ls).state.history
  grown_told ls = grown_by first.state ls

  goes_through : (a b c : List Command) → GoesOn a b → GoesOn b c → GoesOn a c
  goes_through a b c (more, is) (most, are) = (more ++ most, are ∙ ap (λ h. h ++ most) is ∙ append_assoc a more most)

  longer : (a b : List Command) → GoesOn a b → length a ≤ length b
  longer a b (more, is) = omega (arith, ap length is, length-append a more)

  from_start : (ls : List (List ℕ)) → GoesOn history (answers step first.state ls).state.history
  from_start ls = goes_through history first.state.history (answers step first.state ls).state.history (grown_by start (lines_of made)) (grown_told ls)

  to_end : (ls ms : List (List ℕ)) → lines_of told ≡ ls ++ ms → GoesOn (answers step first.state ls).state.history second.state.history
  to_end ls ms e = subst (λ all. GoesOn (answers step first.state ls).state.history (answers step first.state all).state.history) (sym e) (goes_further first.state ls ms)

  made_to_end : (ls ms : List (List ℕ)) → lines_of made ≡ ls ++ ms → GoesOn (answers step start ls).state.history second.state.history
  made_to_end ls ms e =
      goes_through (answers step start ls).state.history first.state.history second.state.history
      (subst (λ all. GoesOn (answers step start ls).state.history (answers step start all).state.history) (sym e) (goes_further start ls ms)) (grown_told (lines_of told))

  -- an image that stands for a history on the way
  abbrev front_at : (h : List Command) → GoesOn history h → GoesOn h second.state.history → (image : List ℕ) → StandsFor image h → StandsForFront history turns image
  front_at h least most image stands = record {
    count = length h;
    least = longer history h least;
    most = subst (λ l. length h ≤ length l) (sym last_are) (longer h second.state.history most);
    stands = subst (StandsFor image) (sym (ap (take (length h)) (last_are ∙ most.1) ∙ take-append_seam h most.0)) stands;
  }

  pub front_start : (image : List ℕ) → StandsFor image history → StandsForFront history turns image
  front_start image stands = front_at history ([], sym (append-nil history)) (from_start (lines_of told)) image stands

  pub front_after : (image : List ℕ) → ReachesAfter step start made told stored image → StandsForFront history turns image
  front_after image (inl on) =
      let h = (answers step start on.first).state.history in
      front_at h (grown_by start on.first) (made_to_end on.first on.rest on.front) image (stands_for image h on.stands)
  front_after image (inr on) =
      let h = (answers step first.state on.first).state.history in
      front_at h (from_start on.first) (to_end on.first on.rest on.front) image (stands_for image h on.stands)

  -- the history after the turns of the first few lines
  turns_reach : (ls : List (List ℕ)) → length (history_after history (behind_rows first.rows (line_turns first.state ls))) ≤ length (answers step first.state ls).state.history
  turns_reach [] = longer history first.state.history (grown_by start (lines_of made))
  turns_reach (l ∷ ls) = omega (arith, ap length (history_as (step first.state l).state ls))

  replies_reach : (ls : List (List ℕ)) → replies (behind_rows first.rows (line_turns first.state ls)) ≡ (answers step first.state ls).reply
  replies_reach ls = replies_behind first.rows (line_turns first.state ls) ∙ replies_as first.state ls

  -- no history on the way is longer than that at the end
  within_end : (ts us : List Turn) → turns ≡ ts ++ us → length (history_after history ts) ≤ length second.state.history
  within_end = fronts (λ ts. length (history_after history ts) ≤ length second.state.history)
      (λ ls ms e. omega (arith, turns_reach ls, longer (answers step first.state ls).state.history second.state.history (to_end ls ms e)))
      (omega (arith, ap length last_are))

  -- an image of the whole history
  pub told_end : (bytes image : List ℕ) → StandsFor image second.state.history → StandsForTold history turns bytes image
  told_end bytes image stands = record {
    front = front_at second.state.history (from_start (lines_of told)) ([], sym (append-nil second.state.history)) image stands;
    told = λ ts us e short. within_end ts us e;
  }

  -- all rows are written
  pub rows_precede_end : (before bytes : List ℕ) (rows : List OutRow) (written : Option (List ℕ)) (grown : Option (List OutRow)) → written ≡ Some (before ++ bytes)
      → grown ≡ Some (rows ++ rows_after step start made told) → RowsPrecede turns before rows written grown
  rows_precede_end before bytes rows written grown wrote grew = record {
    bytes = bytes;
    rows = rows_after step start made told;
    bytes_are = wrote;
    rows_are = grew;
    first = λ ts us e short. omega (arith, fewer ts us e, ap length rows_are);
  }
    where
      rows_cut : (ts us : List Turn) → length (rows_of ts) ≤ length (rows_of (ts ++ us))
      rows_cut [] us = omega arith
      rows_cut (t ∷ ts) us = omega (arith, rows_cut ts us, length-append t.rows (rows_of ts), length-append t.rows (rows_of (ts ++ us)))

      fewer : (ts us : List Turn) → turns ≡ ts ++ us → length (rows_of ts) ≤ length (rows_of turns)
      fewer ts us e = subst (λ xs. length (rows_of ts) ≤ length (rows_of xs)) (sym e) (rows_cut ts us)

  -- the first line of the second text is answered
  module _ (l : List ℕ) (ls : List (List ℕ)) (begins : lines_of told ≡ l ∷ ls) (answered : (step first.state l).reply ≡ [] → ⊥) where
    -- no turn is told where nothing is written
    none_told : (ts us : List Turn) → turns ≡ ts ++ us → length (replies ts) ≤ 0 → ts ≡ []
    none_told = fronts (λ ts. length (replies ts) ≤ 0 → ts ≡ []) some all
      where
        quiet : (reply more : List ℕ) → length (reply ++ more) ≤ 0 → reply ≡ []
        quiet reply more short = nil_from_length reply (omega (arith, short, length-append reply more))

        some : (ks ms : List (List ℕ)) → lines_of told ≡ ks ++ ms → length (replies (behind_rows first.rows (line_turns first.state ks))) ≤ 0 → behind_rows first.rows (line_turns first.state ks) ≡ []
        some [] ms e short = refl
        some (k ∷ ks) ms e short =
            let same : k ≡ l = cc in
            absurd (answered (ap (λ x. (step first.state x).reply) (sym same) ∙ quiet (step first.state k).reply (replies (line_turns (step first.state k).state ks)) short))

        none_second : length second.reply ≤ 0 → ⊥
        none_second short =
            answered (quiet (step first.state l).reply (answers step (step first.state l).state ls).reply (subst (λ xs. length (answers step first.state xs).reply ≤ 0) begins short))

        all : length (replies turns) ≤ 0 → turns ≡ []
        all short = absurd (none_second (omega (arith, short, ap length replies_are, length-append second.reply line)))

    -- the rows come first
    pub rows_precede_after : (before : List ℕ) (rows : List OutRow) (written : Option (List ℕ)) (grown : Option (List OutRow))
        → RowsComeAfter step start made told before rows written grown → RowsPrecede turns before rows written grown
    rows_precede_after before rows written grown (inl (wrote, grew)) = record {
      bytes = [];
      rows = grew.first;
      bytes_are = wrote ∙ ap Some (sym (append-nil before));
      rows_are = grew.is;
      first = λ ts us e short. subst (λ (xs : List Turn). length (rows_of xs) ≤ length grew.first) (sym (none_told ts us e short)) (omega arith);
    }
    rows_precede_after before rows written grown (inr on) = record {
      bytes = on.bytes;
      rows = first.rows ++ on.rows;
      bytes_are = on.bytes_are;
      rows_are = on.rows_are ∙ ap Some (append_assoc rows first.rows on.rows);
      first = fronts (λ ts. length (replies ts) ≤ length on.bytes → length (rows_of ts) ≤ length (first.rows ++ on.rows)) some all;
    }
      where
        some : (ks ms : List (List ℕ)) → lines_of told ≡ ks ++ ms → length (replies (behind_rows first.rows (line_turns first.state ks))) ≤ length on.bytes
            → length (rows_of (behind_rows first.rows (line_turns first.state ks))) ≤ length (first.rows ++ on.rows)
        some ks ms e short =
            let few : length (answers step first.state ks).rows ≤ length on.rows = on.first ks ms e (subst (λ r. length r ≤ length on.bytes) (replies_reach ks) short) in
            omega (arith, few, few_behind first.rows (line_turns first.state ks), ap length (rows_as first.state ks), length-append first.rows on.rows)

        all : length (replies turns) ≤ length on.bytes → length (rows_of turns) ≤ length (first.rows ++ on.rows)
        all short =
            let few : length second.rows ≤ length on.rows = on.first (lines_of told) [] (sym (append-nil (lines_of told))) (omega (arith, short, ap length replies_are, length-append second.reply line)) in
            omega (arith, few, ap length rows_are, length-append first.rows second.rows, length-append first.rows on.rows)

    -- nothing is written
    pub told_unwritten : (bytes image : List ℕ) → bytes ≡ [] → StandsForFront history turns image → StandsForTold history turns bytes image
    told_unwritten bytes image none front = record {
      front = front;
      told = λ ts us e short.
          subst (λ (xs : List Turn). length (history_after history xs) ≤ front.count) (sym (none_told ts us e (omega (arith, short, ap length none)))) front.least;
    }

    -- some replies are written
    pub told_after : (bytes image : List ℕ) → KeepsAfter step start made told stored count bytes image → StandsForTold history turns bytes image
    told_after bytes image (inl (none, on)) = told_unwritten bytes image none (front_after image on)
    told_after bytes image (inr on) = record {
      front = front_at h (from_start on.first) (to_end on.first on.rest on.front) image (stands_for image h on.stands);
      told = fronts (λ ts. length (replies ts) ≤ length bytes → length (history_after history ts) ≤ length h) some all;
    }
      where
        h : List Command
        h = (answers step first.state on.first).state.history

        some : (ks ms : List (List ℕ)) → lines_of told ≡ ks ++ ms → length (replies (behind_rows first.rows (line_turns first.state ks))) ≤ length bytes
            → length (history_after history (behind_rows first.rows (line_turns first.state ks))) ≤ length h
        some ks ms e short =
            let kept : length (answers step first.state ks).state.history ≤ length h = on.answered ks ms e (subst (λ r. length r ≤ length bytes) (replies_reach ks) short) in
            omega (arith, kept, turns_reach ks)

        all : length (replies turns) ≤ length bytes → length (history_after history turns) ≤ length h
        all short =
            let kept : length second.state.history ≤ length h = on.answered (lines_of told) [] (sym (append-nil (lines_of told))) (omega (arith, short, ap length replies_are, length-append second.reply line)) in
            omega (arith, kept, ap length last_are)

  -- no line of the second text adds a command: once a byte is written, an image stands for the whole history
  pub stands_whole : ((ls ms : List (List ℕ)) → lines_of told ≡ ls ++ ms → (answers step first.state ls).state.history ≡ first.state.history)
      → (bytes image : List ℕ) → 0 < length bytes → KeepsAfter step start made told stored count bytes image → StandsFor image (history_after history turns)
  stands_whole kept bytes image some (inl (none, on)) = absurd (omega (arith, some, ap length none))
  stands_whole kept bytes image some (inr on) =
      subst (StandsFor image) (kept on.first on.rest on.front ∙ sym (kept (lines_of told) [] (sym (append-nil (lines_of told)))) ∙ sym last_are)
      (stands_for image (answers step first.state on.first).state.history on.stands)
