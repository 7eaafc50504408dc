-- The loop's invariant: it is kept by one line more, and at the end of the script or at a stop it gives what was written, the state and the ending.
use Rattle.std.proofs.Common.{◌≡◌, ◌≢◌, ◌∙◌, refl, sym, ap, subst, ℕ, ◌⊎◌, inl, inr, ◌+◌, ◌<◌, ◌≤◌, arith, Bool, true, false, ◌||◌, List, [], ◌∷◌, ◌++◌, length, length-append, append-nil, append_assoc, Option, Some, None, IfSome}
use Rattle.std.proofs.lemmas.List.{append_cancel_left}
use Rattle.cov_base.specs.Lines.{lines_of}
use Rattle.cov_disk.specs.Images.{LeavesOnly}
use Rattle.cov_io.specs.Progress.{Progress}
use Rattle.cov_io.specs.Devices.{AppendsAll, AppendsSome}
use Rattle.cov_loop.specs.Answers.{is_refusal, kind_of}
use Rattle.cov_loop.specs.Keeping.{AddsNoCommand, AreAll, FirstAddsNone, KeepsAnswered, Reaches}
use Rattle.cov_loop.specs.Outcome.{Outcome, answers, followed_by}
use Rattle.cov_loop.specs.Turns.{AtEnd, EndsWith, ServesNone, GoesOn, HasRows, HasStored, ReadsOut, IsWhole, Output, RowsComeFirst, ServesFirst, StopsAmid, WritesAll, ahead_of, ending_at_end}
use Rattle.cov_loop.specs.declared.answer.Answer.{Answer}
use Rattle.cov_loop.proofs.Appending.{all_some, all_then, all_then_some, same_all, told_all}
use Rattle.cov_loop.proofs.Kept.{first_adds_none, keeps_later, later_adds_none, reaches_later, rise_all}
use Rattle.cov_disk.proofs.CallerLemmas.{joined, weakened}
use Rattle.cov_loop.proofs.Outcomes.{answers_append, answers_last, cut_twice, nothing_next}
use Rattle.cov_out.specs.declared.row.OutRow.{OutRow}

-- where a refusal has a reply, the kind of the reply says whether it refuses
kind_says : (reply : List ℕ) (is_refused : Bool) → (is_refused ≡ true → reply ≢ []) → is_refusal (kind_of reply is_refused) ≡ is_refused
kind_says [] true told = absurd (told refl refl)
kind_says [] false told = refl
kind_says (b ∷ bs) true told = refl
kind_says (b ∷ bs) false told = refl

-- what an outcome gives, and then another
written_then : {S : Type 0} (first next : Outcome S) (old mid new : Output) → WritesAll first old mid → WritesAll next mid new → WritesAll (followed_by first next) old new
written_then first next old mid new before after = record {
  bytes = all_then first.reply next.reply old.bytes mid.bytes new.bytes before.bytes after.bytes;
  rows = all_then first.rows next.rows old.rows mid.rows new.rows before.rows after.rows;
}

-- no line was served yet
pub begins : {S : Type 0} (step : S → List ℕ → Outcome S) (start : S) (text : List ℕ) (ahead : Option (List ℕ)) (all : Output)
    → ahead ≡ Some text → GoesOn step start text start false ahead all all
begins step start text ahead all told = record {
  served = [];
  rest = text;
  lines = refl;
  ahead_is = told;
  state_is = refl;
  refused_is = refl;
  written = record { bytes = same_all all.bytes all.bytes refl; rows = same_all all.rows all.rows refl };
}

-- one line more was served
pub goes_on : {S : Type 0} {step : S → List ℕ → Outcome S} {start : S} {text : List ℕ} {state : S} {was : Bool} {ahead : Option (List ℕ)} {old mid : Output} (next : S) (is : Bool) (answer : Answer) (ahead' : Option (List ℕ)) (new : Output)
    → ((s : S) (line : List ℕ) → (step s line).is_refused ≡ true → (step s line).reply ≢ [])
    → GoesOn step start text state was ahead old mid
    → ((t : List ℕ) → ahead ≡ Some t → ServesFirst step state t next answer ahead' mid new)
    → is ≡ (was || is_refusal answer)
    → GoesOn step start text next is ahead' old new
goes_on {S} {step} {start} {text} {state} {was} {ahead} {old} {mid} next is answer ahead' new told so_far turn flag =
    let s : ServesFirst step state so_far.rest next answer ahead' mid new = turn so_far.rest so_far.ahead_is in
    let first : Outcome S = answers step start so_far.served in
    let now : Outcome S = step state s.line in
    let same : now ≡ step first.state s.line = ap (λ st. step st s.line) so_far.state_is in
    let all : answers step start (so_far.served ++ s.line ∷ []) ≡ followed_by first now =
    answers_last step start so_far.served s.line ∙ ap (followed_by first) (sym same) in
    let said : is_refusal answer ≡ now.is_refused = ap is_refusal s.served.answer_is ∙ kind_says now.reply now.is_refused (told state s.line) in
    record {
      served = so_far.served ++ s.line ∷ [];
      rest = s.rest;
      lines = so_far.lines ∙ ap (λ ls. so_far.served ++ ls) s.lines ∙ sym (append_assoc so_far.served (s.line ∷ []) (lines_of s.rest));
      ahead_is = s.ahead_is;
      state_is = s.served.state_is ∙ sym (ap (λ (o : Outcome S). o.state) all);
      refused_is = flag ∙ ap (λ b. b || is_refusal answer) so_far.refused_is ∙ ap (λ b. first.is_refused || b) said ∙ sym (ap (λ (o : Outcome S). o.is_refused) all);
      written = subst (λ o. WritesAll o old new) (sym all) (written_then first now old mid new so_far.written s.written);
    }

-- what is known where no line is left
pub record Ended {S : Type 0} (step : S → List ℕ → Outcome S) (start : S) (text : List ℕ) (next : S) (refused : Bool) (ahead : Option (List ℕ)) (old new : Output) : Type 0 where
  pub state_is : next ≡ (answers step start (lines_of text)).state
  pub refused_is : (answers step start (lines_of text)).is_refused ≡ refused
  pub ahead_is : ahead ≡ Some []
  pub written : WritesAll (answers step start (lines_of text)) old new

-- no line is left
pub ended : {S : Type 0} {step : S → List ℕ → Outcome S} {start : S} {text : List ℕ} {state : S} {was : Bool} {ahead : Option (List ℕ)} {old mid : Output} (next : S) (ahead' : Option (List ℕ)) (new : Output)
    → GoesOn step start text state was ahead old mid
    → ((t : List ℕ) → ahead ≡ Some t → ServesNone state t next ahead' mid new)
    → Ended step start text next was ahead' old new
ended {S} {step} {start} {text} {state} {was} {ahead} {old} {mid} next ahead' new so_far turn =
    let t : ServesNone state so_far.rest next ahead' mid new = turn so_far.rest so_far.ahead_is in
    let whole : lines_of text ≡ so_far.served = so_far.lines ∙ ap (λ r. so_far.served ++ lines_of r) t.text_is ∙ append-nil so_far.served in
    record {
      state_is = t.next_is ∙ so_far.state_is ∙ ap (λ ls. (answers step start ls).state) (sym whole);
      refused_is = ap (λ ls. (answers step start ls).is_refused) whole ∙ sym so_far.refused_is;
      ahead_is = t.ahead_is;
      written = subst (λ ls. WritesAll (answers step start ls) old new) (sym whole) (subst (λ o. WritesAll (answers step start so_far.served) old o) (sym t.same) so_far.written);
    }

-- the first few of some lines write no more rows than all
fewer_rows : {S : Type 0} (step : S → List ℕ → Outcome S) (start : S) (lines ls ms : List (List ℕ)) → lines ≡ ls ++ ms
    → length (answers step start ls).rows ≤ length (answers step start lines).rows
fewer_rows {S} step start lines ls ms e =
    let first : Outcome S = answers step start ls in
    let rest : Outcome S = answers step first.state ms in
    let size : length (answers step start lines).rows ≡ length (first.rows ++ rest.rows) =
    ap (λ all. length (answers step start all).rows) e ∙ ap (λ (o : Outcome S). length o.rows) (answers_append step start ls ms) in
    omega (arith, size, length-append first.rows rest.rows)

-- what is written whole is written in part, with the rows of all lines
pub all_amid : {S : Type 0} (step : S → List ℕ → Outcome S) (start : S) (text : List ℕ) (old new : Output)
    → WritesAll (answers step start (lines_of text)) old new → StopsAmid step start text old new
all_amid {S} step start text old new all =
    let o : Outcome S = answers step start (lines_of text) in
    record {
      bytes = all_some o.reply old.bytes new.bytes all.bytes;
      rows = all_some o.rows old.rows new.rows all.rows;
      first = λ bytes rows wrote grew. record {
        bytes = o.reply;
        rows = o.rows;
        bytes_are = told_all o.reply bytes old.bytes new.bytes all.bytes wrote;
        rows_are = told_all o.rows rows old.rows new.rows all.rows grew;
        first = λ ls ms lines short. fewer_rows step start (lines_of text) ls ms lines;
      };
    }

-- some lines were served, and the run stopped amid others
module _ {S : Type 0} (step : S → List ℕ → Outcome S) (start : S) (served more : List (List ℕ)) (bytes : List ℕ) (rows : List OutRow) (written : Option (List ℕ)) (grown : Option (List OutRow))
    (later : RowsComeFirst step (answers step start served).state more (bytes ++ (answers step start served).reply) (rows ++ (answers step start served).rows) written grown) where
  rows_later : (ls ms : List (List ℕ)) → more ≡ ls ++ ms → length (answers step start (served ++ ls)).reply ≤ length ((answers step start served).reply ++ later.bytes)
      → length (answers step start (served ++ ls)).rows ≤ length ((answers step start served).rows ++ later.rows)
  rows_later ls ms e short =
      let first : Outcome S = answers step start served in
      let next : Outcome S = answers step first.state ls in
      let all : answers step start (served ++ ls) ≡ followed_by first next = answers_append step start served ls in
      let replies : length (answers step start (served ++ ls)).reply ≡ length first.reply + length next.reply =
      ap (λ (o : Outcome S). length o.reply) all ∙ length-append first.reply next.reply in
      let trees : length (answers step start (served ++ ls)).rows ≡ length first.rows + length next.rows =
      ap (λ (o : Outcome S). length o.rows) all ∙ length-append first.rows next.rows in
      let here : length next.rows ≤ length later.rows = later.first ls ms e (omega (arith, short, replies, length-append first.reply later.bytes)) in
      omega (arith, trees, length-append first.rows later.rows, here)

  each_line : (ls ms : List (List ℕ)) → served ++ more ≡ ls ++ ms → length (answers step start ls).reply ≤ length ((answers step start served).reply ++ later.bytes)
      → length (answers step start ls).rows ≤ length ((answers step start served).rows ++ later.rows)
  each_line ls ms e short = cases (cut_twice served more ls ms e) where
    cases : ((k : List (List ℕ)) × (served ≡ ls ++ k)) ⊎ ((k : List (List ℕ)) × (ls ≡ served ++ k) × (more ≡ k ++ ms))
        → length (answers step start ls).rows ≤ length ((answers step start served).rows ++ later.rows)
    cases (inl c) = omega (arith, fewer_rows step start served ls c.0 c.1, length-append (answers step start served).rows later.rows)
    cases (inr c) =
        subst (λ zs. length (answers step start zs).reply ≤ length ((answers step start served).reply ++ later.bytes) → length (answers step start zs).rows ≤ length ((answers step start served).rows ++ later.rows))
        (sym c.1) (rows_later c.0 ms c.2) short

  stops_later : RowsComeFirst step start (served ++ more) bytes rows written grown
  stops_later = record {
    bytes = (answers step start served).reply ++ later.bytes;
    rows = (answers step start served).rows ++ later.rows;
    bytes_are = later.bytes_are ∙ ap Some (append_assoc bytes (answers step start served).reply later.bytes);
    rows_are = later.rows_are ∙ ap Some (append_assoc rows (answers step start served).rows later.rows);
    first = each_line;
  }

-- the run stopped within a line
pub stopped : {S : Type 0} {step : S → List ℕ → Outcome S} {start : S} {text : List ℕ} {state : S} {was : Bool} {ahead : Option (List ℕ)} {old mid : Output} (new : Output)
    → GoesOn step start text state was ahead old mid
    → ((t : List ℕ) → ahead ≡ Some t → StopsAmid step state t mid new)
    → StopsAmid step start text old new
stopped {S} {step} {start} {text} {state} {was} {ahead} {old} {mid} new so_far turn =
    let first : Outcome S = answers step start so_far.served in
    let stop : StopsAmid step first.state so_far.rest mid new = subst (λ st. StopsAmid step st so_far.rest mid new) so_far.state_is (turn so_far.rest so_far.ahead_is) in
    let rest : Outcome S = answers step first.state (lines_of so_far.rest) in
    let all : answers step start (lines_of text) ≡ followed_by first rest =
    ap (answers step start) so_far.lines ∙ answers_append step start so_far.served (lines_of so_far.rest) in
    record {
      bytes = subst (λ (o : Outcome S). AppendsSome o.reply old.bytes new.bytes) (sym all) (all_then_some first.reply rest.reply old.bytes mid.bytes new.bytes so_far.written.bytes stop.bytes);
      rows = subst (λ (o : Outcome S). AppendsSome o.rows old.rows new.rows) (sym all) (all_then_some first.rows rest.rows old.rows mid.rows new.rows so_far.written.rows stop.rows);
      first = λ bytes rows wrote grew.
          subst (λ ls. RowsComeFirst step start ls bytes rows new.bytes new.rows) (sym so_far.lines)
          (stops_later step start so_far.served (lines_of so_far.rest) bytes rows new.bytes new.rows
          (stop.first (bytes ++ first.reply) (rows ++ first.rows)
          (told_all first.reply bytes old.bytes mid.bytes so_far.written.bytes wrote) (told_all first.rows rows old.rows mid.rows so_far.written.rows grew)));
    }

-- what one turn more may leave
pub moments_on : {S D : Type 0} (step : S → List ℕ → Outcome S) (stored : S → List ℕ → Type 0) (moment : D → ℕ) (images_since : D → ℕ → List ℕ → Type 0) (first mid new : D)
    {start : S} {text : List ℕ} {state : S} {was : Bool} {ahead : Option (List ℕ)} {old now : Output}
    → GoesOn step start text state was ahead old now
    → LeavesOnly moment images_since first mid (Reaches step stored start (lines_of text))
    → ((t : List ℕ) → ahead ≡ Some t → LeavesOnly moment images_since mid new (Reaches step stored state (lines_of t)))
    → LeavesOnly moment images_since first new (Reaches step stored start (lines_of text))
moments_on step stored moment images_since first mid new {start} {text} {state} so_far before turn =
    joined moment images_since first mid new (Reaches step stored start (lines_of text)) before
    (weakened moment images_since mid new (Reaches step stored state (lines_of so_far.rest)) (Reaches step stored start (lines_of text))
    (reaches_later step stored start state (lines_of text) so_far.served (lines_of so_far.rest) so_far.lines so_far.state_is) (turn so_far.rest so_far.ahead_is))

-- one turn more by which no command is added
pub unwritten_on : {S D : Type 0} (step : S → List ℕ → Outcome S) (count : S → ℕ) → ((s : S) (line : List ℕ) → count s ≤ count (step s line).state) → (first mid new : D)
    (next : S) (answer : Answer) (ahead' : Option (List ℕ)) (later : Output)
    {start : S} {text : List ℕ} {state : S} {was : Bool} {ahead : Option (List ℕ)} {old now : Output}
    → GoesOn step start text state was ahead old now
    → (count state ≤ count start → mid ≡ first)
    → ((t : List ℕ) → ahead ≡ Some t → ServesFirst step state t next answer ahead' now later)
    → ((t : List ℕ) → ahead ≡ Some t → FirstAddsNone step count state (lines_of t) → new ≡ mid)
    → count next ≤ count start → new ≡ first
unwritten_on step count rise first mid new next answer ahead' later {start} {text} {state} {was} {ahead} {old} {now} so_far before turn same few =
    let s : ServesFirst step state so_far.rest next answer ahead' now later = turn so_far.rest so_far.ahead_is in
    let is : count next ≡ count (step state s.line).state = ap count s.served.state_is in
    let none : AddsNoCommand count state (step state s.line) = omega (arith, is, few, rise_all step count rise start so_far.served, ap count so_far.state_is) in
    same so_far.rest so_far.ahead_is (subst (FirstAddsNone step count state) (sym s.lines) none) ∙ before (omega (arith, is, few, rise state s.line))

-- the last turn of a script that adds no command
pub unwritten_amid : {S D : Type 0} (step : S → List ℕ → Outcome S) (count : S → ℕ) → ((s : S) (line : List ℕ) → count s ≤ count (step s line).state) → (first mid new : D)
    {start : S} {text : List ℕ} {state : S} {was : Bool} {ahead : Option (List ℕ)} {old now : Output}
    → GoesOn step start text state was ahead old now
    → (count state ≤ count start → mid ≡ first)
    → ((t : List ℕ) → ahead ≡ Some t → FirstAddsNone step count state (lines_of t) → new ≡ mid)
    → AddsNoCommand count start (answers step start (lines_of text)) → new ≡ first
unwritten_amid step count rise first mid new {start} {text} {state} so_far before same none =
    let later = later_adds_none step count rise start state (lines_of text) so_far.served (lines_of so_far.rest) so_far.lines so_far.state_is none in
    same so_far.rest so_far.ahead_is (first_adds_none step count rise state (lines_of so_far.rest) later.1) ∙ before later.0

-- the first few of some lines have no longer replies than all
fewer_replies : {S : Type 0} (step : S → List ℕ → Outcome S) (start : S) (lines ls ms : List (List ℕ)) → lines ≡ ls ++ ms
    → length (answers step start ls).reply ≤ length (answers step start lines).reply
fewer_replies {S} step start lines ls ms e =
    let first : Outcome S = answers step start ls in
    let rest : Outcome S = answers step first.state ms in
    let size : length (answers step start lines).reply ≡ length (first.reply ++ rest.reply) =
    ap (λ all. length (answers step start all).reply) e ∙ ap (λ (o : Outcome S). length o.reply) (answers_append step start ls ms) in
    omega (arith, size, length-append first.reply rest.reply)

-- where the replies to all lines are written, no fewer bytes are than those of the first few
pub all_sent : {S D : Type 0} (step : S → List ℕ → Outcome S) (start : S) (first disk : D) (lines : List (List ℕ)) (before bytes : List ℕ) (old new : Option (List ℕ))
    → AppendsAll (answers step start lines).reply old new → old ≡ Some before → new ≡ Some (before ++ bytes)
    → (ls ms : List (List ℕ)) → lines ≡ ls ++ ms → length bytes < length (answers step start ls).reply → disk ≡ first
all_sent step start first disk lines before bytes old new all was is ls ms e short =
    let replies : List ℕ = (answers step start lines).reply in
    let now : new ≡ Some (before ++ replies) = told_all replies before old new all was in
    let same : before ++ bytes ≡ before ++ replies = cc in
    absurd (omega (arith, ap length (append_cancel_left before bytes replies same), short, fewer_replies step start lines ls ms e))

-- some lines were served, and the replies to the first few aren't all written
module _ {S D : Type 0} (step : S → List ℕ → Outcome S) (count : S → ℕ) (rise : (s : S) (line : List ℕ) → count s ≤ count (step s line).state)
    (start state : S) (served more : List (List ℕ)) (is : state ≡ (answers step start served).state) (sent : ℕ) (enough : length (answers step start served).reply ≤ sent)
    (first mid new : D) (before : count state ≤ count start → mid ≡ first) (same : FirstAddsNone step count state more → new ≡ mid) where
  come_to : (k ms : List (List ℕ)) → more ≡ k ++ ms → AddsNoCommand count start (answers step start (served ++ k)) → sent < length (answers step start (served ++ k)).reply → new ≡ first
  come_to [] ms e none short = absurd (omega (arith, enough, short, ap (λ ls. length (answers step start ls).reply) (append-nil served)))
  come_to (line ∷ k) ms e none short =
      let later = later_adds_none step count rise start state (served ++ line ∷ k) served (line ∷ k) refl is none in
      let one : AddsNoCommand count state (step state line) = first_adds_none step count rise state (line ∷ k) later.1 in
      same (subst (FirstAddsNone step count state) (sym e) one) ∙ before later.0

  untouched_by : (ls ms : List (List ℕ)) → ((k : List (List ℕ)) × (served ≡ ls ++ k)) ⊎ ((k : List (List ℕ)) × (ls ≡ served ++ k) × (more ≡ k ++ ms))
      → AddsNoCommand count start (answers step start ls) → sent < length (answers step start ls).reply → new ≡ first
  untouched_by ls ms (inl c) none short = absurd (omega (arith, short, enough, fewer_replies step start served ls c.0 c.1))
  untouched_by ls ms (inr c) none short =
      come_to c.0 ms c.2 (subst (λ zs. AddsNoCommand count start (answers step start zs)) c.1 none) (subst (λ zs. sent < length (answers step start zs).reply) c.1 short)

pub untouched_amid : {S D : Type 0} (step : S → List ℕ → Outcome S) (count : S → ℕ) → ((s : S) (line : List ℕ) → count s ≤ count (step s line).state) → (first mid new : D)
    (before bytes : List ℕ) (later : Output)
    {start : S} {text : List ℕ} {state : S} {was : Bool} {ahead : Option (List ℕ)} {old now : Output}
    → GoesOn step start text state was ahead old now
    → (count state ≤ count start → mid ≡ first)
    → ((t : List ℕ) → ahead ≡ Some t → FirstAddsNone step count state (lines_of t) → new ≡ mid)
    → ((t : List ℕ) → ahead ≡ Some t → StopsAmid step state t now later)
    → old.bytes ≡ Some before → later.bytes ≡ Some (before ++ bytes)
    → (ls ms : List (List ℕ)) → lines_of text ≡ ls ++ ms → AddsNoCommand count start (answers step start ls) → length bytes < length (answers step start ls).reply → new ≡ first
untouched_amid step count rise first mid new before bytes later {start} {text} {state} {was} {ahead} {old} {now} so_far kept same turn told is ls ms e none short =
    let replies : List ℕ = (answers step start so_far.served).reply in
    let sent : now.bytes ≡ Some (before ++ replies) = told_all replies before old.bytes now.bytes so_far.written.bytes told in
    let amid : StopsAmid step state so_far.rest now later = turn so_far.rest so_far.ahead_is in
    let part : AppendsSome (answers step state (lines_of so_far.rest)).reply (Some (before ++ replies)) later.bytes = rw sent at amid.bytes in
    let all : before ++ bytes ≡ (before ++ replies) ++ part.0 = cc in
    let enough : length replies ≤ length bytes =
    omega (arith, ap length (append_cancel_left before bytes (replies ++ part.0) (all ∙ append_assoc before replies part.0)), length-append replies part.0) in
    untouched_by step count rise start state so_far.served (lines_of so_far.rest) so_far.state_is (length bytes) enough first mid new kept (same so_far.rest so_far.ahead_is) ls ms
    (cut_twice so_far.served (lines_of so_far.rest) ls ms (sym so_far.lines ∙ e)) none short

-- the run stopped within a line, and each image has every command that is answered
pub keeps_on : {S : Type 0} (step : S → List ℕ → Outcome S) (stored : S → List ℕ → Type 0) (count : S → ℕ)
    → ((s : S) (line : List ℕ) → count s ≤ count (step s line).state)
    → (before bytes : List ℕ) (new : Output) (images : List ℕ → Type 0)
    {start : S} {text : List ℕ} {state : S} {was : Bool} {ahead : Option (List ℕ)} {old mid : Output}
    → GoesOn step start text state was ahead old mid
    → old.bytes ≡ Some before → new.bytes ≡ Some (before ++ bytes)
    → ((t : List ℕ) → ahead ≡ Some t → StopsAmid step state t mid new)
    → ((t sent part : List ℕ) → ahead ≡ Some t → mid.bytes ≡ Some sent → new.bytes ≡ Some (sent ++ part) → AreAll (KeepsAnswered step stored count state (lines_of t) part) images)
    → AreAll (KeepsAnswered step stored count start (lines_of text) bytes) images
keeps_on {S} step stored count rise before bytes new images {start} {text} {state} {was} {ahead} {old} {mid} so_far told now turn keeps =
    let replies : List ℕ = (answers step start so_far.served).reply in
    let sent : mid.bytes ≡ Some (before ++ replies) = told_all replies before old.bytes mid.bytes so_far.written.bytes told in
    let amid : StopsAmid step state so_far.rest mid new = turn so_far.rest so_far.ahead_is in
    let part : AppendsSome (answers step state (lines_of so_far.rest)).reply (Some (before ++ replies)) new.bytes = rw sent at amid.bytes in
    let same : before ++ bytes ≡ (before ++ replies) ++ part.0 = cc in
    let all : bytes ≡ replies ++ part.0 = append_cancel_left before bytes (replies ++ part.0) (same ∙ append_assoc before replies part.0) in
    λ image here.
    subst (λ xs. KeepsAnswered step stored count start (lines_of text) xs image) (sym all)
    (keeps_later step stored count rise start state (lines_of text) so_far.served (lines_of so_far.rest) so_far.lines so_far.state_is part.0 image
    (keeps so_far.rest (before ++ replies) part.0 so_far.ahead_is sent part.3 image here))

-- where nothing is ahead, nothing is left
pub left_is_empty : (progress : Progress) (left : Option (List ℕ)) → ahead_of progress left ≡ Some [] → left ≡ Some []
left_is_empty progress None e = absurd (cc)
left_is_empty progress (Some bytes) e =
    let none : progress.ahead ++ bytes ≡ [] = cc in
    ap Some (nothing_next progress.ahead bytes none)

pub at_end : (was : Bool) (P : Type 0) → P → AtEnd (ending_at_end was) P
at_end true P h = h
at_end false P h = h

pub reads_out : {S : Type 0} (was : Bool) (outcome : Outcome S) (left : Option (List ℕ))
    → (outcome.is_refused ≡ was) × (left ≡ Some []) → ReadsOut (ending_at_end was) outcome left
reads_out true outcome left h = h
reads_out false outcome left h = h

pub ends_whole : {S : Type 0} (was : Bool) (outcome : Outcome S) (before : List ℕ) (left written : Option (List ℕ))
    → EndsWith was outcome before left written → IsWhole (ending_at_end was) outcome before left written
ends_whole true outcome before left written h = h
ends_whole false outcome before left written h = h

pub has_rows : {S : Type 0} (was : Bool) (outcome : Outcome S) (before : List OutRow) (grown : Option (List OutRow))
    → grown ≡ Some (before ++ outcome.rows) → HasRows (ending_at_end was) outcome before grown
has_rows true outcome before grown h = h
has_rows false outcome before grown h = h

pub has_stored : {S : Type 0} (was : Bool) (stored : S → List ℕ → Type 0) (outcome : Outcome S) (contents : Option (List ℕ))
    → IfSome contents (stored outcome.state) → HasStored (ending_at_end was) stored outcome contents
has_stored true stored outcome contents h = h
has_stored false stored outcome contents h = h
