-- One turn after another.
use Rattle.std.proofs.Common.{◌≡◌, ◌∙◌, refl, sym, ap, subst, ℕ, ◌⊎◌, inl, inr, ◌+◌, ◌<◌, ◌≤◌, arith, List, [], ◌∷◌, ◌++◌, length, length-append, append-nil, Option, Some, None, Result, Ok, Err, IfOk, IfErr, OnOk, OnErr}
use Rattle.std.proofs.lemmas.List.{nil_from_length}
use Rattle.cov_base.specs.Lines.{lines_of}
use Rattle.cov_base.specs.declared.limits.TheConstants.{MOST_SCRIPT_LINE_BYTES}
use Rattle.cov_io.specs.Devices.{AppendsAll, AppendsSome}
use Rattle.cov_io.specs.Items.{GivesTold}
use Rattle.cov_io.specs.Progress.{Progress}
use Rattle.cov_io.specs.declared.reading.Item.TheVariants as items
use Rattle.cov_loop.specs.Answers.{IsServed, StopsLine}
use Rattle.cov_loop.specs.Counts.{Counts}
use Rattle.cov_loop.specs.Outcome.{Outcome, answers}
use Rattle.cov_loop.specs.Turns.{Output, RowsComeFirst, StopsAmid, StopsTurn, Turns, ahead_of, turn_of}
use Rattle.cov_loop.specs.declared.answer.Answer.{Answer}
use Rattle.cov_loop.specs.declared.ending.Ending.{Ending}
use Rattle.cov_loop.specs.declared.ending.Ending.TheVariants as endings
use Rattle.cov_loop.proofs.Appending.{same_some, some_more}
use Rattle.cov_loop.proofs.Outcomes.{silent}
use Rattle.cov_out.specs.declared.row.OutRow.{OutRow}

-- lines without a reply write no row
abbrev pub TellsRows : {S : Type 0} → (S → List ℕ → Outcome S) → Type 0
TellsRows {S} step = (state : S) (line : List ℕ) → (step state line).reply ≡ [] → (step state line).rows ≡ []

-- what was written of an outcome, by the answer, and the state after it
pub record Serves {S : Type 0} (outcome : Outcome S) (next : S) (old new : Output) (r : Result Answer Ending) : Type 0 where
  pub served : IfOk r (IsServed outcome next)
  pub all : OnOk r (AppendsAll outcome.reply old.bytes new.bytes)
  pub some : OnErr r (AppendsSome outcome.reply old.bytes new.bytes)
  pub rows_all : OnOk r (AppendsAll outcome.rows old.rows new.rows)
  pub rows_some : OnErr r (AppendsSome outcome.rows old.rows new.rows)
  pub rows_first : OnErr r (AppendsAll outcome.rows old.rows new.rows ⊎ (new.bytes ≡ old.bytes))

-- the run stopped within the first of some lines
module _ {S : Type 0} (step : S → List ℕ → Outcome S) (told : TellsRows step) (state : S) (line : List ℕ) (more : List (List ℕ)) (bytes : List ℕ) (rows : List OutRow) (written : Option (List ℕ)) (grown : Option (List OutRow))
    (some : AppendsSome (step state line).reply (Some bytes) written) (rows_some : AppendsSome (step state line).rows (Some rows) grown)
    (rows_first : AppendsAll (step state line).rows (Some rows) grown ⊎ (written ≡ Some bytes)) where
  rows_whole : length (step state line).reply ≤ length some.0 → length (step state line).rows ≤ length rows_some.0
  rows_whole short = cases rows_first where
    cases : AppendsAll (step state line).rows (Some rows) grown ⊎ (written ≡ Some bytes) → length (step state line).rows ≤ length rows_some.0
    cases (inl all) =
        let same : rows ++ (step state line).rows ≡ rows ++ rows_some.0 = cc in
        omega (arith, ap length same, length-append rows (step state line).rows, length-append rows rows_some.0)
    cases (inr same) =
        let none : bytes ≡ bytes ++ some.0 = cc in
        let unsaid : (step state line).reply ≡ [] = nil_from_length (step state line).reply (omega (arith, ap length none, length-append bytes some.0, short)) in
        omega (arith, ap length (told state line unsaid))

  with_first : (ls : List (List ℕ)) → length (answers step state (line ∷ ls)).reply ≤ length some.0 → length (answers step state (line ∷ ls)).rows ≤ length rows_some.0
  with_first ls short =
      let o = step state line in
      let rest = answers step o.state ls in
      let size : length o.reply ≡ length some.0 + length some.1 = ap length some.2 ∙ length-append some.0 some.1 in
      let whole : length (o.reply ++ rest.reply) ≡ length o.reply + length rest.reply = length-append o.reply rest.reply in
      let quiet : rest.rows ≡ [] = silent step told o.state ls (nil_from_length rest.reply (omega (arith, short, size, whole))) in
      omega (arith, length-append o.rows rest.rows, ap length quiet, rows_whole (omega (arith, short, whole)))

  each_first : (ls ms : List (List ℕ)) → line ∷ more ≡ ls ++ ms → length (answers step state ls).reply ≤ length some.0 → length (answers step state ls).rows ≤ length rows_some.0
  each_first [] ms e short = omega arith
  each_first (l ∷ ls) ms e short =
      let is : line ≡ l = cc in
      subst (λ x. length (answers step state (x ∷ ls)).reply ≤ length some.0 → length (answers step state (x ∷ ls)).rows ≤ length rows_some.0) is (with_first ls) short

  stops_within : RowsComeFirst step state (line ∷ more) bytes rows written grown
  stops_within = record {
    bytes = some.0;
    rows = rows_some.0;
    bytes_are = some.3;
    rows_are = rows_some.3;
    first = each_first;
  }

-- a line was served that is the first of a text
first_served : {S : Type 0} (step : S → List ℕ → Outcome S) (told : TellsRows step) (state : S) (text line rest : List ℕ) (next : S) (ahead : Option (List ℕ)) (old new : Output) (r : Result Answer Ending)
    → lines_of text ≡ line ∷ lines_of rest
    → ahead ≡ Some rest
    → Serves (step state line) next old new r
    → Turns step state text next ahead old new (turn_of r)
first_served step told state text line rest next ahead old new (Ok answer) lines is serves =
    record { line = line; rest = rest; lines = lines; ahead_is = is; served = serves.served; written = record { bytes = serves.all; rows = serves.rows_all } }
first_served {S} step told state text line rest next ahead old new (Err ending) lines is serves =
    let o : Outcome S = step state line in
    let later : Outcome S = answers step o.state (lines_of rest) in
    record {
      bytes = rw lines (some_more o.reply later.reply old.bytes new.bytes serves.some);
      rows = rw lines (some_more o.rows later.rows old.rows new.rows serves.rows_some);
      first = λ bytes rows wrote grew.
          rw lines
          (stops_within step told state line (lines_of rest) bytes rows new.bytes new.rows
          (rw wrote at serves.some) (rw grew at serves.rows_some)
          (elim serves.rows_first [ inl all ↦ inl (rw grew at all) | inr same ↦ inr (same ∙ wrote) ]));
    }

-- a line is the first of a text, and the rest is ahead
pub record IsFirst (text line : List ℕ) (ahead : Option (List ℕ)) : Type 0 where
  pub rest : List ℕ
  pub lines : lines_of text ≡ line ∷ lines_of rest
  pub ahead_is : ahead ≡ Some rest

-- the next line that a reader gives
pub next_line : (text line : List ℕ) (was now : Progress) (left later : Option (List ℕ))
    → GivesTold was now left later (items.Line line)
    → ahead_of was left ≡ Some text
    → IsFirst text line (ahead_of now later)
next_line text line was now None later given ahead = absurd (cc)
next_line text line was now (Some left) None given ahead = absurd given
next_line text line was now (Some left) (Some later) given ahead =
    let here : was.ahead ++ left ≡ text = cc in
    record { rest = now.ahead ++ later; lines = rw (← here) given.0; ahead_is = refl }

-- a line that is longer than those that are served, and the first of a text
pub record IsLongFirst (text : List ℕ) (ahead : Option (List ℕ)) : Type 0 where
  pub line : List ℕ
  pub long : MOST_SCRIPT_LINE_BYTES < length line
  pub is : IsFirst text line ahead

-- a line that a reader skipped
pub next_long : (text : List ℕ) (was now : Progress) (left later : Option (List ℕ))
    → GivesTold was now left later items.Long
    → ahead_of was left ≡ Some text
    → IsLongFirst text (ahead_of now later)
next_long text was now None later given ahead = absurd (cc)
next_long text was now (Some left) None given ahead = absurd given
next_long text was now (Some left) (Some later) given ahead =
    let here : was.ahead ++ left ≡ text = cc in
    record { line = given.0; long = given.2; is = record { rest = now.ahead ++ later; lines = rw (← here) given.1; ahead_is = refl } }

-- the first line of a text was served
pub line_turn : {S : Type 0} (step : S → List ℕ → Outcome S) (told : TellsRows step) (state : S) (text line : List ℕ) (next : S) (ahead : Option (List ℕ)) (old new : Output) (r : Result Answer Ending)
    → IsFirst text line ahead
    → Serves (step state line) next old new r
    → Turns step state text next ahead old new (turn_of r)
line_turn step told state text line next ahead old new r first serves = first_served step told state text line first.rest next ahead old new r first.lines first.ahead_is serves

-- what stops a line stops the turn
pub turn_stopped : (progress : Progress) (old new : Counts) (r : Result Answer Ending)
    → IfErr r (λ ending. StopsLine ending old.sink new.sink old.disk new.disk old.trees new.trees)
    → IfErr (turn_of r) (λ ending. StopsTurn ending progress old new)
turn_stopped progress old new (Ok answer) stops = tt
turn_stopped progress old new (Err endings.Done) stops = absurd stops
turn_stopped progress old new (Err endings.SomeRefused) stops = absurd stops
turn_stopped progress old new (Err endings.NoMemory) stops = tt
turn_stopped progress old new (Err endings.ReadFault) stops = absurd stops
turn_stopped progress old new (Err endings.WriteFault) stops = stops
turn_stopped progress old new (Err endings.DiskFault) stops = stops
turn_stopped progress old new (Err endings.TreesFault) stops = stops
turn_stopped progress old new (Err endings.TooMuch) stops = absurd stops

-- nothing was written of a text, the run having stopped before a line was served
pub fault_turn : {S : Type 0} (step : S → List ℕ → Outcome S) → TellsRows step → (state : S) (text : List ℕ) (all : Output) → StopsAmid step state text all all
fault_turn step told state text all = record {
  bytes = same_some (answers step state (lines_of text)).reply all.bytes all.bytes refl;
  rows = same_some (answers step state (lines_of text)).rows all.rows all.rows refl;
  first = λ bytes rows wrote grew. record {
    bytes = [];
    rows = [];
    bytes_are = wrote ∙ ap Some (sym (append-nil bytes));
    rows_are = grew ∙ ap Some (sym (append-nil rows));
    first = λ ls ms lines short. omega (arith, ap length (silent step told state ls (nil_from_length (answers step state ls).reply (omega (arith, short)))));
  };
}
