-- How lines are kept, one after another.
use Rattle.std.proofs.Common.{◌≡◌, ◌∙◌, refl, sym, ap, subst, ℕ, ◌+◌, ◌<◌, ◌≤◌, arith, Bool, true, false, ◌||◌, List, [], ◌∷◌, ◌++◌, append-nil, append_assoc, length, Option, Some, None, option_map, Result, Ok, Err, IfErr, IfOk, if◌then◌else◌}
use Rattle.std.specs.Prelude.{IsOk, OnOk}
use Rattle.std.specs.List.{list_any}
use Rattle.std.proofs.lemmas.Bool.{false≢true}
use Rattle.std.proofs.lemmas.Bool.Decides.{nat_tests}
use Rattle.std.proofs.lemmas.List.Folds.{list_any-append}
use Rattle.cov_base.specs.Lines.{lines_of}
use Rattle.cov_base.specs.declared.limits.TheConstants.{MOST_SCRIPT_LINE_BYTES}
use Rattle.cov_import.specs.Sources.{StopsAt, StopsReading, TakesFirst, TakesNone, is_long, kept_lines, kept_with, read_of}
use Rattle.cov_io.specs.Items.{Gives, GivesTold}
use Rattle.cov_io.specs.Progress.{Progress}
use Rattle.cov_io.specs.declared.reading.Item.{Item}
use Rattle.cov_io.specs.declared.reading.Item.TheVariants as items
use Rattle.cov_io.specs.declared.reading.LineFault.{LineFault}
use Rattle.cov_io.specs.declared.reading.LineFault.TheVariants as faults
use Rattle.cov_loop.specs.Counts.{Counted, Counts}
use Rattle.cov_loop.proofs.CallerLemmas.{nothing_next}
use Rattle.cov_loop.specs.Turns.{ahead_of}

-- a line more is kept of lines of which none is too long, or some is
one_more : (lines : List (List ℕ)) (line : List ℕ) (long : Bool) → list_any is_long lines ≡ long
    → kept_with (if long then None else Some lines) line ≡ (if long || is_long line then None else Some (lines ++ line ∷ []))
one_more lines line true e = refl
one_more lines line false e = refl

with_one : (lines : List (List ℕ)) (line : List ℕ) → kept_with (kept_lines lines) line ≡ kept_lines (lines ++ line ∷ [])
with_one lines line =
    one_more lines line (list_any is_long lines) refl
    ∙ sym (ap (λ b. if b then None else Some (lines ++ line ∷ [])) (list_any-append is_long lines (line ∷ []) ∙ ap (λ b. list_any is_long lines || b) (or_none (is_long line))))
  where
    or_none : (b : Bool) → (b || false) ≡ b
    or_none true = refl
    or_none false = refl

-- so far into a text: its first lines are kept behind others, and the rest is ahead
pub record KeepsOn (before : List (List ℕ)) (text : List ℕ) (kept : Option (List (List ℕ))) (ahead : Option (List ℕ)) : Type 0 where
  pub taken : List (List ℕ)
  pub rest : List ℕ
  pub lines : lines_of text ≡ taken ++ lines_of rest
  pub ahead_is : ahead ≡ Some rest
  pub kept_is : kept ≡ kept_lines (before ++ taken)

pub begins : (before : List (List ℕ)) (text : List ℕ) (kept : Option (List (List ℕ))) (ahead : Option (List ℕ)) → ahead ≡ Some text → kept ≡ kept_lines before → KeepsOn before text kept ahead
begins before text kept ahead told is = record {
  taken = [];
  rest = text;
  lines = refl;
  ahead_is = told;
  kept_is = is ∙ ap kept_lines (sym (append-nil before));
}

-- one line more is kept
pub keeps_on : {before : List (List ℕ)} {text : List ℕ} {old : Option (List (List ℕ))} {ahead : Option (List ℕ)} (new : Option (List (List ℕ))) (ahead' : Option (List ℕ)) → KeepsOn before text old ahead
    → ((t : List ℕ) → ahead ≡ Some t → TakesFirst t old new ahead') → KeepsOn before text new ahead'
keeps_on {before} {text} {old} {ahead} new ahead' so_far next =
    let first : TakesFirst so_far.rest old new ahead' = next so_far.rest so_far.ahead_is in
    record {
      taken = so_far.taken ++ first.line ∷ [];
      rest = first.rest;
      lines = so_far.lines ∙ ap (λ ls. so_far.taken ++ ls) first.lines ∙ sym (append_assoc so_far.taken (first.line ∷ []) (lines_of first.rest));
      ahead_is = first.ahead_is;
      kept_is = first.kept ∙ ap (λ k. kept_with k first.line) so_far.kept_is ∙ with_one (before ++ so_far.taken) first.line ∙ ap kept_lines (append_assoc before so_far.taken (first.line ∷ []));
    }

-- no line is left
pub keeps_all : {before : List (List ℕ)} {text : List ℕ} {old : Option (List (List ℕ))} {ahead : Option (List ℕ)} (new : Option (List (List ℕ))) (ahead' : Option (List ℕ)) → KeepsOn before text old ahead
    → ((t : List ℕ) → ahead ≡ Some t → TakesNone t old new ahead') → (new ≡ kept_lines (before ++ lines_of text)) × (ahead' ≡ Some [])
keeps_all {before} {text} {old} {ahead} new ahead' so_far next =
    let none : TakesNone so_far.rest old new ahead' = next so_far.rest so_far.ahead_is in
    let whole : lines_of text ≡ so_far.taken = so_far.lines ∙ ap (λ r. so_far.taken ++ lines_of r) none.text_is ∙ append-nil so_far.taken in
    (none.kept ∙ so_far.kept_is ∙ ap (λ ls. kept_lines (before ++ ls)) (sym whole), none.ahead_is)

-- where nothing is ahead, nothing is left
pub left_is_empty : (progress : Progress) (left : Option (List ℕ)) → ahead_of progress left ≡ Some [] → left ≡ Some []
left_is_empty progress None e = absurd (cc)
left_is_empty progress (Some bytes) e =
    let none : progress.ahead ++ bytes ≡ [] = cc in
    ap Some (nothing_next progress.ahead bytes none)

-- the bytes that are ahead of a reader of lines that has taken nothing
pub ahead_first : (lines : Progress) (left : Option (List ℕ)) (text : List ℕ) → lines ≡ record { ahead = []; taken = 0; ended = false } → left ≡ Some text → ahead_of lines left ≡ Some text
ahead_first lines left text is e = subst (λ p. ahead_of p left ≡ Some text) (sym is) (ap (option_map (λ (bytes : List ℕ). [] ++ bytes)) e)

-- an item is what is next in the text that is ahead
pub given : (text : List ℕ) (old new : Progress) (left later : Option (List ℕ)) (item : Item) → GivesTold old new left later item → ahead_of old left ≡ Some text
    → (rest : List ℕ) × (ahead_of new later ≡ Some rest) × Gives text rest item
given text old new None later item h e = absurd (cc)
given text old new (Some left) None item h e = absurd h
given text old new (Some left) (Some later) item h e =
    let same : old.ahead ++ left ≡ text = cc in
    (new.ahead ++ later, refl, subst (λ t. Gives t (new.ahead ++ later) item) same h)

is_short : (line : List ℕ) → length line ≤ MOST_SCRIPT_LINE_BYTES → is_long line ≡ false
is_short line h = grind (arith, nat_tests, h)

is_over : (line : List ℕ) → MOST_SCRIPT_LINE_BYTES < length line → is_long line ≡ true
is_over line h = grind (arith, nat_tests, h)

-- a line that is short enough is kept behind the others
kept_short : (old : Option (List (List ℕ))) (line : List ℕ) → is_long line ≡ false → kept_with old line ≡ option_map (λ lines. lines ++ line ∷ []) old
kept_short None line e = refl
kept_short (Some lines) line e = ap (λ b. if b then None else Some (lines ++ line ∷ [])) e

kept_none : (old : Option (List (List ℕ))) (line : List ℕ) → is_long line ≡ true → kept_with old line ≡ None
kept_none None line e = refl
kept_none (Some lines) line e = ap (λ b. if b then None else Some (lines ++ line ∷ [])) e

pub takes_line : (text line : List ℕ) (old new : Progress) (left later : Option (List ℕ)) (kept kept' : Option (List (List ℕ))) → GivesTold old new left later (items.Line line) → ahead_of old left ≡ Some text
    → kept' ≡ option_map (λ lines. lines ++ line ∷ []) kept → TakesFirst text kept kept' (ahead_of new later)
takes_line text line old new left later kept kept' h e is =
    let next = given text old new left later (items.Line line) h e in
    record {
      line = line;
      rest = next.0;
      lines = next.2.0;
      ahead_is = next.1;
      kept = is ∙ sym (kept_short kept line (is_short line next.2.1));
    }

pub takes_long : (text : List ℕ) (old new : Progress) (left later : Option (List ℕ)) (kept kept' : Option (List (List ℕ))) → GivesTold old new left later items.Long → ahead_of old left ≡ Some text
    → kept' ≡ None → TakesFirst text kept kept' (ahead_of new later)
takes_long text old new left later kept kept' h e is =
    let next = given text old new left later items.Long h e in
    record {
      line = next.2.0;
      rest = next.0;
      lines = next.2.1;
      ahead_is = next.1;
      kept = is ∙ sym (kept_none kept next.2.0 (is_over next.2.0 next.2.2));
    }

pub takes_none : (text : List ℕ) (old new : Progress) (left later : Option (List ℕ)) (kept : Option (List (List ℕ))) → GivesTold old new left later items.End → ahead_of old left ≡ Some text
    → TakesNone text kept kept (ahead_of new later)
takes_none text old new left later kept h e =
    let next = given text old new left later items.End h e in
    record { text_is = next.2.0; ahead_is = next.1 ∙ ap Some next.2.1; kept = refl }

-- why a source isn't read to its end, nothing having been taken before
pub stops_reading : (fault : LineFault) (lines progress : Progress) (old new : Counts) → lines ≡ record { ahead = []; taken = 0; ended = false } → Counted lines progress old new → StopsAt fault progress old new → StopsReading fault old new
stops_reading faults.ReadFault lines progress old new is counted h = h
stops_reading faults.TooMuch lines progress old new is counted h =
    let end = counted.ended.unended h.1 in
    (omega (arith, h.0, counted.taken, ap (λ (p : Progress). p.taken) is), end.1)
stops_reading faults.Memory lines progress old new is counted h = tt

-- a line that was kept is one more
pub if_more : {X E F : Type 0} (kept : Result X E) (r : Result Bool F) (P : Bool → Type 0) → IfOk r (λ more. (more ≡ true) × IsOk kept) → OnOk kept (P true) → IfOk r P
if_more (Ok x) (Ok more) P is h = subst P (sym is.0) h
if_more (Err fault) (Ok more) P is h = absurd (false≢true is.1)
if_more kept (Err fault) P is h = tt

-- what holds of all that was kept, and why not all was read
pub read_keeps : {X : Type 0} (kept : Option (List (List ℕ))) (read : Result X LineFault) (P : Option (List (List ℕ)) → Type 0) → OnOk read (P kept) → IfOk (read_of kept read) P
read_keeps kept (Ok x) P h = h
read_keeps kept (Err fault) P h = tt

pub read_on : {X : Type 0} (kept : Option (List (List ℕ))) (read : Result X LineFault) (P : Type 0) → OnOk read P → OnOk (read_of kept read) P
read_on kept (Ok x) P h = h
read_on kept (Err fault) P h = tt

pub read_stops : {X : Type 0} (kept : Option (List (List ℕ))) (read : Result X LineFault) (P Q : LineFault → Type 0) → ((fault : LineFault) → P fault → Q fault) → IfErr read P → IfErr (read_of kept read) Q
read_stops kept (Ok x) P Q to h = tt
read_stops kept (Err fault) P Q to h = to fault h
