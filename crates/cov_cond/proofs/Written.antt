-- The lines of a file written one after another are its conditional text.
use Rattle.std.proofs.Common.{◌≡◌, ℕ, ◌+◌, ◌<◌, Bool, true, false, cond, ◌&&◌, ◌||◌, not, nat_eq, nat_lt, List, [], ◌∷◌, ◌++◌, map, length, append_assoc, append-nil, Option, Some, None, Result, Ok, Err, if◌then◌else◌, refl, sym, ap, subst, ◌∙◌, arith}
use Rattle.std.specs.Prelude.{codes}
use Rattle.std.specs.List.{filter, find, flat_map, AllByRecursion}
use Rattle.std.specs.Cmp.Lexicographic.{pointwise}
use Rattle.std.proofs.lemmas.Bool.Decides.{nat_tests}
use Rattle.cov_base.specs.Addresses.{line_of, IsLineOf}
use Rattle.cov_base.proofs.CallerLemmas.{all-filter, line_of-in}
use Rattle.cov_edit.specs.declared.command.Command.{Command}
use Rattle.cov_edit.specs.History.{options_of}
use Rattle.cov_edit.specs.Numbering.{numbers_of}
use Rattle.cov_vis.specs.declared.listing.Child.{Child}
use Rattle.cov_vis.specs.declared.listing.Child.TheVariants.{F, T, At}
use Rattle.cov_vis.specs.declared.listing.ListingEntry.{ListingEntry}
use Rattle.cov_vis.specs.Listings.{ListingValue, same_child, same_entry}
use Rattle.cov_history.specs.Files.{DatedLine, dated, file_dated}
use Rattle.cov_history.specs.Kept.{Kept, kept_address, kept_number, kept_of, file_kept}
use Rattle.cov_edit.specs.Variant.{Line}
use Rattle.cov_history.proofs.CallerLemmas.{all-mapped, holding-stands}
use Rattle.cov_engine.specs.Visibility.{as_row, is_no_line}
use Rattle.cov_cond.specs.Exporting.{PresentLine, present_line, present_lines, is_nowhere, same_listing, Listed, onto_listed, listed, text_line, enclosed, listed_lines, is_short, unless_long, exported}
use Rattle.cov_cond.specs.Writing.{Written, if_line, beginning, end_line, ending, with_run, with_present, then_written, written, present_row, writing}
use Rattle.cov_cond.specs.declared.fault.ExportFault.{ExportFault}
use Rattle.cov_cond.specs.declared.fault.ExportFault.TheVariants as faults
use Rattle.cov_cond.proofs.Exported.{same_listing-is}

child-itself : (x : Child) → same_child x x ≡ true
child-itself F = refl
child-itself T = refl
child-itself (At i) = grind (arith, nat_tests)

entry-itself : (e : ListingEntry) → same_entry e e ≡ true
entry-itself e = λ i. option i && (child-itself e.off i && child-itself e.on i)
  where
    option : nat_eq e.option e.option ≡ true
    option = grind (arith, nat_tests)

entries-themselves : (es : List ListingEntry) → pointwise same_entry es es ≡ true
entries-themselves [] = refl
entries-themselves (e ∷ es) = λ i. entry-itself e i && entries-themselves es i

pub listing-itself : (l : ListingValue) → same_listing l l ≡ true
listing-itself l = λ i. child-itself l.root i && entries-themselves l.entries i

-- lines before others, unless there is a fault
abbrev before : List (List ℕ) → Result (List (List ℕ)) ExportFault → Result (List (List ℕ)) ExportFault
before lines (Ok more) = Ok (lines ++ more)
before lines (Err fault) = Err fault

before-twice : (a b : List (List ℕ)) (r : Result (List (List ℕ)) ExportFault) → before a (before b r) ≡ before (a ++ b) r
before-twice a b (Ok more) = ap Ok (sym (append_assoc a b more))
before-twice a b (Err fault) = refl

before-unless : (o : Option Listed) (a b : List (List ℕ)) → unless_long o (a ++ b) ≡ before a (unless_long o b)
before-unless None a b = refl
before-unless (Some r) a b = refl

module _ (names : List (List ℕ)) where
  -- whether a run's expression is too long
  abbrev is_long : Listed → Bool
  is_long r = not (is_short names r.first.listing)

  -- runs as they are exported
  abbrev runs_exported : List Listed → Result (List (List ℕ)) ExportFault
  runs_exported rs = unless_long (find is_long rs) (flat_map (listed_lines names) rs)

  first-exported : (r : Listed) (rs : List Listed)
      → runs_exported (r ∷ rs) ≡ (if is_short names r.first.listing then before (listed_lines names r) (runs_exported rs) else Err (faults.TooLong r.first.line))
  first-exported r rs = at (is_short names r.first.listing)
    where
      at : (b : Bool) → unless_long (cond (not b) (Some r) (find is_long rs)) (listed_lines names r ++ flat_map (listed_lines names) rs)
          ≡ (if b then before (listed_lines names r) (runs_exported rs) else Err (faults.TooLong r.first.line))
      at true = before-unless (find is_long rs) (listed_lines names r) (flat_map (listed_lines names) rs)
      at false = refl

  -- a run's lines begin with what stands before the first of them, and end with what stands behind the last
  enclosed-parts : (l : ListingValue) (text : List ℕ) (texts : List (List ℕ)) → enclosed names l (text ∷ texts) ≡ (beginning names l ++ text ∷ []) ++ (texts ++ ending (Some l))
  enclosed-parts l text texts = at (same_child l.root T) ∙ sym (append_assoc (beginning names l) (text ∷ []) (texts ++ ending (Some l)))
    where
      ifs : List ℕ
      ifs = if_line names l

      at : (b : Bool) → (if b then text ∷ texts else ifs ∷ ((text ∷ texts) ++ codes "#endif" ∷ [])) ≡ (if b then [] else ifs ∷ []) ++ ((text ∷ []) ++ (texts ++ end_line b))
      at true = ap (λ ts. text ∷ ts) (sym (append-nil texts))
      at false = refl

  before-enclosed : (l : ListingValue) (text : List ℕ) (texts : List (List ℕ)) (r : Result (List (List ℕ)) ExportFault)
      → before (enclosed names l (text ∷ texts)) r ≡ before (beginning names l ++ text ∷ []) (before (texts ++ ending (Some l)) r)
  before-enclosed l text texts r = ap (λ ts. before ts r) (enclosed-parts l text texts) ∙ sym (before-twice (beginning names l ++ text ∷ []) (texts ++ ending (Some l)) r)

  -- what follows where a run with a listing goes on
  abbrev continued : ListingValue → List Listed → Result (List (List ℕ)) ExportFault
  continued m [] = Ok (ending (Some m))
  continued m (r ∷ rs) =
      if same_listing m r.first.listing
      then before (map text_line (r.first.text ∷ r.others) ++ ending (Some m)) (runs_exported rs)
      else before (ending (Some m)) (runs_exported (r ∷ rs))

  -- a line begins a run
  begun : (l : PresentLine) (rs : List Listed)
      → runs_exported (onto_listed l rs) ≡ (if is_short names l.listing then before (beginning names l.listing ++ text_line l.text ∷ []) (continued l.listing rs) else Err (faults.TooLong l.line))
  begun l [] =
      first-exported (record { first = l; others = [] }) []
      ∙ (λ i. if is_short names l.listing then own i else Err (faults.TooLong l.line))
    where
      own : before (enclosed names l.listing (text_line l.text ∷ [])) (Ok []) ≡ before (beginning names l.listing ++ text_line l.text ∷ []) (Ok (ending (Some l.listing)))
      own = before-enclosed l.listing (text_line l.text) [] (Ok []) ∙ ap (λ ts. before (beginning names l.listing ++ text_line l.text ∷ []) (Ok ts)) (append-nil (ending (Some l.listing)))
  begun l (r ∷ rs) = at (same_listing l.listing r.first.listing)
    where
      at : (b : Bool) → runs_exported (if b then record { first = l; others = r.first.text ∷ r.others } ∷ rs else record { first = l; others = [] } ∷ r ∷ rs)
          ≡ (if is_short names l.listing
          then before (beginning names l.listing ++ text_line l.text ∷ []) (if b
          then before (map text_line (r.first.text ∷ r.others) ++ ending (Some l.listing)) (runs_exported rs)
          else before (ending (Some l.listing)) (runs_exported (r ∷ rs)))
          else Err (faults.TooLong l.line))
      at true =
          first-exported (record { first = l; others = r.first.text ∷ r.others }) rs
          ∙ (λ i. if is_short names l.listing then before-enclosed l.listing (text_line l.text) (map text_line (r.first.text ∷ r.others)) (runs_exported rs) i else Err (faults.TooLong l.line))
      at false =
          first-exported (record { first = l; others = [] }) (r ∷ rs)
          ∙ (λ i. if is_short names l.listing then before-enclosed l.listing (text_line l.text) [] (runs_exported (r ∷ rs)) i else Err (faults.TooLong l.line))

  -- a line with the listing of the run that goes on
  same-continued : (l : PresentLine) (rs : List Listed) → continued l.listing (onto_listed l rs) ≡ before (text_line l.text ∷ []) (continued l.listing rs)
  same-continued l [] =
      ap (λ b. if b then before (text_line l.text ∷ ending (Some l.listing)) (Ok []) else before (ending (Some l.listing)) (runs_exported (record { first = l; others = [] } ∷ []))) (listing-itself l.listing)
      ∙ ap (λ ts. Ok (text_line l.text ∷ ts)) (append-nil (ending (Some l.listing)))
  same-continued l (r ∷ rs) = at (same_listing l.listing r.first.listing)
    where
      at : (b : Bool) → continued l.listing (if b then record { first = l; others = r.first.text ∷ r.others } ∷ rs else record { first = l; others = [] } ∷ r ∷ rs)
          ≡ before (text_line l.text ∷ []) (if b
          then before (map text_line (r.first.text ∷ r.others) ++ ending (Some l.listing)) (runs_exported rs)
          else before (ending (Some l.listing)) (runs_exported (r ∷ rs)))
      at true =
          ap (λ b. if b
          then before (text_line l.text ∷ (map text_line (r.first.text ∷ r.others) ++ ending (Some l.listing))) (runs_exported rs)
          else before (ending (Some l.listing)) (runs_exported (record { first = l; others = r.first.text ∷ r.others } ∷ rs))) (listing-itself l.listing)
          ∙ sym (before-twice (text_line l.text ∷ []) (map text_line (r.first.text ∷ r.others) ++ ending (Some l.listing)) (runs_exported rs))
      at false =
          ap (λ b. if b
          then before (text_line l.text ∷ ending (Some l.listing)) (runs_exported (r ∷ rs))
          else before (ending (Some l.listing)) (runs_exported (record { first = l; others = [] } ∷ r ∷ rs))) (listing-itself l.listing)
          ∙ sym (before-twice (text_line l.text ∷ []) (ending (Some l.listing)) (runs_exported (r ∷ rs)))

  -- a line with another listing
  other-continued : (m : ListingValue) (l : PresentLine) (rs : List Listed) → same_listing m l.listing ≡ false
      → continued m (onto_listed l rs) ≡ before (ending (Some m)) (runs_exported (onto_listed l rs))
  other-continued m l [] e =
      ap (λ b. if b
      then before (map text_line (l.text ∷ []) ++ ending (Some m)) (runs_exported [])
      else before (ending (Some m)) (runs_exported (record { first = l; others = [] } ∷ []))) e
  other-continued m l (r ∷ rs) e = at (same_listing l.listing r.first.listing)
    where
      at : (b : Bool) → continued m (if b then record { first = l; others = r.first.text ∷ r.others } ∷ rs else record { first = l; others = [] } ∷ r ∷ rs)
          ≡ before (ending (Some m)) (runs_exported (if b then record { first = l; others = r.first.text ∷ r.others } ∷ rs else record { first = l; others = [] } ∷ r ∷ rs))
      at true =
          ap (λ b. if b
          then before (map text_line (l.text ∷ r.first.text ∷ r.others) ++ ending (Some m)) (runs_exported rs)
          else before (ending (Some m)) (runs_exported (record { first = l; others = r.first.text ∷ r.others } ∷ rs))) e
      at false =
          ap (λ b. if b
          then before (map text_line (l.text ∷ []) ++ ending (Some m)) (runs_exported (r ∷ rs))
          else before (ending (Some m)) (runs_exported (record { first = l; others = [] } ∷ r ∷ rs))) e

  -- all that is written with lines that some choices have
  abbrev present_written : Written → List PresentLine → Result (List (List ℕ)) ExportFault
  present_written w [] = Ok (w.lines ++ ending w.run)
  present_written w (l ∷ ls) = then_written (with_present names w l) (λ x. present_written x ls)

  -- a run begins, and what follows
  then-if : (b : Bool) (w : Written) (line : ℕ) (go : Written → Result (List (List ℕ)) ExportFault)
      → then_written (if b then Ok w else Err (faults.TooLong line)) go ≡ (if b then go w else Err (faults.TooLong line))
  then-if true w line go = refl
  then-if false w line go = refl

  before-if : (b : Bool) (w e : List (List ℕ)) (r : Result (List (List ℕ)) ExportFault) (line : ℕ)
      → (if b then before (w ++ e) r else Err (faults.TooLong line)) ≡ before w (before e (if b then r else Err (faults.TooLong line)))
  before-if true w e r line = sym (before-twice w e r)
  before-if false w e r line = refl

  go_on : (w : List (List ℕ)) (m : ListingValue) (ls : List PresentLine) → present_written (record { lines = w; run = Some m }) ls ≡ before w (continued m (listed ls))
  go_on w m [] = refl
  go_on w m (l ∷ ls) = at (same_listing m l.listing) refl (λ v n. go_on v n ls)
    where
      text : List ℕ
      text = text_line l.text

      start : List (List ℕ)
      start = beginning names l.listing ++ text ∷ []

      at : (b : Bool) → same_listing m l.listing ≡ b → ((v : List (List ℕ)) (n : ListingValue) → present_written (record { lines = v; run = Some n }) ls ≡ before v (continued n (listed ls)))
          → then_written (if b then Ok (record { lines = w ++ text ∷ []; run = Some m }) else with_run names (record { lines = w; run = Some m }) l) (λ x. present_written x ls)
          ≡ before w (continued m (onto_listed l (listed ls)))
      at true e rest =
          rest (w ++ text ∷ []) m
          ∙ sym (before-twice w (text ∷ []) (continued m (listed ls)))
          ∙ ap (before w) (subst (λ n. before (text ∷ []) (continued n (listed ls)) ≡ continued n (onto_listed l (listed ls))) (sym (same_listing-is m l.listing e)) (sym (same-continued l (listed ls))))
      at false e rest =
          then-if (is_short names l.listing) (record { lines = w ++ (ending (Some m) ++ start); run = Some l.listing }) l.line (λ x. present_written x ls)
          ∙ (λ i. if is_short names l.listing then further i else Err (faults.TooLong l.line))
          ∙ before-if (is_short names l.listing) w (ending (Some m)) (before start (continued l.listing (listed ls))) l.line
          ∙ ap (λ r. before w (before (ending (Some m)) r)) (sym (begun l (listed ls)))
          ∙ ap (before w) (sym (other-continued m l (listed ls) e))
        where
          further : present_written (record { lines = w ++ (ending (Some m) ++ start); run = Some l.listing }) ls ≡ before (w ++ ending (Some m)) (before start (continued l.listing (listed ls)))
          further =
              rest (w ++ (ending (Some m) ++ start)) l.listing
              ∙ ap (λ ts. before ts (continued l.listing (listed ls))) (sym (append_assoc w (ending (Some m)) start))
              ∙ sym (before-twice (w ++ ending (Some m)) start (continued l.listing (listed ls)))

  begin : (ls : List PresentLine) → present_written (record { lines = []; run = None }) ls ≡ runs_exported (listed ls)
  begin [] = refl
  begin (l ∷ ls) =
      then-if (is_short names l.listing) (record { lines = beginning names l.listing ++ text_line l.text ∷ []; run = Some l.listing }) l.line (λ x. present_written x ls)
      ∙ (λ i. if is_short names l.listing then go_on (beginning names l.listing ++ text_line l.text ∷ []) l.listing ls i else Err (faults.TooLong l.line))
      ∙ sym (begun l (listed ls))

  -- lines that no choice has are left out
  abbrev is_somewhere : PresentLine → Bool
  is_somewhere l = not (is_nowhere l.listing)

  left-out : (w : Written) (ls : List PresentLine) → written names w ls ≡ present_written w (filter is_somewhere ls)
  left-out w [] = refl
  left-out w (l ∷ ls) = at (is_nowhere l.listing) (λ x. left-out x ls)
    where
      at : (b : Bool) → ((x : Written) → written names x ls ≡ present_written x (filter is_somewhere ls))
          → then_written (if b then Ok w else with_present names w l) (λ x. written names x ls) ≡ present_written w (cond (not b) (l ∷ filter is_somewhere ls) (filter is_somewhere ls))
      at true rest = rest w
      at false rest = λ i. then_written (with_present names w l) (λ x. rest x i)

-- the rows of a file are its lines with their presence
rows-present : (history : List Command) (ds : List DatedLine) → map (present_row history) (map as_row ds) ≡ map (present_line history) ds
rows-present history [] = refl
rows-present history (d ∷ ds) = ap (λ ls. present_line history d ∷ ls) (rows-present history ds)

-- so what is written of a file's rows is what is exported of the file
pub rows-exported : (history : List Command) (file : ℕ) → written (options_of history) (writing history [] None) (map (present_row history) (map as_row (file_dated file (kept_of history)))) ≡ exported history file
unfolding exported
rows-exported history file =
    ap (written (options_of history) (writing history [] None)) (rows-present history (file_dated file (kept_of history)))
    ∙ left-out (options_of history) (writing history [] None) (map (present_line history) (file_dated file (kept_of history)))
    ∙ begin (options_of history) (present_lines history file)

-- each line of a file is one of the history
pub rows-known : (history : List Command) (file : ℕ) → AllByRecursion (λ r. is_no_line history r.line ≡ false) (map as_row (file_dated file (kept_of history)))
rows-known history file =
    all-mapped (λ d. is_no_line history d.line ≡ false) (λ r. is_no_line history r.line ≡ false) as_row (λ d h. h) (file_dated file (kept_of history))
    (all-mapped IsNumbered (λ d. is_no_line history d.line ≡ false) dated known (file_kept file (kept_of history))
    (all-filter IsNumbered (λ k. nat_eq k.item.file file) (kept_of history) (holding-stands history).1.numbered_lines))
  where
    t : List (List ℕ)
    t = (numbers_of history).addresses

    IsNumbered : Kept Line → Type 0
    IsNumbered k = IsLineOf t (length t) (kept_address k)

    by : (n number before : ℕ) → before < n → number ≡ before + 1 → (nat_eq number 0 || nat_lt n number) ≡ false
    by n number before less is = grind (arith, nat_tests, less, is)

    known : (k : Kept Line) → IsNumbered k → is_no_line history (kept_number k) ≡ false
    known k is =
        let less : is.0 < length t = is.1 in
        by (length t) (kept_number k) is.0 less (ap line_of is.2 ∙ line_of-in t is.0 (holding-stands history).0 less ∙ omega arith)
