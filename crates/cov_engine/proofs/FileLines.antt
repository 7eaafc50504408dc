-- The lines of the files that are shown.
use Rattle.std.specs.List.{fold, filter, AllByRecursion}
use Rattle.std.proofs.Common.{◌≡◌, refl, ap, sym, subst, ◌∙◌, ℕ, Bool, true, false, cond, ◌||◌, List, [], ◌∷◌, ◌++◌, map, take, Some, None, nat_eq, length, ◌+◌, ◌≤◌, arith}
use Rattle.std.proofs.lemmas.Bool.Decides.{nat_tests}
use Rattle.cov_base.specs.declared.number.Kind.{Kind}
use Rattle.cov_base.specs.declared.number.Kind.TheVariants as kinds
use Rattle.cov_base.specs.declared.number.NodeRef.{NodeRef}
use Rattle.cov_base.specs.declared.number.NodeRef.TheVariants as nodes
use Rattle.cov_base.specs.declared.number.LineRef.{LineRef}
use Rattle.cov_base.specs.declared.number.LineRef.TheVariants as lines
use Rattle.cov_base.specs.Addresses.{line_of}
use Rattle.cov_base.proofs.CallerLemmas.{all-map, all-filter}
use Rattle.cov_dd.specs.declared.triple.Triple.{Triple}
use Rattle.cov_edit.specs.declared.command.Command.{Command}
use Rattle.cov_edit.specs.History.{option_count}
use Rattle.cov_edit.specs.Numbering.{Numbers, line_number}
use Rattle.cov_edit.specs.Variant.{Variant, Line, lines_of}
use Rattle.cov_edit.specs.Replay.{replay}
use Rattle.cov_base.specs.declared.file_row.FileRow.{FileRow}
use Rattle.cov_file.specs.Dated.{DatedLine as FileLine, file_row_of, is_visible, rows_at}
use Rattle.cov_view.specs.declared.line.ViewLine.{ViewLine}
use Rattle.cov_view.specs.declared.row.ViewRow.{ViewRow}
use Rattle.cov_view.specs.References.{is_dir_kind, same_node, is_made_line}
use Rattle.cov_view.specs.Seen.{has_row, kind_in, at_row, old_line, with_lines_by, with_file_row}
use Rattle.cov_view.specs.Views.{ShowsLines, line_by_number, by_number}
use Rattle.cov_view.proofs.CallerLemmas.{lines-added, not_there}
use Rattle.cov_base.specs.Rows.{Row}
use Rattle.cov_visible.specs.declared.file_part.FilePart.{FilePart}
use Rattle.cov_history.specs.Kept.{kept_of}
use Rattle.cov_history.specs.Files.{DatedLine, ShownLine, as_shown, dated_as_shown, dated_shown, is_dated_seen, file_dated}
use Rattle.cov_visible.specs.Nodes.{AreDated}
use Rattle.cov_visible.specs.Reading.{line_row}
use Rattle.cov_visible.specs.Showing.{bare_row, with_lines, with_node, AreFresh}
use Rattle.cov_visible.specs.Parts.{part_of}
use Rattle.cov_engine.specs.Holdings.{IsFileOf}
use Rattle.cov_history.proofs.CallerLemmas.{all-mapped, file-shows}

last-changed : (rows : List ViewRow) (r : ViewRow) (file : NodeRef) (f : ViewRow → ViewRow) → has_row rows file ≡ false → same_node r.node file ≡ true → at_row file f (rows ++ r ∷ []) ≡ rows ++ f r ∷ []
last-changed [] r file f h same = ap (λ b. cond b (f r ∷ []) (r ∷ [])) same
last-changed (s ∷ rows) r file f h same = at (same_node s.node file) (λ k. last-changed rows r file f k same) h
  where
    at : (b : Bool) → (has_row rows file ≡ false → at_row file f (rows ++ r ∷ []) ≡ rows ++ f r ∷ []) → (b || has_row rows file) ≡ false
        → cond b (f s ∷ rows ++ r ∷ []) (s ∷ at_row file f (rows ++ r ∷ [])) ≡ s ∷ rows ++ f r ∷ []
    at true ih k = absurd (cc)
    at false ih k = ap (λ rs. s ∷ rs) (ih k)

abbrev pub row_pair : FileRow → ℕ × List ℕ
row_pair r = (r.line, r.text)

pub pairs : (xs : List Line) → map row_pair (map line_row xs) ≡ map by_number xs
pairs [] = refl
pairs (x ∷ xs) = ap (λ ps. by_number x ∷ ps) (pairs xs)

abbrev shown_row : ShownLine → FileRow
shown_row s = record { line = s.line; text = s.text }

shown-rows : (xs : List Line) → map shown_row (map as_shown xs) ≡ map line_row xs
shown-rows [] = refl
shown-rows (x ∷ xs) = ap (λ rows. line_row x ∷ rows) (shown-rows xs)

pub all-unmapped : {X Y : Type 0} (Q : Y → Type 0) (f : X → Y) (xs : List X) → AllByRecursion Q (map f xs) → AllByRecursion (λ x. Q (f x)) xs
all-unmapped Q f [] h = tt
all-unmapped Q f (x ∷ xs) h = (h.0, all-unmapped Q f xs h.1)

low-line : (count : ℕ) (line : LineRef) → line_number count line ≤ count → is_made_line count 0 line ≡ true
low-line count (lines.Old x) h = let le : x ≤ count = h in grind (arith, nat_tests, le)
low-line count (lines.New i) h = let le : count + 1 + i ≤ count = h in absurd (omega (arith, le))

-- lines with the numbers of a variant's are made
pub lines-made : (numbers : Numbers) (v : Variant) (file : ℕ) (ls : List ViewLine) → AllByRecursion (λ l. line_of l.address ≤ length numbers.addresses) v.lines
    → map by_number (lines_of v file) ≡ map (line_by_number numbers) ls → AllByRecursion (λ l. is_made_line (length numbers.addresses) 0 l.line ≡ true) ls
lines-made numbers v file ls low e =
    all-map (λ l. line_number (length numbers.addresses) l.line ≤ length numbers.addresses) (λ l. is_made_line (length numbers.addresses) 0 l.line ≡ true)
    (λ l h. low-line (length numbers.addresses) l.line h) ls
    (all-unmapped (λ (p : ℕ × List ℕ). p.0 ≤ length numbers.addresses) (line_by_number numbers) ls
    (subst (AllByRecursion (λ (p : ℕ × List ℕ). p.0 ≤ length numbers.addresses)) e
    (all-mapped (λ l. line_of l.address ≤ length numbers.addresses) (λ (p : ℕ × List ℕ). p.0 ≤ length numbers.addresses) by_number (λ l h. h) (lines_of v file)
    (all-filter (λ l. line_of l.address ≤ length numbers.addresses) (λ l. nat_eq l.file file) v.lines low))))

all-one : (P : ViewRow → Type 0) (rows : List ViewRow) (r : ViewRow) → AllByRecursion P rows → P r → AllByRecursion P (rows ++ r ∷ [])
all-one P [] r h p = (p, tt)
all-one P (s ∷ rows) r h p = (h.0, all-one P rows r h.1 p)

-- a row that is last gets the lines that are shown
file-last : (file : ℕ) (rows : List ViewRow) (r : ViewRow) (shown : List FileRow) → has_row rows (nodes.Old file) ≡ false → same_node r.node (nodes.Old file) ≡ true
    → fold (with_file_row file) (rows ++ r ∷ []) shown ≡ rows ++ with_lines_by (λ l. l ++ map old_line shown) r ∷ []
file-last file rows r shown h same = lines-added file shown (rows ++ r ∷ []) ∙ last-changed rows r (nodes.Old file) (with_lines_by (λ l. l ++ map old_line shown)) h same

pub by-row : (numbers : Numbers) (shown : List FileRow) → map (line_by_number numbers) (map old_line shown) ≡ map row_pair shown
by-row numbers [] = refl
by-row numbers (s ∷ shown) = ap (λ ps. row_pair s ∷ ps) (by-row numbers shown)

-- the lines whose nodes are true are those that are seen
dated-rows : (ts : List Triple) (c : List Bool) (at count : ℕ) (ds : List DatedLine) (ls : List FileLine) → AreDated ts count ds ls
    → rows_at ts c at ls ≡ map shown_row (dated_shown c at ds)
dated-rows ts c at count [] [] h = refl
dated-rows ts c at count [] (l ∷ ls) h = absurd h
dated-rows ts c at count (d ∷ ds) [] h = absurd h
dated-rows ts c at count (d ∷ ds) (l ∷ ls) h =
    ap (λ b. map file_row_of (cond b (l ∷ filter (is_visible ts c at) ls) (filter (is_visible ts c at) ls))) ((h.0.nodes at).value c)
    ∙ one (is_dated_seen c at d) (dated-rows ts c at count ds ls h.1)
  where
    one : (b : Bool) → rows_at ts c at ls ≡ map shown_row (dated_shown c at ds)
        → map file_row_of (cond b (l ∷ filter (is_visible ts c at) ls) (filter (is_visible ts c at) ls))
        ≡ map shown_row (map dated_as_shown (cond b (d ∷ filter (is_dated_seen c at) ds) (filter (is_dated_seen c at) ds)))
    one true ih = λ i. record { line = h.0.line i; text = h.0.text i } ∷ ih i
    one false ih = ih

-- the lines of a file that are seen are those of the replay
pub file-rows : (ts : List Triple) (c : List Bool) (at file : ℕ) (history : List Command) (ls : List FileLine) → AreDated ts (option_count history) (file_dated file (kept_of history)) ls
    → rows_at ts c at ls ≡ map line_row (lines_of (replay c (take at history)) file)
file-rows ts c at file history ls are =
    dated-rows ts c at (option_count history) (file_dated file (kept_of history)) ls are
    ∙ ap (map shown_row) (file-shows c at file history)
    ∙ shown-rows (lines_of (replay c (take at history)) file)

module _ (c : List Bool) (at : ℕ) (numbers : Numbers) (history : List Command) (low : AllByRecursion (λ l. line_of l.address ≤ length numbers.addresses) (replay c (take at history)).lines) where
  -- a row shows its lines, all of which are made
  abbrev pub Shown : ViewRow → Type 0
  Shown r = ShowsLines numbers (replay c (take at history)) r × AllByRecursion (λ l. is_made_line (length numbers.addresses) 0 l.line ≡ true) r.lines

module _ (ts : List Triple) (c : List Bool) (at : ℕ) (stored : List FilePart) (numbers : Numbers) (history : List Command) (low : AllByRecursion (λ l. line_of l.address ≤ length numbers.addresses) (replay c (take at history)).lines) where
  abbrev IsShown : ViewRow → Type 0
  IsShown = Shown c at numbers history low

  file-lines : (file : ℕ) (ls : List FileLine) → AreDated ts (option_count history) (file_dated file (kept_of history)) ls
      → map by_number (lines_of (replay c (take at history)) file) ≡ map (line_by_number numbers) (map old_line (rows_at ts c at ls))
  file-lines file ls are =
      sym (pairs (lines_of (replay c (take at history)) file))
      ∙ ap (map row_pair) (sym (file-rows ts c at file history ls are))
      ∙ sym (by-row numbers (rows_at ts c at ls))

  -- the lines of a file are stored
  abbrev pub IsStored : ℕ → Type 0
  IsStored node = (e : FilePart) × (part_of stored node ≡ Some e) × (e.node ≡ node) × IsFileOf history ts e

  kinds-lines : (k : Kind) (node parent : ℕ) (name : List ℕ) (rows : List ViewRow) → kind_in rows (nodes.Old node) ≡ None → AllByRecursion IsShown rows → (is_dir_kind k ≡ false → IsStored node)
      → AllByRecursion IsShown (with_lines ts c at k node (part_of stored node) (rows ++ bare_row (record { node = node; kind = k; parent = parent; name = name }) ∷ []))
  kinds-lines kinds.File node parent name rows fresh shown stands =
      let file = stands refl in
      let r : ViewRow = bare_row (record { node = node; kind = kinds.File; parent = parent; name = name }) in
      let own : List FileRow = rows_at ts c at file.0.lines.lines in
      let same : nat_eq node node ≡ true = grind (arith, nat_tests) in
      let lines : AreDated ts (option_count history) (file_dated node (kept_of history)) file.0.lines.lines =
      subst (λ n. AreDated ts (option_count history) (file_dated n (kept_of history)) file.0.lines.lines) file.2 file.3.lines in
      subst (λ o. AllByRecursion IsShown (with_lines ts c at kinds.File node o (rows ++ r ∷ []))) (sym file.1)
      (subst (AllByRecursion IsShown) (sym (file-last node rows r own (not_there rows (nodes.Old node) fresh).1 same))
      (all-one IsShown rows (with_lines_by (λ l. l ++ map old_line own) r) shown (
        (λ f. file-lines node file.0.lines.lines lines),
        lines-made numbers (replay c (take at history)) node (map old_line own) low (file-lines node file.0.lines.lines lines),
      )))
  kinds-lines kinds.Dir node parent name rows fresh shown file =
      all-one IsShown rows (bare_row (record { node = node; kind = kinds.Dir; parent = parent; name = name })) shown ((λ f. absurd (dir f)), tt)
    where
      dir : true ≡ false → ⊥
      dir f = cc

  -- so do the rows of all nodes, where the lines of each file among them are stored
  pub stored-lines : (rows : List ViewRow) (rs : List Row) → AllByRecursion IsShown rows → AreFresh ts c at stored rows rs → AllByRecursion (λ r. is_dir_kind r.kind ≡ false → IsStored r.node) rs
      → AllByRecursion IsShown (fold (with_node ts c at stored) rows rs)
  stored-lines rows [] shown fresh files = shown
  stored-lines rows (r ∷ rs) shown fresh files =
      stored-lines (with_node ts c at stored rows r) rs (kinds-lines r.kind r.node r.parent r.name rows fresh.0 shown files.0) fresh.1 files.1
