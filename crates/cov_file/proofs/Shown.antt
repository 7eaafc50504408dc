-- What is shown, line by line in order, and what is known of one line.
use Rattle.std.specs.Prelude.{filter}
use Rattle.std.proofs.Common.{◌≡◌, ℕ, ◌+◌, Bool, true, false, cond, nat_eq, ◌&&◌, ◌||◌, List, [], ◌∷◌, ◌++◌, map, drop, Some, None, slice_get, append-nil, append_assoc, refl, sym, ap, ◌∙◌}
use Rattle.std.specs.List.{find, list_any}
use Rattle.std.specs.Option.{option_map}
use Rattle.std.specs.Map.{keys_of}
use Rattle.std.proofs.lemmas.Bool.{and_right, eqb-true}
use Rattle.cov_dd.specs.declared.triple.Triple.{Triple}
use Rattle.cov_dd.specs.Diagrams.{value_in}
use Rattle.cov_order.specs.Orders.{has_line}
use Rattle.cov_base.specs.declared.file_row.FileRow.{FileRow}
use Rattle.cov_base.proofs.CallerLemmas.{drop-at, drop-end}
use Rattle.cov_file.specs.Dated.{DatedLine, vis_at, newest_vis, newest_of, vis_of, file_row_of, is_visible, rows_at, all_rows}
use Rattle.cov_file.specs.Kept.{changes_in, dated_in, dated_lines, row_in}

-- the rows of the lines ahead begin with those of the next line
pub rows_next : (f : List ℕ → List FileRow) (xs : List ℕ) (i k x : ℕ) (rows next all piece : List FileRow) → slice_get xs i ≡ Some x → k ≡ i + 1
    → ((ys : List ℕ) → f (x ∷ ys) ≡ piece ++ f ys) → next ≡ rows ++ piece → rows ++ f (drop i xs) ≡ all → next ++ f (drop k xs) ≡ all
rows_next f xs i k x rows next all piece h e step is whole =
    ap (λ rs. rs ++ f (drop k xs)) is ∙ append_assoc rows piece (f (drop k xs)) ∙ ap (λ rs. rows ++ rs) (sym (step (drop k xs)))
    ∙ ap (λ ys. rows ++ f ys) (sym (drop-at xs i k x h e)) ∙ whole

-- and are none at the end
pub rows_end : (f : List ℕ → List FileRow) (xs : List ℕ) (i : ℕ) (rows all : List FileRow) → slice_get xs i ≡ None → f [] ≡ [] → rows ++ f (drop i xs) ≡ all → rows ≡ all
rows_end f xs i rows all h none whole =
    sym (append-nil rows) ∙ ap (λ rs. rows ++ rs) (sym none) ∙ ap (λ ys. rows ++ f ys) (sym (drop-end xs i h)) ∙ whole

module _ (table : List Triple) (c : List Bool) (p : ℕ) (texts : List (ℕ × List ℕ)) (lists : List (List (ℕ × ℕ))) where
  -- whether a line is shown
  abbrev shown : ℕ → Bool
  shown n = value_in table (vis_at (changes_in (keys_of texts) lists n) p) c

  abbrev pub rows_of : List ℕ → List FileRow
  rows_of lines = rows_at table c p (dated_lines texts lists lines)

  -- the row of one line, and then those of the others
  pub row_one : (n : ℕ) → rows_of (n ∷ []) ≡ cond (shown n) (row_in texts n ∷ []) []
  row_one n = at (shown n)
    where
      at : (b : Bool) → map file_row_of (cond b (dated_in texts lists n ∷ []) []) ≡ cond b (row_in texts n ∷ []) []
      at true = refl
      at false = refl

  pub row_next : (n : ℕ) (ns : List ℕ) → rows_of (n ∷ ns) ≡ rows_of (n ∷ []) ++ rows_of ns
  row_next n ns = at (shown n)
    where
      at : (b : Bool) → map file_row_of (cond b (dated_in texts lists n ∷ filter (is_visible table c p) (dated_lines texts lists ns)) (filter (is_visible table c p) (dated_lines texts lists ns)))
          ≡ map file_row_of (cond b (dated_in texts lists n ∷ []) []) ++ rows_of ns
      at true = refl
      at false = refl

  -- a line is among those that are shown if it is one of the lines and its node is true
  pub shown_among : (line : ℕ) (lines : List ℕ) → list_any (λ (r : FileRow). nat_eq r.line line) (rows_of lines) ≡ (has_line line lines && shown line)
  shown_among line [] = refl
  shown_among line (n ∷ ns) = at (shown n) (nat_eq n line) refl refl (shown_among line ns)
    where
      has : List FileRow → Bool
      has rows = list_any (λ (r : FileRow). nat_eq r.line line) rows

      at : (a b : Bool) → shown n ≡ a → nat_eq n line ≡ b → has (rows_of ns) ≡ (has_line line ns && shown line)
          → has (map file_row_of (cond a (dated_in texts lists n ∷ filter (is_visible table c p) (dated_lines texts lists ns)) (filter (is_visible table c p) (dated_lines texts lists ns)))) ≡ ((b || has_line line ns) && shown line)
      at true true s e rest = ap (λ k. k || has (rows_of ns)) e ∙ sym (ap shown (sym (eqb-true n line e)) ∙ s)
      at true false s e rest = ap (λ k. k || has (rows_of ns)) e ∙ rest
      at false true s e rest =
          let hidden : shown line ≡ false = ap shown (sym (eqb-true n line e)) ∙ s in
          rest ∙ ap (λ v. has_line line ns && v) hidden ∙ and_right (has_line line ns) false refl ∙ sym hidden
      at false false s e rest = rest

pub all_listed : (texts : List (ℕ × List ℕ)) (ls : List (List (ℕ × ℕ))) (lines : List ℕ) → map (row_in texts) lines ≡ all_rows (dated_lines texts ls lines)
all_listed texts ls [] = refl
all_listed texts ls (n ∷ ns) = ap (λ rs. row_in texts n ∷ rs) (all_listed texts ls ns)

-- a line that there is is found
pub found_line : (f : ℕ → DatedLine) (line : ℕ) (lines : List ℕ) → ((n : ℕ) → (f n).line ≡ n) → has_line line lines ≡ true → find (λ l. nat_eq l.line line) (map f lines) ≡ Some (f line)
found_line f line [] number h = absurd (cc)
found_line f line (n ∷ ns) number h = ap (λ m. cond (nat_eq m line) (Some (f n)) (find (λ l. nat_eq l.line line) (map f ns))) (number n) ∙ at (nat_eq n line) refl h (found_line f line ns number)
  where
    at : (b : Bool) → nat_eq n line ≡ b → (b || has_line line ns) ≡ true → (has_line line ns ≡ true → find (λ l. nat_eq l.line line) (map f ns) ≡ Some (f line))
        → cond b (Some (f n)) (find (λ l. nat_eq l.line line) (map f ns)) ≡ Some (f line)
    at true e k rest = ap (λ m. Some (f m)) (eqb-true n line e)
    at false e k rest = rest k

pub no_line : (f : ℕ → DatedLine) (line : ℕ) (lines : List ℕ) → ((n : ℕ) → (f n).line ≡ n) → has_line line lines ≡ false → find (λ l. nat_eq l.line line) (map f lines) ≡ None
no_line f line [] number h = refl
no_line f line (n ∷ ns) number h = ap (λ m. cond (nat_eq m line) (Some (f n)) (find (λ l. nat_eq l.line line) (map f ns))) (number n) ∙ at (nat_eq n line) h (no_line f line ns number)
  where
    at : (b : Bool) → (b || has_line line ns) ≡ false → (has_line line ns ≡ false → find (λ l. nat_eq l.line line) (map f ns) ≡ None)
        → cond b (Some (f n)) (find (λ l. nat_eq l.line line) (map f ns)) ≡ None
    at true k rest = absurd (cc)
    at false k rest = rest k

module _ (texts : List (ℕ × List ℕ)) (lists : List (List (ℕ × ℕ))) (line : ℕ) (lines : List ℕ) where
  pub newest_there : has_line line lines ≡ true → newest_of line (dated_lines texts lists lines) ≡ Some (newest_vis (changes_in (keys_of texts) lists line))
  newest_there h = ap (option_map (λ d. newest_vis d.changes)) (found_line (dated_in texts lists) line lines (λ n. refl) h)

  pub newest_none : has_line line lines ≡ false → newest_of line (dated_lines texts lists lines) ≡ None
  newest_none h = ap (option_map (λ d. newest_vis d.changes)) (no_line (dated_in texts lists) line lines (λ n. refl) h)

  pub latest_there : (p : ℕ) → has_line line lines ≡ true → vis_of line p (dated_lines texts lists lines) ≡ Some (vis_at (changes_in (keys_of texts) lists line) p)
  latest_there p h = ap (option_map (λ d. vis_at d.changes p)) (found_line (dated_in texts lists) line lines (λ n. refl) h)

  pub latest_none : (p : ℕ) → has_line line lines ≡ false → vis_of line p (dated_lines texts lists lines) ≡ None
  latest_none p h = ap (option_map (λ d. vis_at d.changes p)) (no_line (dated_in texts lists) line lines (λ n. refl) h)
