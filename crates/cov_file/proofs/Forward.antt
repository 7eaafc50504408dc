-- Kept lists after a change of the lines.
use Rattle.std.specs.Prelude.{filter}
use Rattle.std.proofs.Common.{◌≡◌, ℕ, zero, suc, ◌+◌, ◌<◌, Bool, true, false, true≢false, cond, not, ◌||◌, nat_eq, List, [], ◌∷◌, map, Some, None, position, refl, sym, ap, subst, ◌∙◌, arith}
use Rattle.std.specs.List.{find, insert, list_any}
use Rattle.std.specs.Option.{option_map}
use Rattle.std.proofs.lemmas.Bool.{eqb-true}
use Rattle.cov_base.proofs.CallerLemmas.{insert_behind, none-placed}
use Rattle.cov_base.specs.Addresses.{after_first}
use Rattle.cov_base.specs.declared.file_row.FileRow.{FileRow}
use Rattle.cov_order.specs.Orders.{has_line, AreLines}
use Rattle.cov_file.specs.Dated.{DatedLine, newest_vis, newest_of, file_row_of, line_numbers_of, with_line, with_change, AreAlike}
use Rattle.cov_file.specs.Forward.{is_shown_by}
use Rattle.cov_file.specs.Sights.{rows_by, AreSights}
use Rattle.cov_values.specs.Sights.{AreRight}
use Rattle.cov_values.specs.declared.sights.Sight.{Sight}

-- rows without those of a line
abbrev pub others : ℕ → List FileRow → List FileRow
others line rows = filter (λ (r : FileRow). not (nat_eq r.line line)) rows

module _ (f : ℕ → Bool) where
  -- whether a line is shown
  abbrev is_shown : DatedLine → Bool
  is_shown l = f (newest_vis l.changes)

  -- the lines of a list that are shown
  abbrev shown : List DatedLine → List DatedLine
  shown ls = filter is_shown ls

  -- alike lines are shown alike
  pub rows_alike : (ls ms : List DatedLine) → AreAlike ls ms → rows_by f ls ≡ rows_by f ms
  rows_alike [] [] h = refl
  rows_alike [] (m ∷ ms) h = absurd h
  rows_alike (l ∷ ls) [] h = absurd h
  rows_alike (l ∷ ls) (m ∷ ms) h = by (is_shown l) (is_shown m) (ap f h.0.newest) (rows_alike ls ms h.1)
    where
      by : (b c : Bool) → b ≡ c → rows_by f ls ≡ rows_by f ms → map file_row_of (cond b (l ∷ shown ls) (shown ls)) ≡ map file_row_of (cond c (m ∷ shown ms) (shown ms))
      by true true e rest = λ j. record { line = h.0.line j; text = h.0.text j } ∷ rest j
      by true false e rest = absurd (true≢false e)
      by false true e rest = absurd (true≢false (sym e))
      by false false e rest = rest

  -- a line that is shown, put first
  pub row_first : (new : DatedLine) (ls : List DatedLine) → is_shown new ≡ true → rows_by f (new ∷ ls) ≡ file_row_of new ∷ rows_by f ls
  row_first new ls h = ap (λ b. map file_row_of (cond b (new ∷ shown ls) (shown ls))) h

  -- one that isn't shown
  pub row_hidden : (new : DatedLine) (ls : List DatedLine) → is_shown new ≡ false → rows_by f (new ∷ ls) ≡ rows_by f ls
  row_hidden new ls h = ap (λ b. map file_row_of (cond b (new ∷ shown ls) (shown ls))) h

  -- a line that is shown, put behind one that is shown
  pub row_behind : (a : ℕ) (new : DatedLine) (ls : List DatedLine) → is_shown new ≡ true → is_shown_by f (newest_of a ls) ≡ true
      → rows_by f (after_first (λ l. nat_eq l.line a) new ls) ≡ after_first (λ r. nat_eq r.line a) (file_row_of new) (rows_by f ls)
  row_behind a new [] h beside = absurd (true≢false (sym beside))
  row_behind a new (l ∷ ls) h beside = by (nat_eq l.line a) refl (is_shown l) refl (λ e. row_behind a new ls h (ap (beside_of ls) (sym e) ∙ beside))
    where
      beside_of : List DatedLine → Bool → Bool
      beside_of rest n = is_shown_by f (option_map (λ l. newest_vis l.changes) (cond n (Some l) (find (λ l. nat_eq l.line a) rest)))

      by : (n : Bool) → nat_eq l.line a ≡ n → (s : Bool) → is_shown l ≡ s
          → (nat_eq l.line a ≡ false → rows_by f (after_first (λ l. nat_eq l.line a) new ls) ≡ after_first (λ r. nat_eq r.line a) (file_row_of new) (rows_by f ls))
          → rows_by f (cond n (l ∷ new ∷ ls) (l ∷ after_first (λ l. nat_eq l.line a) new ls)) ≡ after_first (λ r. nat_eq r.line a) (file_row_of new) (map file_row_of (cond s (l ∷ shown ls) (shown ls)))
      by true e true s rest =
          row_first l (new ∷ ls) s ∙ ap (λ rs. file_row_of l ∷ rs) (row_first new ls h)
          ∙ sym (ap (λ b. cond b (file_row_of l ∷ file_row_of new ∷ rows_by f ls) (file_row_of l ∷ after_first (λ r. nat_eq r.line a) (file_row_of new) (rows_by f ls))) e)
      by true e false s rest = absurd (true≢false (sym (ap (beside_of ls) (sym e) ∙ beside) ∙ s))
      by false e true s rest =
          row_first l (after_first (λ l. nat_eq l.line a) new ls) s ∙ ap (λ rs. file_row_of l ∷ rs) (rest e)
          ∙ sym (ap (λ b. cond b (file_row_of l ∷ file_row_of new ∷ rows_by f ls) (file_row_of l ∷ after_first (λ r. nat_eq r.line a) (file_row_of new) (rows_by f ls))) e)
      by false e false s rest = row_hidden l (after_first (λ l. nat_eq l.line a) new ls) s ∙ rest e

  -- the same at a place
  pub row_placed : (anchor : ℕ) (new : DatedLine) (ls : List DatedLine) (rows : List FileRow) (at : ℕ) → 0 < anchor → is_shown new ≡ true → is_shown_by f (newest_of anchor ls) ≡ true → rows_by f ls ≡ rows
      → position (λ (r : FileRow). nat_eq r.line anchor) rows ≡ Some at → rows_by f (with_line anchor new ls) ≡ insert rows (at + 1) (file_row_of new)
  row_placed zero new ls rows at some h beside is found = absurd (omega (arith, some))
  row_placed (suc anchor) new ls rows at some h beside is found =
      row_behind (suc anchor) new ls h beside ∙ ap (after_first (λ r. nat_eq r.line (suc anchor)) (file_row_of new)) is
      ∙ sym (insert_behind (λ (r : FileRow). nat_eq r.line (suc anchor)) rows (file_row_of new) at found)

  -- a line before lines of which the same is shown
  row_beside : (l : DatedLine) (ms ns : List DatedLine) → rows_by f ms ≡ rows_by f ns → rows_by f (l ∷ ms) ≡ rows_by f (l ∷ ns)
  row_beside l ms ns e = by (is_shown l)
    where
      by : (b : Bool) → map file_row_of (cond b (l ∷ shown ms) (shown ms)) ≡ map file_row_of (cond b (l ∷ shown ns) (shown ns))
      by true = ap (λ rs. file_row_of l ∷ rs) e
      by false = e

  -- a line that isn't shown changes nothing, wherever it is put
  pub hidden_anywhere : (anchor : ℕ) (new : DatedLine) (ls : List DatedLine) → is_shown new ≡ false → rows_by f (with_line anchor new ls) ≡ rows_by f ls
  hidden_anywhere zero new ls h = row_hidden new ls h
  hidden_anywhere (suc anchor) new [] h = row_hidden new [] h
  hidden_anywhere (suc anchor) new (l ∷ ls) h = by (nat_eq l.line (suc anchor)) (hidden_anywhere (suc anchor) new ls h)
    where
      by : (n : Bool) → rows_by f (after_first (λ l. nat_eq l.line (suc anchor)) new ls) ≡ rows_by f ls
          → rows_by f (cond n (l ∷ new ∷ ls) (l ∷ after_first (λ l. nat_eq l.line (suc anchor)) new ls)) ≡ rows_by f (l ∷ ls)
      by true rest = row_beside l (new ∷ ls) ls (row_hidden new ls h)
      by false rest = row_beside l (after_first (λ l. nat_eq l.line (suc anchor)) new ls) ls rest

  module _ (line vis at : ℕ) where
    -- a line with the change
    abbrev own : DatedLine → DatedLine
    own l = record { line = l.line; text = l.text; changes = (at, vis) ∷ l.changes }

    -- a line that isn't shown any more is taken out
    pub row_taken_out : (ls : List DatedLine) → f vis ≡ false → rows_by f (with_change line vis at ls) ≡ others line (rows_by f ls)
    row_taken_out [] h = refl
    row_taken_out (l ∷ ls) h = by (nat_eq l.line line) refl (is_shown l) refl (row_taken_out ls h)
      where
        by : (n : Bool) → nat_eq l.line line ≡ n → (s : Bool) → is_shown l ≡ s → rows_by f (with_change line vis at ls) ≡ others line (rows_by f ls)
            → rows_by f (cond n (own l) l ∷ with_change line vis at ls) ≡ others line (map file_row_of (cond s (l ∷ shown ls) (shown ls)))
        by true e true s same =
            row_hidden (own l) (with_change line vis at ls) h ∙ same
            ∙ sym (ap (λ b. cond (not b) (file_row_of l ∷ others line (rows_by f ls)) (others line (rows_by f ls))) e)
        by true e false s same = row_hidden (own l) (with_change line vis at ls) h ∙ same
        by false e true s same =
            row_first l (with_change line vis at ls) s ∙ ap (λ rs. file_row_of l ∷ rs) same
            ∙ sym (ap (λ b. cond (not b) (file_row_of l ∷ others line (rows_by f ls)) (others line (rows_by f ls))) e)
        by false e false s same = row_hidden l (with_change line vis at ls) s ∙ same

    unchanged : (ls : List DatedLine) → has_line line (line_numbers_of ls) ≡ false → with_change line vis at ls ≡ ls
    unchanged [] h = refl
    unchanged (l ∷ ls) h = by (nat_eq l.line line) h (unchanged ls)
      where
        by : (n : Bool) → (n || has_line line (line_numbers_of ls)) ≡ false → (has_line line (line_numbers_of ls) ≡ false → with_change line vis at ls ≡ ls)
            → cond n (own l) l ∷ with_change line vis at ls ≡ l ∷ ls
        by true k rest = absurd (true≢false k)
        by false k rest = ap (λ ms. l ∷ ms) (rest k)

    -- where a line is shown before and after, all stays
    pub rows_stay : (ls : List DatedLine) → AreLines (line_numbers_of ls) → is_shown_by f (newest_of line ls) ≡ true → f vis ≡ true → rows_by f (with_change line vis at ls) ≡ rows_by f ls
    rows_stay [] once before h = refl
    rows_stay (l ∷ ls) once before h = by (nat_eq l.line line) refl before (λ is. rows_stay ls once.2 is h)
      where
        by : (n : Bool) → nat_eq l.line line ≡ n → is_shown_by f (option_map (λ l. newest_vis l.changes) (cond n (Some l) (find (λ l. nat_eq l.line line) ls))) ≡ true
            → (is_shown_by f (newest_of line ls) ≡ true → rows_by f (with_change line vis at ls) ≡ rows_by f ls)
            → rows_by f (cond n (own l) l ∷ with_change line vis at ls) ≡ rows_by f (l ∷ ls)
        by true e is rest =
            ap (λ ms. rows_by f (own l ∷ ms)) (unchanged ls (ap (λ n. has_line n (line_numbers_of ls)) (sym (eqb-true l.line line e)) ∙ once.1))
            ∙ row_first (own l) ls h ∙ sym (row_first l ls is)
        by false e is rest = row_beside l (with_change line vis at ls) ls (rest is)

-- what is kept of lines is right of those that are alike
pub sights_alike : (ms ls : List DatedLine) (ks : List (Sight (List FileRow))) → AreAlike ms ls → AreSights ls ks → AreSights ms ks
sights_alike ms ls ks alike h = subst (λ (shows : (ℕ → Bool) → List FileRow). AreRight shows ks) (sym (λ j f. rows_alike f ms ls alike j)) h

-- where no row is a line's, none is taken out
pub none_taken_out : (line : ℕ) (rows : List FileRow) → position (λ (r : FileRow). nat_eq r.line line) rows ≡ None → filter (λ (r : FileRow). not (nat_eq r.line line)) rows ≡ rows
none_taken_out line rows h = each rows (none-placed (λ (r : FileRow). nat_eq r.line line) rows h)
  where
    each : (rows : List FileRow) → list_any (λ (r : FileRow). nat_eq r.line line) rows ≡ false → filter (λ (r : FileRow). not (nat_eq r.line line)) rows ≡ rows
    each [] none = refl
    each (r ∷ rs) none = by (nat_eq r.line line) none (each rs)
      where
        by : (n : Bool) → (n || list_any (λ (r : FileRow). nat_eq r.line line) rs) ≡ false
            → (list_any (λ (r : FileRow). nat_eq r.line line) rs ≡ false → filter (λ (r : FileRow). not (nat_eq r.line line)) rs ≡ rs)
            → cond (not n) (r ∷ filter (λ (r : FileRow). not (nat_eq r.line line)) rs) (filter (λ (r : FileRow). not (nat_eq r.line line)) rs) ≡ r ∷ rs
        by true k rest = absurd (true≢false k)
        by false k rest = ap (λ rs. r ∷ rs) (rest k)
