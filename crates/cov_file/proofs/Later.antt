-- What a change of a file changes of what is shown.
use Rattle.std.specs.Prelude.{filter}
use Rattle.std.proofs.Common.{◌≡◌, ℕ, zero, suc, ◌<◌, ◌≤◌, Bool, true, false, cond, nat_eq, nat_le, List, [], ◌∷◌, ◌++◌, map, refl, sym, ap, ◌∙◌, arith}
use Rattle.std.proofs.lemmas.Bool.Decides.{nat_tests}
use Rattle.cov_dd.specs.declared.triple.Triple.{Triple}
use Rattle.cov_dd.proofs.CallerLemmas.{value-constant}
use Rattle.cov_dd.specs.Diagrams.{value_in}
use Rattle.cov_base.specs.Addresses.{after_first}
use Rattle.cov_base.specs.declared.file_row.FileRow.{FileRow}
use Rattle.cov_file.specs.Dated.{DatedLine, vis_at, dated_number, new_line, with_line, changed, with_change, file_row_of, is_visible, rows_at, AreAlike}
use Rattle.cov_file.specs.Laws.{InsertIsLater, ChangeIsLater}

-- the row of a line that passes a test, and then the others
split : (test : DatedLine → Bool) (l : DatedLine) (ls : List DatedLine) → map file_row_of (filter test (l ∷ ls)) ≡ cond (test l) (file_row_of l ∷ []) [] ++ map file_row_of (filter test ls)
split test l ls = at (test l)
  where
    at : (b : Bool) → map file_row_of (cond b (l ∷ filter test ls) (filter test ls)) ≡ cond b (file_row_of l ∷ []) [] ++ map file_row_of (filter test ls)
    at true = refl
    at false = refl

module _ (table : List Triple) (c : List Bool) (p : ℕ) where
  abbrev piece : DatedLine → List FileRow
  piece l = cond (is_visible table c p l) (file_row_of l ∷ []) []

  pub alike_shown : (ls ms : List DatedLine) → AreAlike ls ms → rows_at table c p ls ≡ rows_at table c p ms
  alike_shown [] [] h = refl
  alike_shown [] (m ∷ ms) h = absurd h
  alike_shown (l ∷ ls) [] h = absurd h
  alike_shown (l ∷ ls) (m ∷ ms) h =
      split (is_visible table c p) l ls
      ∙ (λ j. cond (value_in table (h.0.nodes p j) c) (record { line = h.0.line j; text = h.0.text j } ∷ []) [] ++ alike_shown ls ms h.1 j)
      ∙ sym (split (is_visible table c p) m ms)

  unseen : (new : DatedLine) (ls : List DatedLine) → is_visible table c p new ≡ false → rows_at table c p (new ∷ ls) ≡ rows_at table c p ls
  unseen new ls h = split (is_visible table c p) new ls ∙ ap (λ b. cond b (file_row_of new ∷ []) [] ++ rows_at table c p ls) h

  behind : (l : DatedLine) (ls ms : List DatedLine) → rows_at table c p ls ≡ rows_at table c p ms → rows_at table c p (l ∷ ls) ≡ rows_at table c p (l ∷ ms)
  behind l ls ms h = split (is_visible table c p) l ls ∙ ap (λ rs. piece l ++ rs) h ∙ sym (split (is_visible table c p) l ms)

  unseen_first : (new : DatedLine) (t : DatedLine → Bool) (ls : List DatedLine) → is_visible table c p new ≡ false → rows_at table c p (after_first t new ls) ≡ rows_at table c p ls
  unseen_first new t [] h = unseen new [] h
  unseen_first new t (l ∷ ls) h = at (t l) (unseen_first new t ls h)
    where
      at : (b : Bool) → rows_at table c p (after_first t new ls) ≡ rows_at table c p ls → rows_at table c p (cond b (l ∷ new ∷ ls) (l ∷ after_first t new ls)) ≡ rows_at table c p (l ∷ ls)
      at true rest = behind l (new ∷ ls) ls (unseen new ls h)
      at false rest = behind l (after_first t new ls) ls rest

  unseen_line : (anchor : ℕ) (new : DatedLine) (ls : List DatedLine) → is_visible table c p new ≡ false → rows_at table c p (with_line anchor new ls) ≡ rows_at table c p ls
  unseen_line zero new ls h = unseen new ls h
  unseen_line (suc anchor) new ls h = unseen_first new (λ l. nat_eq (dated_number l) (suc anchor)) ls h

  module _ (line vis at : ℕ) where
    changed_before : nat_le at p ≡ false → (l : DatedLine) → piece (changed line vis at l) ≡ piece l
    changed_before h l = by (nat_eq l.line line)
      where
        by : (b : Bool) → piece (cond b (record { line = l.line; text = l.text; changes = (at, vis) ∷ l.changes }) l) ≡ piece l
        by true = ap (λ b. cond (value_in table (cond b vis (vis_at l.changes p)) c) (file_row_of l ∷ []) []) h
        by false = refl

    changes_before : nat_le at p ≡ false → (ls : List DatedLine) → rows_at table c p (with_change line vis at ls) ≡ rows_at table c p ls
    changes_before h [] = refl
    changes_before h (l ∷ ls) =
        split (is_visible table c p) (changed line vis at l) (with_change line vis at ls)
        ∙ (λ j. changed_before h l j ++ changes_before h ls j)
        ∙ sym (split (is_visible table c p) l ls)

    abbrev test_after : DatedLine → Bool
    test_after l = cond (nat_eq l.line line) (value_in table vis c) (is_visible table c p l)

    changed_after : nat_le at p ≡ true → (l : DatedLine) → piece (changed line vis at l) ≡ cond (test_after l) (file_row_of l ∷ []) []
    changed_after h l = by (nat_eq l.line line)
      where
        by : (b : Bool) → piece (cond b (record { line = l.line; text = l.text; changes = (at, vis) ∷ l.changes }) l) ≡ cond (cond b (value_in table vis c) (is_visible table c p l)) (file_row_of l ∷ []) []
        by true = ap (λ b. cond (value_in table (cond b vis (vis_at l.changes p)) c) (file_row_of l ∷ []) []) h
        by false = refl

    changes_after : nat_le at p ≡ true → (ls : List DatedLine) → rows_at table c p (with_change line vis at ls) ≡ map file_row_of (filter test_after ls)
    changes_after h [] = refl
    changes_after h (l ∷ ls) =
        split (is_visible table c p) (changed line vis at l) (with_change line vis at ls)
        ∙ (λ j. changed_after h l j ++ changes_after h ls j)
        ∙ sym (split test_after l ls)

before : (at p : ℕ) → p < at → nat_le at p ≡ false
before at p h = grind (arith, nat_tests, h)

pub reached : (at p : ℕ) → at ≤ p → nat_le at p ≡ true
reached at p h = grind (arith, nat_tests, h)

new_unseen : (table : List Triple) (c : List Bool) (vis : ℕ) (b : Bool) → value_in table vis c ≡ false → value_in table (cond b vis 0) c ≡ false
new_unseen table c vis true h = h
new_unseen table c vis false h = value-constant table 0 c (omega arith)

pub insert_later : InsertIsLater
insert_later = record {
  before = λ table c p anchor line text vis at ls h.
      unseen_line table c p anchor (new_line line text vis at) ls (ap (λ b. value_in table (cond b vis 0) c) (before at p h) ∙ value-constant table 0 c (omega arith));
  elsewhere = λ table c p anchor line text vis at ls h. unseen_line table c p anchor (new_line line text vis at) ls (new_unseen table c vis (nat_le at p) h);
}

pub change_later : ChangeIsLater
change_later = record {
  before = λ table c p line vis at ls h. changes_before table c p line vis at (before at p h) ls;
  after = λ table c p line vis at ls h. changes_after table c p line vis at (reached at p h) ls;
}
