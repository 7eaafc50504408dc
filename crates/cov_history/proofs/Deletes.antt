-- A delete among the edits of a commit.
use Rattle.std.proofs.Common.{◌≡◌, ℕ, suc, ◌+◌, ◌<◌, ◌≤◌, Bool, true, false, cond, ◌||◌, ◌&&◌, nat_eq, List, [], ◌∷◌, ◌++◌, length, map, refl, sym, ap, ◌∙◌, arith}
use Rattle.std.specs.Str.{bytes_eq}
use Rattle.std.specs.List.{AllByRecursion}
use Rattle.std.proofs.lemmas.Bool.Decides.{nat_tests}
use Rattle.cov_base.specs.Addresses.{stands_before, address_in, line_of, IsTable, IsLineOf, AreInOrder}
use Rattle.cov_base.proofs.CallerLemmas.{before-itself, all-both, all-filter, in_order-filter, line_of-in, one_address, line_is}
use Rattle.cov_order.specs.Orders.{has_line, AreLines}
use Rattle.cov_expr.specs.Formula.{Formula}
use Rattle.cov_edit.specs.declared.edit.Edit.{Edit}
use Rattle.cov_edit.specs.declared.command.Command.{Command}
use Rattle.cov_edit.specs.Numbering.{numbers_of}
use Rattle.cov_edit.specs.Variant.{Line, is_line}
use Rattle.cov_history.specs.Kept.{Kept, kept_address, kept_number, hidden, hidden_where, Holding, held_by, kept_of, file_kept, is_kept_anchor, IsHolding}
use Rattle.cov_history.specs.Files.{dated, file_dated, file_order}
use Rattle.cov_history.specs.Insertions.{table_of, lines_amid, held_amid, IsHeldAmid}
use Rattle.cov_history.specs.Deletions.{Deletion, the_delete, all_with, delete_file, delete_line, behind_delete, hidden_by}
use Rattle.cov_history.proofs.Standing.{holding-stands}
use Rattle.cov_history.proofs.Inserts.{is_table-of, amid-within, stands-amid}
use Rattle.cov_history.proofs.Orders.{any-mapped, any-none}

hidden-item : (test : Line → Bool) (q : ℕ) (within : Formula ℕ) (k : Kept Line) → (hidden_where test q within k).item ≡ k.item
hidden-item test q within k = at (test k.item)
  where
    at : (b : Bool) → (let j : Kept Line = cond b (hidden q within k) k in j).item ≡ k.item
    at true = refl
    at false = refl

module _ (test : Line → Bool) (q : ℕ) (within : Formula ℕ) where
  -- the lines of a file, of which some are hidden
  file-hidden : (file : ℕ) (ks : List (Kept Line)) → file_kept file (map (hidden_where test q within) ks) ≡ map (hidden_where test q within) (file_kept file ks)
  file-hidden file [] = refl
  file-hidden file (k ∷ ks) =
      ap (λ (l : Line). cond (nat_eq l.file file) (hidden_where test q within k ∷ file_kept file (map (hidden_where test q within) ks)) (file_kept file (map (hidden_where test q within) ks)))
      (hidden-item test q within k)
      ∙ at (nat_eq k.item.file file) (file-hidden file ks)
    where
      at : (b : Bool) → file_kept file (map (hidden_where test q within) ks) ≡ map (hidden_where test q within) (file_kept file ks)
          → cond b (hidden_where test q within k ∷ file_kept file (map (hidden_where test q within) ks)) (file_kept file (map (hidden_where test q within) ks))
          ≡ map (hidden_where test q within) (cond b (k ∷ file_kept file ks) (file_kept file ks))
      at true rest = ap (λ l. hidden_where test q within k ∷ l) rest
      at false rest = rest

  numbers-hidden : (ks : List (Kept Line)) → map kept_number (map (hidden_where test q within) ks) ≡ map kept_number ks
  numbers-hidden [] = refl
  numbers-hidden (k ∷ ks) =
      ap (λ (l : Line). line_of l.address ∷ map kept_number (map (hidden_where test q within) ks)) (hidden-item test q within k) ∙ ap (λ ns. kept_number k ∷ ns) (numbers-hidden ks)

  pub order-hidden : (file : ℕ) (ks : List (Kept Line)) → file_order file (map (hidden_where test q within) ks) ≡ file_order file ks
  order-hidden file ks = ap (map kept_number) (file-hidden file ks) ∙ numbers-hidden (file_kept file ks)

module _ (t : List (List ℕ)) (n file line q : ℕ) (within : Formula ℕ) (table : IsTable t) (below : n ≤ length t) where
  abbrev after : Kept Line → Kept Line
  after k = hidden_where (is_line file (address_in t line)) q within k

  one-dated : (k : Kept Line) → nat_eq k.item.file file ≡ true → IsLineOf t n (kept_address k) → dated (after k) ≡ hidden_by line q within (dated k)
  one-dated k own is =
      ap (λ b. dated (cond (b && bytes_eq (kept_address k) (address_in t line)) (hidden q within k) k)) own
      ∙ ap (λ b. dated (cond b (hidden q within k) k)) (line_is t n line (kept_address k) table below is)
      ∙ at (nat_eq (kept_number k) line)
    where
      at : (b : Bool) → dated (cond b (hidden q within k) k) ≡ cond b (dated (hidden q within k)) (dated k)
      at true = refl
      at false = refl

  -- in its file, the line is hidden
  own-dated : (ks : List (Kept Line)) → AllByRecursion (λ k. IsLineOf t n (kept_address k)) ks → map dated (map after (file_kept file ks)) ≡ map (hidden_by line q within) (file_dated file ks)
  own-dated [] all = refl
  own-dated (k ∷ ks) all = by (nat_eq k.item.file file) refl (own-dated ks all.1)
    where
      by : (b : Bool) → nat_eq k.item.file file ≡ b → map dated (map after (file_kept file ks)) ≡ map (hidden_by line q within) (file_dated file ks)
          → map dated (map after (cond b (k ∷ file_kept file ks) (file_kept file ks))) ≡ map (hidden_by line q within) (map dated (cond b (k ∷ file_kept file ks) (file_kept file ks)))
      by true e rest = ap (λ d. d ∷ map dated (map after (file_kept file ks))) (one-dated k e all.0) ∙ ap (λ ds. hidden_by line q within (dated k) ∷ ds) rest
      by false e rest = rest

-- in the other files, none is
elsewhere-same : (file other q : ℕ) (address : List ℕ) (within : Formula ℕ) (ks : List (Kept Line)) → nat_eq file other ≡ false
    → map (hidden_where (is_line file address) q within) (file_kept other ks) ≡ file_kept other ks
elsewhere-same file other q address within [] h = refl
elsewhere-same file other q address within (k ∷ ks) h = by (nat_eq k.item.file other) refl (elsewhere-same file other q address within ks h)
  where
    by : (b : Bool) → nat_eq k.item.file other ≡ b → map (hidden_where (is_line file address) q within) (file_kept other ks) ≡ file_kept other ks
        → map (hidden_where (is_line file address) q within) (cond b (k ∷ file_kept other ks) (file_kept other ks)) ≡ cond b (k ∷ file_kept other ks) (file_kept other ks)
    by false e rest = rest
    by true e rest =
        let apart : nat_eq k.item.file file ≡ false = grind (arith, nat_tests, e, h) in
        ap (λ b. cond (b && bytes_eq (kept_address k) address) (hidden q within k) k ∷ map (hidden_where (is_line file address) q within) (file_kept other ks)) apart
        ∙ ap (λ js. k ∷ js) rest

-- whether a line is the deleted one
abbrev is_deleted : List Command → Deletion → Line → Bool
is_deleted history d l = is_line (delete_file history d) (address_in (table_of history (all_with d)) (delete_line history d)) l

pub delete-dated : (history : List Command) (held : Holding) (on : Formula ℕ) (d : Deletion) → IsHeldAmid history (all_with d) d.begun held
    → file_dated (delete_file history d) (behind_delete history held on d).lines
    ≡ map (hidden_by (delete_line history d) (length history + 1) on) (file_dated (delete_file history d) held.lines)
delete-dated history held on d s =
    ap (map dated) (file-hidden (is_deleted history d) (length history + 1) on (delete_file history d) held.lines)
    ∙ own-dated (table_of history (all_with d)) (lines_amid history d.begun) (delete_file history d) (delete_line history d) (length history + 1) on
    (is_table-of history (all_with d)) (amid-within history d.begun (the_delete d ∷ d.later)) held.lines s.numbered_lines

pub delete-elsewhere : (history : List Command) (held : Holding) (on : Formula ℕ) (d : Deletion) (file : ℕ) → nat_eq (delete_file history d) file ≡ false
    → file_kept file (behind_delete history held on d).lines ≡ file_kept file held.lines
delete-elsewhere history held on d file h =
    file-hidden (is_deleted history d) (length history + 1) on file held.lines
    ∙ elsewhere-same (delete_file history d) file (length history + 1) (address_in (table_of history (all_with d)) (delete_line history d)) on held.lines h

pub delete-order : (history : List Command) (held : Holding) (on : Formula ℕ) (d : Deletion) (file : ℕ)
    → (file_order file (behind_delete history held on d).lines ≡ file_order file held.lines)
    × ((line : ℕ) → is_kept_anchor file line (behind_delete history held on d).lines ≡ is_kept_anchor file line held.lines)
delete-order history held on d file = (order, anchors)
  where
    after : List (Kept Line)
    after = (behind_delete history held on d).lines

    order : file_order file after ≡ file_order file held.lines
    order = order-hidden (is_deleted history d) (length history + 1) on file held.lines

    anchors : (line : ℕ) → is_kept_anchor file line after ≡ is_kept_anchor file line held.lines
    anchors line =
        ap (λ b. nat_eq line 0 || b)
        (sym (any-mapped kept_number line (file_kept file after)) ∙ ap (has_line line) order ∙ any-mapped kept_number line (file_kept file held.lines))

-- lines of a table in order have different numbers, from 1 on
pub lines-apart : (t : List (List ℕ)) (n : ℕ) (ks : List (Kept Line)) → IsTable t → n ≤ length t → AreInOrder kept_address ks → AllByRecursion (λ k. IsLineOf t n (kept_address k)) ks
    → AreLines (map kept_number ks)
lines-apart t n [] table below o all = tt
lines-apart t n (k ∷ ks) table below o all =
    let line : IsLineOf t n (kept_address k) = all.0 in
    let less : line.0 < n = line.1 in
    let number : kept_number k ≡ suc line.0 = ap line_of line.2 ∙ line_of-in t line.0 table (omega (arith, less, below)) in (
      omega (arith, number),
      any-mapped kept_number (kept_number k) ks
          ∙ any-none (λ j. nat_eq (kept_number j) (kept_number k)) ks
          (all-both (λ j. stands_before (kept_address k) (kept_address j) ≡ true) (λ j. IsLineOf t n (kept_address j)) (λ j. nat_eq (kept_number j) (kept_number k) ≡ false)
          (λ j before is. differs j before is (nat_eq (kept_number j) (kept_number k)) refl) ks o.0 all.1),
      lines-apart t n ks table below o.1 all.1,
    )
  where
    differs : (j : Kept Line) → stands_before (kept_address k) (kept_address j) ≡ true → IsLineOf t n (kept_address j) → (b : Bool) → nat_eq (kept_number j) (kept_number k) ≡ b → b ≡ false
    differs j before is false e = refl
    differs j before is true e =
        let same : kept_number j ≡ kept_number k = grind (arith, nat_tests, e) in
        let one : kept_address j ≡ kept_address k =
        one_address t n (kept_number k) (kept_address j) table below is same ∙ sym (one_address t n (kept_number k) (kept_address k) table below all.0 refl) in
        let itself = before-itself (kept_address k) in
        let turned : stands_before (kept_address k) (kept_address k) ≡ true = ap (stands_before (kept_address k)) (sym one) ∙ before in
        absurd (cc)

-- the lines of a file have different numbers, from 1 on
pub file-lines : (t : List (List ℕ)) (n q file : ℕ) (held : Holding) → IsTable t → n ≤ length t → IsHolding t n q held → AreLines (file_order file held.lines)
file-lines t n q file held table below s =
    lines-apart t n (file_kept file held.lines) table below
    (in_order-filter kept_address (λ k. nat_eq k.item.file file) held.lines s.in_order)
    (all-filter (λ k. IsLineOf t n (kept_address k)) (λ k. nat_eq k.item.file file) held.lines s.numbered_lines)

pub lines-amid : (history : List Command) (within : List (Formula ℕ)) (begun later : List Edit) (file : ℕ)
    → AreLines (file_order file (held_amid history within (begun ++ later) begun).lines)
lines-amid history within begun later file =
    file-lines (table_of history (begun ++ later)) (lines_amid history begun) (length history + 1) file (held_amid history within (begun ++ later) begun)
    (is_table-of history (begun ++ later)) (amid-within history begun later) (stands-amid history begun later within)

pub lines-held : (history : List Command) (file : ℕ) → AreLines (file_order file (kept_of history))
lines-held history file =
    let stands = holding-stands history in
    let t = (numbers_of history).addresses in
    file-lines t (length t) (length history) file (held_by history) stands.0 (omega arith) stands.1

-- numbers, each of them once
abbrev pub AreDistinct : List ℕ → Type 0
AreDistinct [] = Unit {0}
AreDistinct (n ∷ ns) = (has_line n ns ≡ false) × AreDistinct ns

pub lines-distinct : (ns : List ℕ) → AreLines ns → AreDistinct ns
lines-distinct [] all = tt
lines-distinct (n ∷ ns) all = (all.1, lines-distinct ns all.2)
