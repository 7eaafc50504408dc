-- The lines ever inserted into a file, marked by their visibility, are the lines of both sides.
use Rattle.std.proofs.Common.{◌≡◌, ℕ, suc, ◌<◌, Bool, true, false, cond, ◌||◌, ◌&&◌, nat_eq, nat_lt, List, [], ◌∷◌, ◌++◌, length, map, take, append-nil, append_assoc, refl, sym, ap, ◌∙◌, arith}
use Rattle.std.specs.List.{filter, fold, list_any, AllByRecursion}
use Rattle.std.proofs.Math.Seq.{take-length}
use Rattle.std.proofs.lemmas.Bool.Decides.{nat_tests}
use Rattle.cov_base.specs.Addresses.{line_of, IsLineOf, AreInOrder}
use Rattle.cov_base.specs.Rows.{is_present}
use Rattle.cov_base.proofs.CallerLemmas.{all-both, all-filter, all-map, any-map, in_order-filter, line_of-in, nat_eq-sym}
use Rattle.cov_order.specs.Orders.{has_line, AreLines}
use Rattle.cov_edit.specs.declared.command.Command.{Command}
use Rattle.cov_edit.specs.Numbering.{numbers_of}
use Rattle.cov_edit.specs.Replay.{replay}
use Rattle.cov_edit.specs.Variant.{Variant, Line, lines_of}
use Rattle.cov_history.specs.Files.{dated, file_dated}
use Rattle.cov_history.specs.Kept.{Kept, is_seen, the_item, kept_address, kept_number, kept_of, file_kept}
use Rattle.cov_history.proofs.CallerLemmas.{any-none, file-replay, holding-stands, holding-whole, replay-seen, replay-stands}
use Rattle.cov_engine.specs.Visibility.{has_line_number, is_no_line, as_row}
use Rattle.cov_alt.specs.Marking.{on_choice, is_on, mark_if, with_mark, with_marked}
use Rattle.cov_alt.specs.Sides.{lines_if_present, has_address, mark_of, marked, both_sides, sides}
use Rattle.cov_alt.specs.declared.line.AltLine.{AltLine}
use Rattle.cov_alt.specs.declared.marking.Side.{Side}
use Rattle.cov_alt.proofs.Merging.{AreApart, any_same, has_kept, merged_kept}

none_of : {X : Type 0} (p : X → Bool) (xs : List X) → ((x : X) → p x ≡ false) → filter p xs ≡ []
none_of p [] h = refl
none_of p (x ∷ xs) h = ap (λ b. cond b (x ∷ filter p xs) (filter p xs)) (h x) ∙ none_of p xs h

-- no line has the number of another
numbers_differ : (n : ℕ) (ks : List (Kept Line)) → has_line n (map kept_number ks) ≡ false → AllByRecursion (λ k. nat_eq (kept_number k) n ≡ false) ks
numbers_differ n [] h = tt
numbers_differ n (k ∷ ks) h = at (nat_eq (kept_number k) n) refl h (numbers_differ n ks)
  where
    at : (b : Bool) → nat_eq (kept_number k) n ≡ b → (b || has_line n (map kept_number ks)) ≡ false
        → (has_line n (map kept_number ks) ≡ false → AllByRecursion (λ j. nat_eq (kept_number j) n ≡ false) ks) → AllByRecursion (λ j. nat_eq (kept_number j) n ≡ false) (k ∷ ks)
    at true e i rest = absurd (cc)
    at false e i rest = (e, rest i)

numbers_apart : (ks : List (Kept Line)) → AreLines (map kept_number ks) → AreApart (λ j k. nat_eq (kept_number j) (kept_number k)) ks
numbers_apart [] h = tt
numbers_apart (k ∷ ks) h = (
  all-map (λ j. nat_eq (kept_number j) (kept_number k) ≡ false) (λ j. (nat_eq (kept_number k) (kept_number j) ≡ false) × (nat_eq (kept_number j) (kept_number k) ≡ false))
      (λ j e. (nat_eq-sym (kept_number k) (kept_number j) ∙ e, e)) ks (numbers_differ (kept_number k) ks h.1),
  numbers_apart ks h.2,
)

module _ (history : List Command) where
  -- the kept lines
  abbrev all : List (Kept Line)
  all = kept_of history

  same_variant : (c : List Bool) → replay c (take (length history) history) ≡ replay c history
  same_variant c = ap (replay c) (take-length history)

  -- the number of a kept line is in a replay where the line is seen
  number_seen : (c : List Bool) → AllByRecursion (λ k. has_line_number (kept_number k) (replay c history) ≡ is_seen c (length history) k) all
  number_seen c =
      all-map (λ k. list_any (λ j. nat_eq (kept_number j) (kept_number k)) (filter (is_seen c (length history)) all) ≡ is_seen c (length history) k)
      (λ k. has_line_number (kept_number k) (replay c history) ≡ is_seen c (length history) k)
      (λ k h.
      ap (λ (v : Variant). has_line_number (kept_number k) v) (sym (replay-seen c (length history) history ∙ same_variant c))
      ∙ any-map (λ (l : Line). nat_eq (line_of l.address) (kept_number k)) the_item (filter (is_seen c (length history)) all)
      ∙ h)
      all
      (any_same (λ j k. nat_eq (kept_number j) (kept_number k)) (is_seen c (length history)) (λ k. itself (kept_number k)) all (numbers_apart all (holding-whole history).once))
    where
      itself : (n : ℕ) → nat_eq n n ≡ true
      itself n = grind (arith, nat_tests)

  -- no replay has a line of a number that no line has
  pub no_line_seen : (c : List Bool) (line : ℕ) → is_no_line history line ≡ true → has_line_number line (replay c history) ≡ false
  no_line_seen c line h =
      any-none (λ l. nat_eq (line_of l.address) line) (replay c history).lines
      (all-map (λ l. IsLineOf t (length t) l.address) (λ l. nat_eq (line_of l.address) line ≡ false)
      (λ l is.
      let less : is.0 < length t = is.1 in
      let number : line_of l.address ≡ suc is.0 = ap line_of is.2 ∙ line_of-in t is.0 (holding-stands history).0 less in
      by (nat_eq line 0) (nat_lt (length t) line) refl refl h is.0 (line_of l.address) less number)
      (replay c history).lines (replay-stands c history).1)
    where
      t : List (List ℕ)
      t = (numbers_of history).addresses

      by : (a b : Bool) → nat_eq line 0 ≡ a → nat_lt (length t) line ≡ b → (a || b) ≡ true → (before number : ℕ) → before < length t → number ≡ suc before → nat_eq number line ≡ false
      by true b e f g before number less is = grind (arith, nat_tests, e, less, is)
      by false true e f g before number less is = grind (arith, nat_tests, f, less, is)
      by false false e f g before number less is = absurd (cc)

  -- so it is on no side
  pub no_line_on : (side : Side) (line : ℕ) → is_no_line history line ≡ true → is_on history side line ≡ false
  no_line_on side line h = ap (λ b. side.has_file && b) (no_line_seen side.choice line h) ∙ at side.has_file
    where
      at : (b : Bool) → (b && false) ≡ false
      at true = refl
      at false = refl

  module _ (on_c off_c : List Bool) (file : ℕ) where
    abbrev on : Side
    on = on_choice history on_c file

    abbrev off : Side
    off = on_choice history off_c file

    -- whether a kept line of the file is on a side
    abbrev is_kept_on : Side → Kept Line → Bool
    is_kept_on side k = side.has_file && is_seen side.choice (length history) k

    abbrev own : List (Kept Line)
    own = file_kept file all

    lines_on : (c : List Bool) → lines_if_present (replay c history) file ≡ map the_item (filter (is_kept_on (on_choice history c file)) own)
    lines_on c = at (is_present (replay c history).rows file)
      where
        at : (b : Bool) → cond b (lines_of (replay c history) file) [] ≡ map the_item (filter (λ k. b && is_seen c (length history) k) own)
        at true = ap (λ (v : Variant). lines_of v file) (sym (same_variant c)) ∙ file-replay c (length history) file history
        at false = sym (ap (map the_item) (none_of (λ k. false && is_seen c (length history) k) own (λ k. refl)))

    -- the lines of both sides
    abbrev on_lines : List Line
    on_lines = map the_item (filter (is_kept_on on) own)

    abbrev off_lines : List Line
    off_lines = map the_item (filter (is_kept_on off) own)

    abbrev is_on_one : Kept Line → Bool
    is_on_one k = is_kept_on on k || is_kept_on off k

    -- a kept line comes with its mark, if it is on one of the sides
    abbrev IsMarked : Kept Line → Type 0
    IsMarked k = (ls : List AltLine) → with_marked history on off ls (as_row (dated k)) ≡ ls ++ cond (is_on_one k) (marked on_lines off_lines k.item ∷ []) []

    -- its number is seen where it is seen
    abbrev IsNumberSeen : Kept Line → Type 0
    IsNumberSeen k = (has_line_number (kept_number k) (replay on_c history) ≡ is_seen on_c (length history) k) × (has_line_number (kept_number k) (replay off_c history) ≡ is_seen off_c (length history) k)

    -- its address is among the lines of a side where it is seen
    abbrev IsAddressSeen : Kept Line → Type 0
    IsAddressSeen k = (has_address on_lines (kept_address k) ≡ is_kept_on on k) × (has_address off_lines (kept_address k) ≡ is_kept_on off k)

    marked_row : (k : Kept Line) → IsNumberSeen k → IsAddressSeen k → IsMarked k
    marked_row k number address ls =
        (λ i. with_mark ls (as_row (dated k)) (mark_if (on.has_file && number.0 i) (off.has_file && number.1 i)))
        ∙ at (is_kept_on on k) (is_kept_on off k)
        ∙ (λ i. ls ++ cond (is_on_one k) (record { mark = mark_of (sym address.0 i) (sym address.1 i); line = kept_number k; text = k.item.text } ∷ []) [])
      where
        line_with : Bool → Bool → AltLine
        line_with s t = record { mark = mark_of s t; line = kept_number k; text = k.item.text }

        at : (s t : Bool) → with_mark ls (as_row (dated k)) (mark_if s t) ≡ ls ++ cond (s || t) (line_with s t ∷ []) []
        at true true = refl
        at true false = refl
        at false true = refl
        at false false = sym (append-nil ls)

    marked_rows : (ls : List AltLine) (ks : List (Kept Line)) → AllByRecursion IsMarked ks
        → fold (with_marked history on off) ls (map as_row (map dated ks)) ≡ ls ++ map (marked on_lines off_lines) (map the_item (filter is_on_one ks))
    marked_rows ls [] h = sym (append-nil ls)
    marked_rows ls (k ∷ ks) h =
        ap (λ ms. fold (with_marked history on off) ms (map as_row (map dated ks))) (h.0 ls)
        ∙ marked_rows (ls ++ cond (is_on_one k) (marked on_lines off_lines k.item ∷ []) []) ks h.1
        ∙ append_assoc ls (cond (is_on_one k) (marked on_lines off_lines k.item ∷ []) []) rest
        ∙ at (is_on_one k)
      where
        rest : List AltLine
        rest = map (marked on_lines off_lines) (map the_item (filter is_on_one ks))

        at : (b : Bool) → ls ++ (cond b (marked on_lines off_lines k.item ∷ []) [] ++ rest)
            ≡ ls ++ map (marked on_lines off_lines) (map the_item (cond b (k ∷ filter is_on_one ks) (filter is_on_one ks)))
        at true = refl
        at false = refl

    own_in_order : AreInOrder kept_address own
    own_in_order = in_order-filter kept_address (λ k. nat_eq k.item.file file) all (holding-stands history).1.in_order

    all_marked : AllByRecursion IsMarked own
    all_marked =
        all-both IsNumberSeen IsAddressSeen IsMarked marked_row own
        (all-filter IsNumberSeen (λ k. nat_eq k.item.file file) all
        (all-both (λ k. has_line_number (kept_number k) (replay on_c history) ≡ is_seen on_c (length history) k)
        (λ k. has_line_number (kept_number k) (replay off_c history) ≡ is_seen off_c (length history) k) IsNumberSeen (λ k h i. (h, i)) all (number_seen on_c) (number_seen off_c)))
        (all-both (λ k. has_address on_lines (kept_address k) ≡ is_kept_on on k) (λ k. has_address off_lines (kept_address k) ≡ is_kept_on off k) IsAddressSeen (λ k h i. (h, i)) own
        (has_kept (is_kept_on on) own own_in_order) (has_kept (is_kept_on off) own own_in_order))

    -- the rows of the file, each marked by its visibility, are the lines of both sides
    pub marked_sides : fold (with_marked history on off) [] (map as_row (file_dated file all)) ≡ sides history on_c off_c file
    marked_sides =
        marked_rows [] own all_marked
        ∙ ap (map (marked on_lines off_lines)) (sym (merged_kept (is_kept_on on) (is_kept_on off) own own_in_order))
        ∙ (λ i. both_sides (sym (lines_on on_c) i) (sym (lines_on off_c) i))
